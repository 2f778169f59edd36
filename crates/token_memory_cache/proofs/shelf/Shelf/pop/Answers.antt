use Rattle.std.proofs.Common.{◌≡◌, ℕ, ◌<◌, [], length, Some, arith, refl, sym, ap, ◌∙◌, subst}
use Rattle.record_pool.specs.Chains.{without as cut}
use Rattle.record_pool.specs.Pools.{items, nth}
use Rattle.token_memory_cache.specs.Shelves.{chains, Refilled}
use Rattle.token_memory_cache.proofs.Shelving.{shelf, length-items, read, popped_out, given_is}
use Rattle.token_memory_cache.proofs.shelf.Shelf.pop.Goals as goal

pub unwrap-requires : goal.unwrap-requires
unwrap-requires g c =
    let s = c.args.self.now in
    let t = c.args.tokens.now in
    let l = length-items s.tokens t (chains s) c.requires.stands.tokens in
    let w = g.met.O.TakeOrder.within t.count c.requires.some in
    let e : c.place-place.result ≡ g.O.TakeOrder.place t.count = c.place-place.ensures ∙ ap g.O.TakeOrder.place c.len.ensures in
    let k : c.place-place.result < length (items s.tokens t) = omega arith in
    rw (c.remove.ensures.answer ∙ read s.tokens t (chains s) c.place-place.result [] c.requires.stands.tokens k) refl

pub returns : goal.returns
returns g c =
    let s = c.args.self.now in
    let t = c.args.tokens.now in
    let l = length-items s.tokens t (chains s) c.requires.stands.tokens in
    let w = g.met.O.TakeOrder.within t.count c.requires.some in
    let e : c.place-place.result ≡ g.O.TakeOrder.place t.count = c.place-place.ensures ∙ ap g.O.TakeOrder.place c.len.ensures in
    let of_all : c.place-place.result ≡ g.O.TakeOrder.place (length (items s.tokens t)) = e ∙ ap g.O.TakeOrder.place (sym l) in
    let k : c.place-place.result < t.count = omega arith in
    record {
      tokens = subst (λ (z : ℕ). Refilled s (shelf s.names c.remove.new.self s.used) c.remove.new.chain (cut z (items s.tokens t))) of_all
          (popped_out s c.remove.new.self t c.remove.new.chain c.place-place.result _ _ c.requires.stands (c.remove.ensures.chains (chains s) k c.requires.stands.tokens));
      given = subst (λ (z : ℕ). nth (items s.tokens t) z ≡ Some c.unwrap.result) of_all
          (given_is s t c.place-place.result c.unwrap.result c.requires.stands (sym c.remove.ensures.answer ∙ c.unwrap.ensures));
    }
