use Rattle.std.proofs.Common.{◌≡◌, ℕ, ◌<◌, false, nat_eq, arith, sym, ◌∙◌, subst}
use Rattle.std.proofs.lemmas.Bool.{eqb-true, eqb-false}
use Rattle.token_memory_cache.specs.Shelves.{entries, Took}
use Rattle.token_memory_cache.proofs.Finding.{found, not_found}
use Rattle.token_memory_cache.proofs.Storing.{some_token, back_room, took_none, took_more, took_last}
use Rattle.token_memory_cache.proofs.shelf.Shelf.take.Goals.{then-not-is_empty, else-not-is_empty}
use Rattle.token_memory_cache.proofs.shelf.Shelf.take.Goals as goal

some_left : (n : ℕ) → nat_eq n 0 ≡ false → 0 < n
some_left n e = let z = eqb-false n 0 e in omega arith

pub returns-in_err-k : goal.returns-in_err-k
returns-in_err-k g c names tokens h =
    let s = c.args.self.now in
    let n = c.args.name.now in
    subst (Took g.O.TakeOrder.place names tokens n s s) (sym c.from_residual.ensures) (took_none g.O.TakeOrder.place n s (not_found n (entries s) (sym c.find.ensures ∙ c.in_err-k.was)) names tokens h)

pub pop-token-requires-clause-some : goal.pop-token-requires-clause-some
pop-token-requires-clause-some g c =
    let s = c.args.self.now in
    let n = c.args.name.now in
    let a = found n (entries s) c.in_ok-k.k c.requires.apart (sym c.find.ensures ∙ c.in_ok-k.was) in
    some_token n s c.take_off-chain.new.self c.take_off-chain.result c.in_ok-k.k c.requires.apart a c.take_off-chain.ensures

pub put_back-requires-clause-room : goal.put_back-requires-clause-room
put_back-requires-clause-room g c =
    let s = c.args.self.now in
    let n = c.args.name.now in
    let a = found n (entries s) c.in_ok-k.k c.requires.apart (sym c.find.ensures ∙ c.in_ok-k.was) in
    back_room n s c.take_off-chain.new.self c.pop-token.new.self c.take_off-chain.result c.pop-token.new.tokens c.in_ok-k.k _ c.requires.stands a c.take_off-chain.ensures c.pop-token.ensures.tokens

pub returns : goal.returns
returns g c names tokens h =
    let s = c.args.self.now in
    let n = c.args.name.now in
    let a = found n (entries s) c.in_ok-k.k c.requires.apart (sym c.find.ensures ∙ c.in_ok-k.was) in
    elim c.if-not-is_empty.branch [
      | then-not-is_empty w ↦ rw w.self-is (took_more g.O.TakeOrder.place g.met.O.TakeOrder.within n s c.take_off-chain.new.self c.pop-token.new.self c.take_off-chain.result c.pop-token.new.tokens c.in_ok-k.k c.pop-token.result c.requires.short
          a c.take_off-chain.ensures c.pop-token.ensures.tokens c.pop-token.ensures.given w.put_back.new.self (some_left c.pop-token.new.tokens.count (sym c.is_empty.ensures ∙ w.if-not-is_empty.true)) w.put_back.ensures names tokens h)
      | else-not-is_empty w ↦ rw w.self-is (took_last g.O.TakeOrder.place g.met.O.TakeOrder.within n s c.take_off-chain.new.self c.pop-token.new.self c.take_off-chain.result c.pop-token.new.tokens c.in_ok-k.k c.pop-token.result c.requires.short
          a c.take_off-chain.ensures c.pop-token.ensures.tokens c.pop-token.ensures.given (eqb-true c.pop-token.new.tokens.count 0 (sym c.is_empty.ensures ∙ w.if-not-is_empty.false)) names tokens h)
    ]
