use Rattle.std.proofs.Common.{◌≡◌, ℕ, ◌*◌, ◌<◌, ◌≤◌, List, length, sym, refl, ap, ◌∙◌, subst, arith}
use Rattle.std.proofs.lemmas.Bool.{cond-true, cond-false}
use Rattle.answers.specs.Successions.Succession.{new}
use Rattle.bloom.specs.Bits.{all_set, with_set}
use Rattle.bloom.specs.BitLaws.{length_with}
use Rattle.bloom.specs.Stores.{setting, Stored}
use Rattle.bloom.proofs.bloom.filtering.BloomFilterFilter.record.Goals as goal

pub returns-then-all_set : goal.returns-then-all_set
returns-then-all_set g c =
    let s = c.args.self.now in
    let ws : List ℕ = g.W.Words.words s.memory in
    let held = sym (c.all_set.ensures ∙ ap (λ m. all_set ws m c.args.f s.k) c.bits-bits.ensures) ∙ c.if-all_set.true in
    record { answer = sym (cond-true _ _ _ held); words = refl; stored = new; count = refl; hashes = refl }

pub invariant_of-self-2-clause-fits : goal.invariant_of-self-2-clause-fits
invariant_of-self-2-clause-fits g c =
    let s = c.args.self.now in
    let ws : List ℕ = g.W.Words.words s.memory in
    let m : ℕ = c.bits-bits.result in
    let some : 0 < m = omega (arith, s.some, c.bits-bits.ensures) in
    let fits : m ≤ 64 * length ws = omega (arith, s.fits, c.bits-bits.ensures) in
    let l : length (g.W.Words.words c.set_all.new.memory) ≡ length ws = ap length c.set_all.ensures.words_set ∙ length_with ws m c.args.f some fits s.k in
    omega (arith, s.fits)

pub returns : goal.returns
returns g c =
    let s = c.args.self.now in
    let f = c.args.f in
    let ws : List ℕ = g.W.Words.words s.memory in
    let n = c.bits-bits.ensures in
    let free = sym (c.all_set.ensures ∙ ap (λ m. all_set ws m f s.k) n) ∙ c.if-all_set.false in
    let P : ℕ → Type 0 = λ m. Stored g.W.Words.stores s.memory (setting ws m f s.k) c.set_all.new.memory in
    record {
      answer = sym (cond-false _ _ _ free);
      words = c.set_all.ensures.words_set ∙ ap (λ m. with_set ws m f s.k) n;
      stored = subst P n c.set_all.ensures.stored;
      count = refl;
      hashes = refl;
    }
