use Rattle.std.proofs.Common.{◌≡◌, ℕ, ◌*◌, ◌<◌, ◌≤◌, List, length, is_ok, drop, sym, ap, ◌∙◌, subst, ⊎_elim, arith}
use Rattle.std.proofs.lemmas.Bool.{cases_Bool, cond-true, cond-false}
use Rattle.bloom.specs.Bits.{with_set}
use Rattle.std.specs.List.{AllByRecursion}
use Rattle.bloom.specs.Stores.{Store}
use Rattle.bloom.specs.Changes.{bits_set, words_altered}
use Rattle.bloom.proofs.Counting.{as_many_as_bits, as_many_as_words, none_set_by_none, set_within, cleared_within}
use Rattle.bloom.proofs.laws.a_call_stores_as_often_as_it_changes.Goals as goal

pub returns-clause-recorded : goal.returns-clause-recorded
returns-clause-recorded g c b b' f r w =
    let ws : List ℕ = g.W.Words.words b.memory in
    let m : ℕ = b.count * 64 in
    let some : 0 < m = omega (arith, b.some) in
    let fits : m ≤ 64 * length ws = omega (arith, b.fits) in
    ⊎_elim
    (λ y.
    ap length (cond-true _ _ _ y) ∙ as_many_as_bits ws m f some fits b.k
    ∙ ap (bits_set m ws) (sym (w.words ∙ cond-true _ (with_set ws m f b.k) ws y)))
    (λ n. ap length (cond-false _ _ _ n) ∙ sym (none_set_by_none ws m) ∙ ap (bits_set m ws) (sym (w.words ∙ cond-false _ (with_set ws m f b.k) ws n)))
    (cases_Bool (is_ok r))

pub returns-clause-cleared : goal.returns-clause-cleared
returns-clause-cleared g c n o w h =
    as_many_as_words (g.W.Words.words o) (drop n (g.W.Words.words o)) n ∙ ap (words_altered n (g.W.Words.words o)) (sym h.words_zero)

pub returns-clause-records_within : goal.returns-clause-records_within
returns-clause-records_within g c b b' f r w =
    let P : List Store → Type 0 = AllByRecursion (λ s. s.at < b.count) in
    ⊎_elim (λ y. subst P (sym (cond-true _ _ _ y)) (set_within (g.W.Words.words b.memory) b.count f b.some b.k)) (λ n. subst P (sym (cond-false _ _ _ n)) tt) (cases_Bool (is_ok r))

pub returns-clause-clears_within : goal.returns-clause-clears_within
returns-clause-clears_within g c n w = cleared_within (g.W.Words.words w) n n (omega arith)
