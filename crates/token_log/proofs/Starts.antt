-- Logs that no call was made of stand as the unused machine.
use Rattle.std.proofs.Common.{◌≡◌, ℕ, ◌-◌, ◌*◌, false, List, [], ◌∷◌, vec_items, sym, refl, ◌∙◌, subst, ◌⊎◌, inl, inr, arith}
use Rattle.std.proofs.lemmas.Bool.{false≢true, eq-eqb, or_left, or_parts}
use Rattle.filter.specs.declared.exact.ExactSet.{ExactSet}
use Rattle.filter.specs.declared.turning.Form.{Form}
use Rattle.filter.specs.declared.turning.Form.TheVariants.{Listing}
use Rattle.filter.specs.declared.turning.TurningFilter.{TurningFilter}
use Rattle.filter.specs.Filter.{Answer, Fresh, exact}
use Rattle.filter.specs.Histories.{Says, set_says, turning_says, Since, AnswersBy}
use Rattle.filter.specs.Histories.Since.{emptied}
use Rattle.filter.specs.Sets.{set_means, SetRecords, SetEmpties}
use Rattle.filter.specs.Turning.{in_form, Turns, Returns}
use Rattle.filter.proofs.Going.{GoesBy, from_answers, set_answers_by}
use Rattle.filter.proofs.TurningGoes.{Turned, sets_turn, begins}
use Rattle.bloom.specs.declared.words.Words.{Ghosts}
use Rattle.bloom.specs.declared.bloom.BloomFilter.{BloomFilter}
use Rattle.bloom.specs.Sizes.{words_for, bits_for}
use Rattle.bloom.specs.Marks.{bloom_says}
use Rattle.bloom.specs.Means.{bloom_means, BloomRecords, BloomEmpties}
use Rattle.bloom.proofs.Going.{BloomHas, bloom_blurs, cleared, bloom_answers_by}
use Rattle.token_log.specs.declared.two_generations.TwoGenerationLog.{TwoGenerationLog}
use Rattle.token_log.specs.Budgets.{Generation, Budgeted}
use Rattle.token_log.specs.Generations.{Logs, Begun}
use Rattle.token_log.specs.Machine.{unused_periods, AnswersAsItsMachine}
use Rattle.token_log.proofs.Machine.{Stands, log_runs, answers_as_machine}

-- over any filter, where both have recorded none
module _ {F : Type 0} (R : F → ℕ → Answer → F → Type 0) (E : F → F → Type 0) (says : Says) where
  pub answers_from : (Has : F → List ℕ → Type 0) → GoesBy R E says Has → (s : TwoGenerationLog F) → Stands Has s unused_periods → AnswersAsItsMachine (Logs R E) says s
  answers_from Has goes s h = answers_as_machine (Logs R E) says (Stands Has) (log_runs R E says Has goes) s h

  pub log_answers : (one two : F) → AnswersBy R E says one → AnswersBy R E says two → (s : TwoGenerationLog F) → Begun E one two s → AnswersAsItsMachine (Logs R E) says s
  log_answers one two a b s h =
      answers_from (λ s xs. Since R E one xs s ⊎ Since R E two xs s) (from_answers R E says one two a b) s
      (record { start = h.starts; one = inl (emptied h.ones); two = inr (emptied h.twos) })

pub sets_answer : (one two : ExactSet) → two.capacity ≡ one.capacity → (s : TwoGenerationLog ExactSet) → Begun SetEmpties one two s
    → AnswersAsItsMachine (Logs SetRecords SetEmpties) (set_says one.capacity) s
sets_answer one two e =
    let P : ℕ → Type 0 = λ c. AnswersBy SetRecords SetEmpties (set_says c) two in
    log_answers SetRecords SetEmpties (set_says one.capacity) one two (set_answers_by one) (subst P e (set_answers_by two))

pub bloom_filters_answer : {W : Type 0} {g : Ghosts W} (one two : BloomFilter W g) → two.count ≡ one.count → two.k ≡ one.k → (s : TwoGenerationLog (BloomFilter W g)) → Begun BloomEmpties one two s
    → AnswersAsItsMachine (Logs (BloomRecords {g = g}) (BloomEmpties {g = g})) (bloom_says (one.count * 64) one.k) s
bloom_filters_answer {g = g} one two e f =
    let P : ℕ → ℕ → Type 0 = λ n k. AnswersBy (BloomRecords {g = g}) (BloomEmpties {g = g}) (bloom_says (n * 64) k) two in
    log_answers (BloomRecords {g = g}) (BloomEmpties {g = g}) (bloom_says (one.count * 64) one.k) one two (bloom_answers_by one)
    (subst (λ k. P one.count k) f (subst (λ n. P n two.k) e (bloom_answers_by two)))

-- a set of which nothing is refused holds nothing
none_held : (xs : List ℕ) (c : ℕ) → ((g : ℕ) → (exact xs c).refuses g ≡ false) → xs ≡ []
none_held [] c h = refl
none_held (x ∷ xs) c h = absurd (false≢true (sym (or_parts _ _ (h x)).0 ∙ or_left _ _ (eq-eqb x x refl)))

-- the filters of a log from a budget, and what they recorded
module _ {W : Type 0} {g : Ghosts W} (budget k c : ℕ) where
  abbrev Has : BloomFilter W g → List ℕ → Type 0
  Has = BloomHas (bits_for budget) k

  abbrev pub Recorded : TurningFilter ExactSet (BloomFilter W g) → List ℕ → Type 0
  Recorded = Turned (BloomRecords {g = g}) (BloomEmpties {g = g}) c (bloom_says (bits_for budget) k) Has (λ b. (xs : List ℕ) × Has b xs) (bloom_blurs (bits_for budget) k)

  pub budget_goes : GoesBy (Turns set_means (λ s. vec_items s.held) SetRecords (BloomRecords {g = g}) (BloomEmpties {g = g})) (Returns SetEmpties) (turning_says c (bloom_says (bits_for budget) k)) Recorded
  budget_goes = sets_turn (BloomRecords {g = g}) (BloomEmpties {g = g}) c (bloom_says (bits_for budget) k) Has (λ b. (xs : List ℕ) × Has b xs) (bloom_blurs (bits_for budget) k)

  generation_begins : (t : TurningFilter ExactSet (BloomFilter W g)) → Generation budget k c t → Recorded t []
  generation_begins t w =
      let fresh : Fresh c (in_form Listing (set_means t.set) (bloom_means t.other)) =
      subst (λ (o : Form). Fresh c (in_form o (set_means t.set) (bloom_means t.other))) w.lists w.fresh in
      let some = t.set.some in
      let counts : t.set.capacity - 1 ≡ c = fresh.counts in
      begins (BloomRecords {g = g}) (BloomEmpties {g = g}) c (bloom_says (bits_for budget) k) Has (λ b. (xs : List ℕ) × Has b xs) (bloom_blurs (bits_for budget) k) t w.lists (omega arith)
      (none_held (vec_items t.set.held) t.set.capacity fresh.none) ([], cleared t.other (words_for budget) k w.words.0 w.words.1 w.count w.hashes)

  pub budget_stands : (s : TwoGenerationLog (TurningFilter ExactSet (BloomFilter W g))) → Budgeted budget k c s → Stands Recorded s unused_periods
  budget_stands s h = record { start = h.starts; one = generation_begins s.one h.ones; two = generation_begins s.two h.twos }

  pub budgets_answer : (s : TwoGenerationLog (TurningFilter ExactSet (BloomFilter W g))) → Budgeted budget k c s
      → AnswersAsItsMachine (Logs (Turns set_means (λ s. vec_items s.held) SetRecords (BloomRecords {g = g}) (BloomEmpties {g = g})) (Returns SetEmpties)) (turning_says c (bloom_says (bits_for budget) k)) s
  budgets_answer s h = answers_from _ _ _ Recorded budget_goes s (budget_stands s h)
