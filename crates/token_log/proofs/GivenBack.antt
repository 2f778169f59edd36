-- The memory that a log from a budget gives back, whatever calls it was asked.
use Rattle.std.proofs.Common.{◌≡◌, ℕ, suc, ◌*◌, true, List, vec_items, arith}
use Rattle.std.proofs.lemmas.Bool.{and_from}
use Rattle.filter.specs.declared.exact.ExactSet.{ExactSet}
use Rattle.filter.specs.declared.turning.TurningFilter.{TurningFilter}
use Rattle.filter.specs.Sets.{set_means, SetRecords, SetEmpties}
use Rattle.filter.specs.Histories.{turning_says}
use Rattle.filter.specs.Turning.{Turns, Returns}
use Rattle.filter.proofs.TurningGoes.HasTurned.{listing, over}
use Rattle.bloom.specs.declared.words.Words.{Ghosts}
use Rattle.bloom.specs.declared.bloom.BloomFilter.{BloomFilter}
use Rattle.bloom.specs.Marks.{bloom_says}
use Rattle.bloom.specs.Means.{BloomRecords, BloomEmpties}
use Rattle.bloom.specs.Sizes.{bits_for}
use Rattle.token_log.specs.declared.two_generations.TwoGenerationLog.{TwoGenerationLog}
use Rattle.token_log.specs.declared.bloom_log.GenerationMemory.{GenerationMemory}
use Rattle.token_log.specs.declared.bloom_log.LogMemory.{LogMemory}
use Rattle.token_log.specs.Budgets.{suits, suits_both, GivesBack, Budgeted}
use Rattle.token_log.specs.Generations.{Logs}
use Rattle.token_log.specs.Successions.{Call, Leads}
use Rattle.token_log.proofs.Machine.{Stands, log_runs, stood}
use Rattle.token_log.proofs.Starts.{Recorded, budget_goes, budget_stands}

module _ {W : Type 0} {g : Ghosts W} (budget k c : ℕ) where
  -- a generation keeps its places and its bits
  sized : (t : TurningFilter ExactSet (BloomFilter W g)) (xs : List ℕ) → Recorded {g = g} budget k c t xs → (t.set.capacity ≡ suc c) × (t.other.count * 64 ≡ bits_for budget)
  sized t xs (listing p n h b) = (h.capacity, b.1.bits)
  sized t xs (over p n h ys s) = (s.capacity, h.bits)

  enough : (t : TurningFilter ExactSet (BloomFilter W g)) (xs : List ℕ) (m : GenerationMemory W) → Recorded {g = g} budget k c t xs → GivesBack t m → suits g.words budget c m ≡ true
  enough t xs m h w = let z = sized t xs h in w.enough budget c (omega (arith, z.0)) (omega (arith, z.1))

  pub given_back : (s s' : TwoGenerationLog (TurningFilter ExactSet (BloomFilter W g))) (ks : List Call) (m : LogMemory W) → Budgeted budget k c s
      → Leads (Logs (Turns set_means (λ s. vec_items s.held) SetRecords (BloomRecords {g = g}) (BloomEmpties {g = g})) (Returns SetEmpties)) s ks s'
      → GivesBack s'.one m.one → GivesBack s'.two m.two → suits_both g.words budget c m ≡ true
  given_back s s' ks m h w one two =
      let at = (stood _ (turning_says c (bloom_says (bits_for budget) k)) (Stands (Recorded {g = g} budget k c)) (log_runs _ _ _ (Recorded {g = g} budget k c) (budget_goes {g = g} budget k c)) s s' ks (budget_stands budget k c s h) w).0 in
      and_from _ _ (enough s'.one _ m.one at.one one) (enough s'.two _ m.two at.two two)
