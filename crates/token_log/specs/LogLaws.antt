-- Lemmas on what a log of two generations bars before and after a call: what its `impl` owes the interface.
use Rattle.std.proofs.Common.{ℕ, is_ok, rules}
use Rattle.filter.specs.Filter.{Meaning, Answer as Reply, Records, Emptied}
use Rattle.token_log.specs.declared.two_generations.TwoGenerationLog.{TwoGenerationLog}
use Rattle.token_log.specs.Log.{Query, Answer, Answered}
use Rattle.token_log.specs.Generations.{barred, HandsOn, Anew, Logs}
use Rattle.token_log.specs.Generations.Logs.{never, before, in_one, in_two, next, afresh}

-- a call told by the accounts of the filters, told by their meanings
module _ {F : Type 0} (m : F → Meaning) where
  abbrev pub by_meaning : F → ℕ → Reply → F → Type 0
  by_meaning a f r a' = Records f (m a) (m a') r

  abbrev pub emptied_by_meaning : F → F → Type 0
  emptied_by_meaning a a' = Emptied (m a) (m a')

  module _ (R : F → ℕ → Reply → F → Type 0) (E : F → F → Type 0) (recorded : (a a' : F) (f : ℕ) (r : Reply) → R a f r a' → Records f (m a) (m a') r)
      (emptied : (a a' : F) → E a a' → Emptied (m a) (m a')) where
    handed : (a a' : F) (f : ℕ) (r : Answer) → HandsOn R a f r a' → HandsOn by_meaning a f r a'
    handed a a' f r w = record { reply = w.reply; records = recorded a a' f w.reply w.records; answer = w.answer }

    anew : (a a' : F) (f : ℕ) (r : Answer) → Anew R E a f r a' → Anew by_meaning emptied_by_meaning a f r a'
    anew a a' f r w = record { between = w.between; emptied = emptied a w.between w.emptied; recorded = handed w.between a' f r w.recorded }

    pub logs_mean : (s s' : TwoGenerationLog F) (x : Query) (r : Answer) → Logs R E s x r s' → Logs by_meaning emptied_by_meaning s x r s'
    logs_mean s s' x r (never z a e) = never z a e
    logs_mean s s' x r (before z b a e) = before z b a e
    logs_mean s s' x r (in_one a b p w o) = in_one a b p (handed s.one s'.one x.low r w) o
    logs_mean s s' x r (in_two a b p o w) = in_two a b p o (handed s.two s'.two x.low r w)
    logs_mean s s' x r (next a b p o w) = next a b p o (anew s.one s'.two x.low r w)
    logs_mean s s' x r (afresh z a p o w) = afresh z a p (emptied s.one s'.one o) (anew s.two s'.two x.low r w)

  tied_mean : (s s' : TwoGenerationLog F) (x : Query) (r : Answer) → Logs by_meaning emptied_by_meaning s x r s' → Answered x (is_ok r) (barred m s) (barred m s')
  tied_mean = search rules

  pub tied_by : (R : F → ℕ → Reply → F → Type 0) (E : F → F → Type 0) → ((a a' : F) (f : ℕ) (r : Reply) → R a f r a' → Records f (m a) (m a') r)
      → ((a a' : F) → E a a' → Emptied (m a) (m a'))
      → (s s' : TwoGenerationLog F) (x : Query) (r : Answer) → Logs R E s x r s' → Answered x (is_ok r) (barred m s) (barred m s')
  tied_by R E recorded emptied s s' x r w = tied_mean s s' x r (logs_mean R E recorded emptied s s' x r w)
