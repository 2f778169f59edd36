-- What an emptied filter answers, and what the log makes of a filter's answer.
use Rattle.std.proofs.Common.{◌≡◌, ℕ, true, is_ok, Ok, Err, refl, ap, ◌∙◌}
use Rattle.std.proofs.lemmas.Bool.{cond-false}
use Rattle.filter.specs.Filter.{Meaning, Answer as Reply}
use Rattle.token_log.specs.Log.{Answer, raised}
use Rattle.token_log.specs.Generations.{Anew}
use Rattle.token_log.specs.LogLaws.{by_meaning, emptied_by_meaning}

ok_raised : (q : Reply) → is_ok (raised q) ≡ is_ok q
ok_raised (Ok taken) = refl
ok_raised (Err cause) = refl

-- a filter's answer that is handed on accepts just if it did
pub raised_ok : (r : Answer) (q : Reply) → r ≡ raised q → is_ok r ≡ is_ok q
raised_ok r q e = ap is_ok e ∙ ok_raised q

-- an emptied filter takes what comes
pub takes : {F : Type 0} (m : F → Meaning) (a a' : F) (f : ℕ) (r : Answer) → Anew (by_meaning m) (emptied_by_meaning m) a f r a' → is_ok r ≡ true
takes m a a' f r w =
    raised_ok r w.recorded.reply w.recorded.answer ∙ ap is_ok (w.recorded.records.answer ∙ cond-false _ _ _ (w.emptied.none f))
