-- Worked examples of what is remembered: the log, sizes and positions of filters, the client's cache.
use Rattle.std.specs.Prelude.{◌≡◌, ℕ, List, [], ◌∷◌, map, Ok, Err}
use Rattle.answers.specs.declared.LogCause.TheVariants.{Held, BeforePeriod}
use Rattle.filter.specs.Filter.{Answer as Reply, Records, Emptied, exact}
use Rattle.filter.specs.Sets.{SetRecords, SetEmpties}
use Rattle.filter.specs.declared.exact.ExactSet.{ExactSet}
use Rattle.bloom.specs.Sizes.{half, Largest}
use Rattle.bloom.specs.Bits.{position}
use Rattle.token_log.specs.declared.two_generations.TwoGenerationLog.{TwoGenerationLog}
use Rattle.token_log.specs.Generations.{Begun, Logs}
use Rattle.token_log.specs.Log.{Query, Answer}
use Rattle.token_log.specs.Successions.{Call, Leads}
use Rattle.token_store.specs.Store.{Bytes}
use Rattle.token_memory_cache.specs.Cache.{Entry, stored}

-- a call on a log under a lifetime of ten seconds
abbrev pub query : ℕ → ℕ → Query
query low issued = record { low = low; issued = issued; lifetime = 10000000000 }

-- eight calls over four periods, the newest first, and what they are answered
abbrev pub periods : List Query
periods = query 10 1020 ∷ query 11 1050 ∷ query 9 1010 ∷ query 10 1020 ∷ query 9 1010 ∷ query 7 1000 ∷ query 8 999 ∷ query 7 1000 ∷ []

abbrev pub answers : List Answer
answers = Err BeforePeriod ∷ Ok tt ∷ Err Held ∷ Ok tt ∷ Ok tt ∷ Err Held ∷ Ok tt ∷ Ok tt ∷ []

-- whatever answers these calls get on a new log over two exact sets of four places, they are those
abbrev pub TheLogsRun : Type 0
TheLogsRun =
    (one two : ExactSet) (s s' : TwoGenerationLog ExactSet) (ks : List Call) → one.capacity ≡ 4 → two.capacity ≡ 4 → Begun SetEmpties one two s
    → map (λ k. k.query) ks ≡ periods → Leads (Logs SetRecords SetEmpties) s ks s' → map (λ k. k.answer) ks ≡ answers

-- the same by lists: a set of four places by what it holds, an unused log over two of them, and the calls with their answers
abbrev pub four_record : List ℕ → ℕ → Reply → List ℕ → Type 0
four_record xs f r ys = Records f (exact xs 4) (exact ys 4) r

abbrev pub four_empty : List ℕ → List ℕ → Type 0
four_empty xs ys = Emptied (exact xs 4) (exact ys 4)

abbrev pub unused : TwoGenerationLog (List ℕ)
unused = record { period_start = 0; one = []; two = [] }

abbrev pub called : List Query → List Answer → List Call
called [] rs = []
called (x ∷ xs) [] = []
called (x ∷ xs) (r ∷ rs) = record { query = x; answer = r } ∷ called xs rs

-- the first three positions of a fingerprint among 64 bits
abbrev pub positions : ℕ → List ℕ
positions f = map (position 64 f) (0 ∷ 1 ∷ 2 ∷ [])

-- names and a token
abbrev pub a : Bytes
a = 0x41 ∷ []

abbrev pub b : Bytes
b = 0x42 ∷ []

abbrev pub c : Bytes
c = 0x43 ∷ []

abbrev pub token : Bytes
token = 1 ∷ 2 ∷ []

-- a store to a name, of at most two names and two tokens a name
abbrev pub to : Bytes → List Entry → List Entry
to n es = stored 2 2 n token es

pub record MemoryExamples : Type 0 where
  pub run : TheLogsRun
  pub occurs : (last : TwoGenerationLog (List ℕ)) × Leads (Logs four_record four_empty) unused (called periods answers) last
  pub sure47 : Largest (half 47) 0
  pub sure48 : Largest (half 48) 3
  pub sure112 : Largest (half 112) 7
  pub sure128 : Largest (half 128) 7
  pub low : positions 5 ≡ 5 ∷ 6 ∷ 7 ∷ []
  pub high : positions 8589934597 ≡ 5 ∷ 8 ∷ 11 ∷ []
  pub pushed_out : to c (to a (to b (to a []))) ≡ record { name = a; tokens = token ∷ [] } ∷ record { name = c; tokens = token ∷ [] } ∷ []
