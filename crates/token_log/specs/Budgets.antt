-- The log that a byte budget gives: two generations of turning filters, a set that goes over to a Bloom filter.
use Rattle.std.specs.Prelude.{◌≡◌, ℕ, ◌+◌, ◌*◌, ◌<◌, ◌≤◌, Bool, true, List, [], ◌++◌, length, if◌then◌else◌, ◌&&◌, replicate, is_ok, IfOk, Vec, vec_items, vec_len, vec_capacity, Result, MatchResult, nat_le, nat_lt}
use Rattle.std.specs.declared.alloc.Global.{Global}
use Rattle.answers.specs.declared.Refused.{Refused}
use Rattle.answers.specs.declared.Refusal.TheVariants.{HashCount, Capacity}
use Rattle.filter.specs.Filter.{Fresh}
use Rattle.filter.specs.Sets.{set_means, HeldBy}
use Rattle.filter.specs.Memory.{room_of, Buckets}
use Rattle.filter.specs.Turning.{turned}
use Rattle.filter.specs.declared.exact.ExactSet.{ExactSet}
use Rattle.filter.specs.declared.exact.TheConstants.{HEADS_PER_PLACE}
use Rattle.filter.specs.declared.turning.Form.TheVariants.{Listing}
use Rattle.filter.specs.declared.turning.TurningFilter.{TurningFilter}
use Rattle.bloom.specs.Means.{words_of, bloom_means}
use Rattle.bloom.specs.Sizes.{half, words_for, fits_hashes, Largest}
use Rattle.bloom.specs.declared.sizes.TheConstants.{MAX_BUDGET}
use Rattle.bloom.specs.Stores.{Clears}
use Rattle.bloom.specs.declared.words.Words.{Ghosts}
use Rattle.bloom.specs.declared.bloom.BloomFilter.{BloomFilter}
use Rattle.token_log.specs.declared.two_generations.TwoGenerationLog.{TwoGenerationLog}
use Rattle.token_log.specs.Generations.{Unused}
use Rattle.token_log.specs.declared.bloom_log.GenerationMemory.{GenerationMemory}
use Rattle.token_log.specs.declared.bloom_log.LogMemory.{LogMemory}

-- enough memory for a generation with the sure count c: one place more than that, and the words
abbrev pub suits : {W : Type 0} → (W → List ℕ) → ℕ → ℕ → GenerationMemory W → Bool
suits words budget c m = nat_lt c (room_of m.places) && nat_le (words_for budget) (length (words m.words))

-- and no more than that, each part of it: places with nothing in them yet, and words that are zero
pub record JustSuits (budget c : ℕ) (m : GenerationMemory (Vec ℕ Global)) : Type 0 where
  pub held : vec_capacity m.places.held ≡ c + 1
  pub links : vec_capacity m.places.links ≡ c + 1
  pub heads : vec_capacity m.places.heads ≡ (c + 1) * HEADS_PER_PLACE
  pub words : vec_capacity m.words ≡ words_for budget
  pub places_blank : (vec_items m.places.held ≡ []) × (vec_items m.places.links ≡ []) × (vec_items m.places.heads ≡ [])
  pub words_blank : vec_items m.words ≡ replicate (words_for budget) 0

abbrev pub suits_both : {W : Type 0} → (W → List ℕ) → ℕ → ℕ → LogMemory W → Bool
suits_both words budget c m = suits words budget c m.one && suits words budget c m.two

-- over any memory for words
module _ {W : Type 0} {g : Ghosts W} where
  -- the memory of a generation, as it stands: enough for one of fewer sure ones than the set has places, and of as many words
  pub record GivesBack (t : TurningFilter ExactSet (BloomFilter W g)) (m : GenerationMemory W) : Type 0 where
    pub places : m.places ≡ record { held = t.set.held; links = t.set.links; heads = t.set.heads }
    pub words : m.words ≡ t.other.memory
    pub enough : (budget c : ℕ) → c < t.set.capacity → words_for budget ≤ t.other.count → suits g.words budget c m ≡ true

  -- a generation of the sure count c that took nothing: it lists, nothing is refused, none of its words has a bit set, whatever
  -- follows them, and there are k positions
  pub record Generation (budget k c : ℕ) (t : TurningFilter ExactSet (BloomFilter W g)) : Type 0 where
    pub lists : t.form ≡ Listing
    pub fresh : Fresh c (turned set_means bloom_means t)
    pub count : t.other.count ≡ words_for budget
    pub words : (rest : List ℕ) × (words_of t.other ≡ replicate (words_for budget) 0 ++ rest)
    pub hashes : t.other.k ≡ k
    pub index : Buckets (c + 1) (vec_len t.set.heads)

  -- all of a generation's memory, and no more, is that of its set and of its Bloom filter, which stored what was not zero of the
  -- words that a budget asks for
  pub record Within (budget : ℕ) (m : GenerationMemory W) (t : TurningFilter ExactSet (BloomFilter W g)) : Type 0 where
    pub places : HeldBy m.places t.set
    pub words : Clears g.stores g.words (words_for budget) m.words t.other.memory

  -- an unused log from a budget
  pub record Budgeted (budget k c : ℕ) (s : TwoGenerationLog (TurningFilter ExactSet (BloomFilter W g))) : Type 0 where
    pub starts : s.period_start ≡ 0
    pub ones : Generation budget k c s.one
    pub twos : Generation budget k c s.two

  -- a call that makes one: refused by number 5 for a number of positions outside 1 to 64, else by 7 for a budget over the
  -- limit or too little memory, and then the memory comes back; each generation has its own part of it
  pub record Makes (budget k : ℕ) (memory : LogMemory W) (r : Result (TwoGenerationLog (TurningFilter ExactSet (BloomFilter W g))) (Refused (LogMemory W))) : Type 0 where
    pub answer : (c : ℕ) → Largest (half budget) c → is_ok r ≡ (fits_hashes k && (nat_le budget MAX_BUDGET && suits_both g.words budget c memory))
    pub cases : MatchResult r (λ s. (c : ℕ) → Largest (half budget) c → Budgeted budget k c s) (λ e. e ≡ record { refusal = if fits_hashes k then Capacity else HashCount; back = memory })
    pub kept : IfOk r (λ s. Within budget memory.one s.one × Within budget memory.two s.two)

  -- made, it is a log that no call was made of, over filters of the budget's sure count
  abbrev pub MakesUnused : ℕ → Result (TwoGenerationLog (TurningFilter ExactSet (BloomFilter W g))) (Refused (LogMemory W)) → Type 0
  MakesUnused budget r = IfOk r (λ s. (c : ℕ) → Largest (half budget) c → Unused (turned set_means bloom_means) c s)
