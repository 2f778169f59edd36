-- Stores to memory that holds words: which ones are made, the newest first.
use Rattle.std.specs.Prelude.{◌≡◌, ℕ, zero, suc, ◌/◌, ◌%◌, ◌^◌, if◌then◌else◌, List, [], ◌∷◌, ◌++◌, ◌==◌, drop, replicate, bit_or, slice_index}
use Rattle.answers.specs.Successions.{Succession}
use Rattle.bloom.specs.Bits.{bit, set_bit, position, with_set}
use Rattle.bloom.specs.declared.bits.TheConstants.{WORD_BITS}

-- at which place, and the word that stands there from then on
pub record Store : Type 0 where
  pub at : ℕ
  pub word : ℕ

-- the one that sets the bit at position p
abbrev pub setting_bit : List ℕ → ℕ → Store
setting_bit ws p = record { at = p / WORD_BITS; word = bit_or (slice_index ws (p / WORD_BITS)) (2 ^ (p % WORD_BITS)) }

-- those that set the first n positions of f: one for each whose bit is clear as its turn comes
unfoldable pub setting : List ℕ → ℕ → ℕ → ℕ → List Store
setting ws m f zero = []
setting ws m f (suc n) =
    if bit (with_set ws m f n) (position m f n) then setting ws m f n else setting_bit (with_set ws m f n) (position m f n) ∷ setting ws m f n

-- those that make the first n words zero: one for each that is not
unfoldable pub clearing : List ℕ → ℕ → List Store
clearing ws zero = []
clearing ws (suc n) = if slice_index ws n == 0 then clearing ws n else record { at = n; word = 0 } ∷ clearing ws n

-- over memory, by its account S of a store
module _ {W : Type 0} (S : W → ℕ → ℕ → W → Type 0) where
  -- just these stores lead from one memory to another
  abbrev pub Stored : W → List Store → W → Type 0
  Stored = Succession (λ w s w'. S w s.at s.word w')

  -- by what words it holds
  module _ (words : W → List ℕ) where
    -- the bit at position p was set: by a store, if it was clear
    pub record SetsBit (p : ℕ) (w w' : W) : Type 0 where
      pub words_set : words w' ≡ set_bit (words w) p
      pub stored : Stored w (if bit (words w) p then [] else setting_bit (words w) p ∷ []) w'

    -- the first k positions of f among m bits were set
    pub record Sets (m f k : ℕ) (w w' : W) : Type 0 where
      pub words_set : words w' ≡ with_set (words w) m f k
      pub stored : Stored w (setting (words w) m f k) w'

    -- the first n words were made zero, and those past them are as they were
    pub record Clears (n : ℕ) (w w' : W) : Type 0 where
      pub words_zero : words w' ≡ replicate n 0 ++ drop n (words w)
      pub stored : Stored w (clearing (words w) n) w'
