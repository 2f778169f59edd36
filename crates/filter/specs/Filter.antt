-- What a filter means, and what recording and emptying do to that.
use Rattle.std.specs.Prelude.{◌≡◌, ℕ, ◌+◌, ◌-◌, ◌<◌, Bool, true, false, if◌then◌else◌, ◌||◌, List, length, is_ok, Ok, Err, Result, ◌==◌}
use Rattle.answers.specs.declared.FilterCause.{FilterCause}
use Rattle.answers.specs.declared.FilterCause.TheVariants.{Held, Full}
use Rattle.filter.specs.Lists.{member}

-- which fingerprints it refuses, and by which cause; how many further ones are sure; and how many are, once emptied
pub record Meaning : Type 0 where
  pub refuses : ℕ → Bool
  pub cause : ℕ → FilterCause
  pub sure : ℕ
  pub count : ℕ

-- what a call of record is answered
abbrev pub Answer : Type 0
Answer = Result (Unit {0}) FilterCause

-- what it answers to a fingerprint
abbrev pub reply : Meaning → ℕ → Answer
reply m f = if m.refuses f then Err (m.cause f) else Ok tt

-- nothing of the meaning was altered
pub record Same (m m' : Meaning) : Type 0 where
  pub refused : (g : ℕ) → m'.refuses g ≡ m.refuses g
  pub causes : (g : ℕ) → m'.cause g ≡ m.cause g
  pub sures : m'.sure ≡ m.sure
  pub counts : m'.count ≡ m.count

-- f was recorded: it is refused now, and none was freed; a sure number above 0 falls by 1, and while it is still
-- above 0 only f was added; at 0 it stays until emptying
pub record Recorded (f : ℕ) (m m' : Meaning) : Type 0 where
  pub now : m'.refuses f ≡ true
  pub kept : (g : ℕ) → m.refuses g ≡ true → m'.refuses g ≡ true
  pub lower : 0 < m.sure → m'.sure + 1 ≡ m.sure
  pub only : 0 < m'.sure → (g : ℕ) → m'.refuses g ≡ (f == g || m.refuses g)
  pub stays : m.sure ≡ 0 → m'.sure ≡ 0
  pub counts : m'.count ≡ m.count

-- a call of record: refused exactly for a refused fingerprint
pub record Records (f : ℕ) (m m' : Meaning) (r : Answer) : Type 0 where
  pub answer : r ≡ reply m f
  pub same : is_ok r ≡ false → Same m m'
  pub recorded : is_ok r ≡ true → Recorded f m m'

-- a call of empty: nothing is refused, and the sure number is the sure count
pub record Emptied (m m' : Meaning) : Type 0 where
  pub none : (g : ℕ) → m'.refuses g ≡ false
  pub sures : m'.sure ≡ m.count
  pub counts : m'.count ≡ m.count

-- a set that holds xs, with so many places: it refuses what it holds, and everything when full
abbrev pub exact : List ℕ → ℕ → Meaning
exact xs capacity = record {
  refuses = λ f. member f xs || (length xs == capacity);
  cause = λ f. if member f xs then Held else Full;
  sure = capacity - length xs;
  count = capacity;
}

-- nothing is refused, and c are sure
pub record Fresh (c : ℕ) (m : Meaning) : Type 0 where
  pub none : (g : ℕ) → m.refuses g ≡ false
  pub sures : m.sure ≡ c
  pub counts : m.count ≡ c
