-- The memory of a set.
use Rattle.std.specs.Prelude.{◌≡◌, ℕ, ◌*◌, ◌/◌, ◌^◌, ◌<◌, ◌≤◌, min, vec_capacity}
use Rattle.filter.specs.declared.exact.Places.{Places}
use Rattle.filter.specs.declared.exact.TheConstants.{HEADS_PER_PLACE}

-- for how many fingerprints there is a place: an element to hold it, a link, and its heads
abbrev pub room_of : Places → ℕ
room_of p = min (min (vec_capacity p.held) (vec_capacity p.links)) (vec_capacity p.heads / HEADS_PER_PLACE)

-- as many buckets as suit so many places: the least power of 2 that is at least twice their number
pub record Buckets (capacity count : ℕ) : Type 0 where
  pub least : capacity * 2 ≤ count
  pub most : count < capacity * HEADS_PER_PLACE
  pub power : (n : ℕ) × (count ≡ 2 ^ n)
