-- What a Bloom filter of its words means, and what its calls do to these.
use Rattle.std.specs.Prelude.{◌≡◌, ℕ, ◌*◌, [], List, is_ok, if◌then◌else◌}
use Rattle.filter.specs.Filter.{Meaning, Answer, reply}
use Rattle.bloom.specs.Bits.{with_set}
use Rattle.bloom.specs.Bloom.{bloom}
use Rattle.bloom.specs.Stores.{Store, setting, clearing, Stored, Clears}
use Rattle.bloom.specs.declared.words.Words.{Ghosts}
use Rattle.bloom.specs.declared.bloom.BloomFilter.{BloomFilter}
use Rattle.bloom.specs.declared.bits.TheConstants.{WORD_BITS}

module _ {W : Type 0} {g : Ghosts W} where
  -- all words of its memory: its own, and those past them
  abbrev pub words_of : BloomFilter W g → List ℕ
  words_of b = g.words b.memory

  -- how many bits its own words have
  abbrev pub bits_of : BloomFilter W g → ℕ
  bits_of b = b.count * WORD_BITS

  abbrev pub bloom_means : BloomFilter W g → Meaning
  bloom_means b = bloom (words_of b) (bits_of b) b.k

  -- the stores of a call of record: of a fingerprint that is accepted, one for each of its bits that is clear
  abbrev pub stores_of : BloomFilter W g → ℕ → Answer → List Store
  stores_of b f r = if is_ok r then setting (words_of b) (bits_of b) f b.k else []

  -- a call of record: the bits of a fingerprint that is accepted are set, by just these stores, and else nothing is altered
  pub record BloomRecords (b : BloomFilter W g) (f : ℕ) (r : Answer) (b' : BloomFilter W g) : Type 0 where
    pub answer : r ≡ reply (bloom_means b) f
    pub words : words_of b' ≡ (if is_ok r then with_set (words_of b) (bits_of b) f b.k else words_of b)
    pub stored : Stored g.stores b.memory (stores_of b f r) b'.memory
    pub count : b'.count ≡ b.count
    pub hashes : b'.k ≡ b.k

  -- a call of empty: its own words are zero, by a store for each that is not
  pub record BloomEmpties (b b' : BloomFilter W g) : Type 0 where
    pub memory : Clears g.stores g.words b.count b.memory b'.memory
    pub count : b'.count ≡ b.count
    pub hashes : b'.k ≡ b.k
