-- Lemmas on what a Bloom filter means before and after a call: what its `impl` owes the interface.
use Rattle.std.proofs.Common.{◌≡◌, ℕ, ◌*◌, ◌<◌, ◌≤◌, Bool, true, false, cond, List, ◌++◌, length, drop, replicate, is_ok, refl, ap, ◌∙◌, arith}
use Rattle.std.proofs.lemmas.Bool.{cond-true, cond-false}
use Rattle.filter.specs.Filter.{Answer, Records, Emptied, reply}
use Rattle.filter.specs.SetLaws.{same}
use Rattle.bloom.specs.Bits.{with_set}
use Rattle.bloom.specs.Bloom.{bloom}
use Rattle.bloom.specs.declared.words.Words.{Ghosts}
use Rattle.bloom.specs.declared.bloom.BloomFilter.{BloomFilter}
use Rattle.bloom.specs.Means.{bloom_means, BloomRecords, BloomEmpties}
use Rattle.bloom.specs.BitLaws.{length_with, refuses_f, refuses_still, none_set}

-- words ws, and vs after an answer
module _ (ws vs : List ℕ) (m f k : ℕ) (r : Answer) (some : 0 < m) (fits : m ≤ 64 * length ws) (answer : r ≡ reply (bloom ws m k) f) (words : vs ≡ cond (is_ok r) (with_set ws m f k) ws) where
  records_bloom : Records f (bloom ws m k) (bloom vs m k) r
  records_bloom = record {
    answer = answer;
    same = λ n. rw (words ∙ cond-false _ _ _ n) (same (bloom ws m k));
    recorded = λ y. rw (words ∙ cond-true _ _ _ y) (record {
      now = refuses_f ws m f some fits k;
      kept = refuses_still ws m f some fits k;
      lower = λ l. absurd (omega arith);
      only = λ l. absurd (omega arith);
      stays = λ l. refl;
      counts = refl;
    });
  }

-- told with other numbers that are the same
renamed : (ws vs : List ℕ) (m m' f k k' : ℕ) (r : Answer) → m' ≡ m → k' ≡ k → Records f (bloom ws m k) (bloom vs m k) r → Records f (bloom ws m k) (bloom vs m' k') r
renamed ws vs m m' f k k' r e h w = rw (e, h) w

emptied_bloom : (ws vs rest : List ℕ) (m n n' k k' : ℕ) → vs ≡ replicate n 0 ++ rest → n' ≡ n → k' ≡ k → 0 < n → 0 < k → Emptied (bloom ws m k) (bloom vs (n' * 64) k')
emptied_bloom ws vs rest m n n' k k' e c h s t = rw (e, c, h) (record { none = λ g. none_set n g k rest s t; sures = refl; counts = refl })

module _ {W : Type 0} {g : Ghosts W} where
  pub bloom_recorded : (b b' : BloomFilter W g) (f : ℕ) (r : Answer) → BloomRecords b f r b' → Records f (bloom_means b) (bloom_means b') r
  bloom_recorded b b' f r w =
      let ws : List ℕ = g.words b.memory in
      let vs : List ℕ = g.words b'.memory in
      let m : ℕ = b.count * 64 in
      let some : 0 < m = omega (arith, b.some) in
      let fits : m ≤ 64 * length ws = omega (arith, b.fits) in
      renamed ws vs m (b'.count * 64) f b.k b'.k r (ap (λ z. z * 64) w.count) w.hashes (records_bloom ws vs m f b.k r some fits w.answer w.words)

  pub bloom_emptied : (b b' : BloomFilter W g) → BloomEmpties b b' → Emptied (bloom_means b) (bloom_means b')
  bloom_emptied b b' w =
      emptied_bloom (g.words b.memory) (g.words b'.memory) (drop b.count (g.words b.memory)) (b.count * 64) b.count b'.count b.k b'.k w.memory.words_zero w.count w.hashes
      b.some b.hashes
