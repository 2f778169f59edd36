-- A Bloom filter answers by the fingerprints it recorded since it was emptied.
use Rattle.std.proofs.Common.{◌≡◌, ℕ, ◌*◌, ◌<◌, ◌≤◌, Bool, true, false, if◌then◌else◌, ◌||◌, List, [], ◌∷◌, ◌++◌, length, is_ok, Ok, Err, drop, ◌%◌, mod-lt, replicate, sym, refl, ap, ◌∙◌, ⊎_elim, arith}
use Rattle.std.proofs.Math.Bool.{or_assoc, or-false}
use Rattle.std.specs.List.{list_all}
use Rattle.std.proofs.lemmas.Bool.{cases_Bool, cond-true, cond-false, both_ways, eq-eqb, or_left, or_right}
use Rattle.std.proofs.lemmas.List.{append_assoc}
use Rattle.answers.specs.declared.FilterCause.TheVariants.{Held}
use Rattle.filter.specs.Filter.{Answer, reply}
use Rattle.filter.specs.Lists.{member}
use Rattle.filter.specs.Histories.{recorded_with, TakesRefusedAsRecorded, AnswersBy}
use Rattle.filter.proofs.Going.{GoesBy, joined, kept, answers_by}
use Rattle.filter.proofs.TurningGoes.{Blurs}
use Rattle.bloom.specs.declared.words.Words.{Ghosts}
use Rattle.bloom.specs.declared.bloom.BloomFilter.{BloomFilter}
use Rattle.bloom.specs.Bits.{bit, step, with_set}
use Rattle.bloom.specs.BitLaws.{all_from_first, all-at, bits_with, no_bit}
use Rattle.bloom.proofs.Positions.{position_lt}
use Rattle.bloom.specs.Bloom.{bloom}
use Rattle.bloom.specs.Means.{BloomRecords, BloomEmpties}
use Rattle.bloom.specs.Marks.{positions, marked, bloom_says}

-- the m bits are those of the positions of xs
abbrev Marks : ℕ → ℕ → List ℕ → List ℕ → Type 0
Marks m k xs ws = (p : ℕ) → p < m → bit ws p ≡ marked m k xs p

marked-append : (m k : ℕ) (xs ys : List ℕ) (p : ℕ) → marked m k (xs ++ ys) p ≡ (marked m k xs p || marked m k ys p)
marked-append m k [] ys p = refl
marked-append m k (x ∷ xs) ys p =
    ap (λ z. member p (positions m k x) || z) (marked-append m k xs ys p) ∙ sym (or_assoc (member p (positions m k x)) (marked m k xs p) (marked m k ys p))

marked_push : (m k : ℕ) (xs : List ℕ) (f p : ℕ) → marked m k (xs ++ f ∷ []) p ≡ (marked m k xs p || member p (positions m k f))
marked_push m k xs f p = marked-append m k xs (f ∷ []) p ∙ ap (λ z. marked m k xs p || z) (or-false (member p (positions m k f)))

-- two tests that agree on each of a list
all_alike : (a b : ℕ → Bool) (ps : List ℕ) → ((p : ℕ) → member p ps ≡ true → a p ≡ b p) → list_all a ps ≡ list_all b ps
all_alike a b [] h = refl
all_alike a b (p ∷ ps) h = rw (h p (or_left _ _ (eq-eqb p p refl)), all_alike a b ps (λ q l. h q (or_right _ _ l))) refl

answered : (m k : ℕ) (xs ws : List ℕ) (f : ℕ) → 0 < m → Marks m k xs ws → reply (bloom ws m k) f ≡ bloom_says m k xs f
answered m k xs ws f some h =
    ap (λ z. if z then Err Held else Ok tt)
    (sym (all_from_first ws m f k) ∙ all_alike (bit ws) (marked m k xs) (positions m k f) (λ p l. h p (position_lt m (step m f) k (f % m) p (mod-lt f some) l)))

says_no : (m k : ℕ) (xs : List ℕ) (f : ℕ) → is_ok (bloom_says m k xs f) ≡ false → list_all (marked m k xs) (positions m k f) ≡ true
says_no m k xs f h =
    ⊎_elim (λ y. y) (λ n. absurd (both_ways _ h (ap is_ok (cond-false _ _ _ n)))) (cases_Bool (list_all (marked m k xs) (positions m k f)))

or_within : (a b : Bool) → (b ≡ true → a ≡ true) → (a || b) ≡ a
or_within true b h = refl
or_within false true h = sym (h refl)
or_within false false h = refl

-- what is refused may be counted as recorded: all its positions are marked
marked_again : (m k : ℕ) (xs : List ℕ) (f : ℕ) → is_ok (bloom_says m k xs f) ≡ false → (p : ℕ) → marked m k (xs ++ f ∷ []) p ≡ marked m k xs p
marked_again m k xs f h p = marked_push m k xs f p ∙ or_within _ _ (all-at (marked m k xs) (positions m k f) (says_no m k xs f h) p)

-- the words after an answer
marked_on : (m k : ℕ) (xs ws vs : List ℕ) (f : ℕ) (r : Answer) → 0 < m → m ≤ 64 * length ws → Marks m k xs ws → r ≡ bloom_says m k xs f
    → vs ≡ (if is_ok r then with_set ws m f k else ws) → Marks m k (recorded_with (bloom_says m k) xs f) vs
marked_on m k xs ws vs f r some fits h a e p l =
    ⊎_elim
    (λ (y : is_ok r ≡ true).
    ap (λ z. bit z p) (e ∙ cond-true _ _ _ y) ∙ bits_with ws m f some fits k p ∙ ap (λ z. z || member p (positions m k f)) (h p l)
    ∙ sym (ap (λ z. marked m k z p) (joined (bloom_says m k) xs f (ap is_ok (sym a) ∙ y)) ∙ marked_push m k xs f p))
    (λ (n : is_ok r ≡ false).
    ap (λ z. bit z p) (e ∙ cond-false _ _ _ n) ∙ h p l ∙ sym (ap (λ z. marked m k z p) (kept (bloom_says m k) xs f (ap is_ok (sym a) ∙ n))))
    (cases_Bool (is_ok r))

-- a filter of m bits and k positions that recorded xs
pub record BloomHas {W : Type 0} {g : Ghosts W} (m k : ℕ) (b : BloomFilter W g) (xs : List ℕ) : Type 0 where
  pub bits : b.count * 64 ≡ m
  pub hashes : b.k ≡ k
  pub marks : (p : ℕ) → p < m → bit (g.words b.memory) p ≡ marked m k xs p

module _ {W : Type 0} {g : Ghosts W} (m k : ℕ) where
  recorded : (b b' : BloomFilter W g) (xs : List ℕ) (f : ℕ) (r : Answer) → BloomHas m k b xs → BloomRecords b f r b'
      → (r ≡ bloom_says m k xs f) × BloomHas m k b' (recorded_with (bloom_says m k) xs f)
  recorded b b' xs f r h w =
      let ws : List ℕ = g.words b.memory in
      let vs : List ℕ = g.words b'.memory in
      let some : 0 < m = omega (arith, h.bits, b.some) in
      let fits : m ≤ 64 * length ws = omega (arith, h.bits, b.fits) in
      let a : r ≡ bloom_says m k xs f =
      w.answer ∙ ap (λ z. reply (bloom ws z b.k) f) h.bits ∙ ap (λ z. reply (bloom ws m z) f) h.hashes ∙ answered m k xs ws f some h.marks in
      let e : vs ≡ (if is_ok r then with_set ws m f k else ws) =
      w.words ∙ ap (λ z. if is_ok r then with_set ws z f b.k else ws) h.bits ∙ ap (λ z. if is_ok r then with_set ws m f z else ws) h.hashes in (
        a,
        record {
          bits = ap (λ z. z * 64) w.count ∙ h.bits;
          hashes = w.hashes ∙ h.hashes;
          marks = marked_on m k xs ws vs f r some fits h.marks a e;
        },
      )

  emptied : (b b' : BloomFilter W g) (xs : List ℕ) → BloomHas m k b xs → BloomEmpties b b' → BloomHas m k b' []
  emptied b b' xs h w = record {
    bits = ap (λ z. z * 64) w.count ∙ h.bits;
    hashes = w.hashes ∙ h.hashes;
    marks = λ p l. ap (λ z. bit z p) w.memory.words_zero ∙ no_bit b.count p (drop b.count (g.words b.memory)) (omega (arith, h.bits));
  }

  pub bloom_goes : GoesBy (BloomRecords {g = g}) (BloomEmpties {g = g}) (bloom_says m k) (BloomHas m k)
  bloom_goes = record { recorded = recorded; emptied = emptied }

  -- as a filter to go over to
  pub bloom_blurs : Blurs (BloomRecords {g = g}) (BloomEmpties {g = g}) (bloom_says m k) (BloomHas m k) (λ b. (xs : List ℕ) × BloomHas m k b xs)
  bloom_blurs = record {
    recorded = recorded;
    emptied = λ b b' h w. emptied b b' h.0 h.1 w;
    known = λ b xs h. (xs, h);
    again = λ b xs f h n. record { bits = h.bits; hashes = h.hashes; marks = λ p l. h.marks p l ∙ sym (marked_again m k xs f n p) };
  }

module _ (m k : ℕ) where
  marked_between : (xs ys : List ℕ) (f p : ℕ) → is_ok (bloom_says m k xs f) ≡ false → marked m k (xs ++ (f ∷ ys)) p ≡ marked m k (xs ++ ys) p
  marked_between xs ys f p n =
      ap (λ z. marked m k z p) (sym (append_assoc xs (f ∷ []) ys))
      ∙ marked-append m k (xs ++ f ∷ []) ys p ∙ ap (λ z. z || marked m k ys p) (marked_again m k xs f n p) ∙ sym (marked-append m k xs ys p)

  pub bloom_takes : TakesRefusedAsRecorded (bloom_says m k)
  bloom_takes xs ys f g n = ap (λ z. if z then Err Held else Ok tt) (all_alike _ _ (positions m k g) (λ p _. marked_between xs ys f p n))

-- n words of zeros, whatever follows them
pub cleared : {W : Type 0} {g : Ghosts W} (b : BloomFilter W g) (n k : ℕ) (rest : List ℕ) → g.words b.memory ≡ replicate n 0 ++ rest → b.count ≡ n → b.k ≡ k → BloomHas (n * 64) k b []
cleared b n k rest w c h = record { bits = ap (λ z. z * 64) c; hashes = h; marks = λ p l. ap (λ ws. bit ws p) w ∙ no_bit n p rest l }

pub bloom_answers_by : {W : Type 0} {g : Ghosts W} (b : BloomFilter W g) → AnswersBy BloomRecords BloomEmpties (bloom_says (b.count * 64) b.k) b
bloom_answers_by {g = g} o =
    let m : ℕ = o.count * 64 in
    answers_by BloomRecords BloomEmpties (bloom_says m o.k) (BloomHas m o.k) (bloom_goes m o.k) o
    (λ b w. cleared b o.count o.k (drop o.count (g.words o.memory)) w.memory.words_zero w.count w.hashes)
