-- The compression of one block: FIPS 180-4, section 6.2.2.
use Rattle.std.specs.Prelude.{ℕ, zero, suc, ◌+◌, ◌-◌, ◌*◌, List, [], ◌∷◌, replicate, slice_index, slice_set}
use Rattle.sha256.specs.Words.{add, Ch, Maj, Σ0, Σ1, σ0, σ1}
use Rattle.sha256.specs.Constants.{round_constants}
use Rattle.sha256.specs.declared.block.Work.{Work}

-- word i of a block, with its highest byte first
abbrev pub word_at : List ℕ → ℕ → ℕ
word_at block i = slice_index block (4 * i) * 16777216 + slice_index block (4 * i + 1) * 65536 + slice_index block (4 * i + 2) * 256 + slice_index block (4 * i + 3)

-- the first n words of a block, written over ws
unfoldable pub words : ℕ → List ℕ → List ℕ → List ℕ
words zero block ws = ws
words (suc n) block ws = slice_set (words n block ws) n (word_at block n)

-- the schedule's word t, from four before it
unfoldable pub next_word : List ℕ → ℕ → ℕ
next_word w t = add (add (add (σ1 (slice_index w (t - 2))) (slice_index w (t - 7))) (σ0 (slice_index w (t - 15)))) (slice_index w (t - 16))

unfoldable pub extended : ℕ → List ℕ → List ℕ
extended zero ws = ws
extended (suc n) ws = let w = extended n ws in slice_set w (16 + n) (next_word w (16 + n))

-- the message schedule of a block
unfoldable pub schedule : List ℕ → List ℕ
schedule block = extended 48 (words 16 block (replicate 64 0))

-- one round on the working variables, with a round constant and a word of the schedule
unfoldable pub stepped : Work → ℕ → ℕ → Work
stepped s k w =
    let t1 = add (add (add (add s.h (Σ1 s.e)) (Ch s.e s.f s.g)) k) w in
    let t2 = add (Σ0 s.a) (Maj s.a s.b s.c) in
    record { a = add t1 t2; b = s.a; c = s.b; d = s.c; e = add s.d t1; f = s.e; g = s.f; h = s.g }

unfoldable pub rounds : ℕ → List ℕ → Work → Work
rounds zero w s = s
rounds (suc n) w s = stepped (rounds n w s) (slice_index round_constants n) (slice_index w n)

abbrev pub working : List ℕ → Work
working v = record { a = slice_index v 0; b = slice_index v 1; c = slice_index v 2; d = slice_index v 3; e = slice_index v 4; f = slice_index v 5; g = slice_index v 6; h = slice_index v 7 }

abbrev pub added : List ℕ → Work → List ℕ
added v s =
    add (slice_index v 0) s.a ∷ add (slice_index v 1) s.b ∷ add (slice_index v 2) s.c ∷ add (slice_index v 3) s.d
    ∷ add (slice_index v 4) s.e ∷ add (slice_index v 5) s.f ∷ add (slice_index v 6) s.g ∷ add (slice_index v 7) s.h ∷ []

-- the hash value after one more block
unfoldable pub compressed : List ℕ → List ℕ → List ℕ
compressed v block = added v (rounds 64 (schedule block) (working v))
