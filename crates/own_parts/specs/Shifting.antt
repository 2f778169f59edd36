-- A scheme that adds a key byte modulo 256, and ends in 16 zeros.
use Rattle.std.specs.Prelude.{◌≡◌, ℕ, suc, ◌+◌, ◌-◌, ◌%◌, ◌<◌, ◌≤◌, ◌≢◌, drop, List, [], ◌∷◌, ◌++◌, map, length, take, replicate, Some, None, Option}
use Rattle.std.proofs.Common.{sym, ap, ap₂, ◌∙◌, refl, length-append, arith}
use Rattle.std.proofs.ByRecursion.{All-take}
use Rattle.std.proofs.lemmas.List.{take_at, drop_at, take-append-drop, length-take, length-take-le}
use Rattle.wire.specs.Numbers.{Bytes}
use Rattle.sealing.specs.Sealing.{Image, Opening, Undoes, open_by}
use Rattle.sealing.specs.Openings.{undone, opens_tried, none_tried}

abbrev pub shifted : ℕ → List ℕ → List ℕ
shifted key c = map (λ b. (b + key) % 256) c

abbrev pub back : ℕ → ℕ
back key = (256 - key % 256) % 256

abbrev pub shift_image : ℕ → Image
shift_image key n c = shifted key c ++ replicate 16 0

abbrev pub tried : ℕ → Image
tried key n b = shifted (back key) (take (length b - 16) b)

abbrev pub shift_opened : ℕ → Opening
shift_opened key = open_by (shift_image key) (tried key)

pub length-shift : (key : ℕ) (c : List ℕ) → length (shifted key c) ≡ length c
length-shift key [] = refl
length-shift key (b ∷ c) = ap suc (length-shift key c)

pub length_shifted : (key : ℕ) (n c : List ℕ) → length (shift_image key n c) ≡ length c + 16
length_shifted key n c = length-append (shifted key c) (replicate 16 0) ∙ ap (λ k. k + 16) (length-shift key c)

undo : (key : ℕ) (c : List ℕ) → Bytes c → shifted (back key) (shifted key c) ≡ c
undo key [] h = refl
undo key (b ∷ c) h =
    let small : b < 256 = h.0 in
    let e : ((b + key) % 256 + (256 - key % 256) % 256) % 256 ≡ b = omega arith in
    ap₂ ◌∷◌ e (undo key c h.1)

bytes : (key : ℕ) (c : List ℕ) → Bytes (shifted key c)
bytes key [] = tt
bytes key (b ∷ c) = (omega arith, bytes key c)

pub shift_undoes : (key : ℕ) → Undoes (shift_image key) (shift_opened key)
shift_undoes key =
    undone (shift_image key) (tried key)
    (λ n c m h.
    let l = length_shifted key n c in
    let k : length (shifted key c) ≡ length (shift_image key n c) - 16 = omega (arith, length-shift key c) in
    ap (shifted (back key)) (take_at (shifted key c) (replicate 16 0) (length (shift_image key n c) - 16) k) ∙ undo key c h.0)
    (λ n b m h. bytes (back key) (take (length b - 16) b))

-- the other way round
again : (key : ℕ) (c : List ℕ) → Bytes c → shifted key (shifted (back key) c) ≡ c
again key [] h = refl
again key (b ∷ c) h =
    let small : b < 256 = h.0 in
    let e : ((b + (256 - key % 256) % 256) % 256 + key) % 256 ≡ b = omega arith in
    ap₂ ◌∷◌ e (again key c h.1)

module _ (key : ℕ) (n b : List ℕ) where
  pub shift_opens : Bytes b → length b ≤ 80 → drop (length b - 16) b ≡ replicate 16 0 → shift_opened key n b ≡ Some (tried key n b)
  shift_opens w m e =
      let front = take (length b - 16) b in
      let s : length (tried key n b) ≤ 64 = omega (arith, length-shift (back key) front, length-take (length b - 16) b) in
      let f = again key front (All-take (λ z. z < 256) (length b - 16) b w) in
      opens_tried (shift_image key) (tried key) n b (ap₂ ◌++◌ f (sym e) ∙ take-append-drop (length b - 16) b) s

  pub shift_none : 16 ≤ length b → (drop (length b - 16) b ≢ replicate 16 0) → shift_opened key n b ≡ None
  shift_none long differ =
      none_tried (shift_image key) (tried key) n b (λ e l.
      let front = take (length b - 16) b in
      let k : length (shifted key (tried key n b)) ≡ length b - 16 =
      length-shift key (tried key n b) ∙ length-shift (back key) front ∙ length-take-le (length b - 16) b (omega arith) in
      differ (ap (drop (length b - 16)) (sym e) ∙ drop_at (shifted key (tried key n b)) (replicate 16 0) (length b - 16) k))
