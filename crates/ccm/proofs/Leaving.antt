-- What a call leaves in the working bytes.
use Rattle.std.proofs.Common.{◌≡◌, ℕ, ◌+◌, ◌-◌, ◌<◌, ◌≤◌, Bool, true, false, ◌||◌, ◌⊎◌, List, ◌++◌, length, take, drop, replicate, Some, None, Ok, Option, sym, refl, ap, ◌∙◌, ap₂, inl, inr, arith, nat_lt}
use Rattle.std.proofs.lemmas.List.{append_assoc, length-append, length-take, length-take-le, length-drop, drop-drop, take-take, take_at, drop_at, drop-take}
use lib.Seq.{take-append-add}
use borrow.Rule.Slice.PartMut.{put_mid}
use Rattle.std.proofs.lemmas.Slice.{drop-append-drop}
use Rattle.std.proofs.lemmas.Bool.{le-ltb, lt-ltb, or_from, cond-false, cond-true}
use Rattle.answers.specs.Buffers.{fronted}
use Rattle.sealing.specs.Sealing.{Seals, Opens}
use Rattle.sealing.specs.Tokens.{wiped}
use Rattle.ccm.specs.Scheme.{keyless, left}

-- working bytes over whose last 32, or over all of which, zeros were written
module _ (w zeros : List ℕ) (room : 96 ≤ length w) where
  pub key_filled : zeros ≡ replicate (length (take 32 (drop 64 w))) 0 → put_mid 64 32 w zeros ≡ keyless w
  key_filled e =
      let wide : length (take 32 (drop 64 w)) ≡ 32 = simp (length-take, length-drop) (omega arith) in
      ap₂ (λ (key rest : List ℕ). take 64 w ++ (key ++ rest)) (e ∙ ap (λ (n : ℕ). replicate n 0) wide) (drop-drop 32 64 w)

  pub all_filled : zeros ≡ replicate (length (take 96 w)) 0 → put_mid 0 96 w zeros ≡ wiped w
  all_filled e = ap (λ (z : List ℕ). z ++ drop 96 w) (e ∙ ap (λ (n : ℕ). replicate n 0) (length-take-le 96 w room))

-- working bytes before and after the key was derived: the first 64 and those past 96 are the same
module _ (was is : List ℕ) (room : 96 ≤ length was) (front : take 64 is ≡ take 64 was) (past : drop 96 is ≡ drop 96 was) where
  pub content_stays : (n : ℕ) → n ≤ 64 → take (n - 0) (drop 0 is) ≡ take n was
  content_stays n h =
      let zero : n - 0 ≡ n = omega arith in
      ap (λ (k : ℕ). take k is) zero ∙ sym (take-take n 64 is h) ∙ ap (take n) front ∙ take-take n 64 was h

  pub keyless_same : keyless is ≡ keyless was
  keyless_same = ap₂ (λ (a b : List ℕ). a ++ (replicate 32 0 ++ b)) front past

-- the content c at the front of working bytes w
module _ (c w : List ℕ) (few : length c ≤ 64) where
  take-fronted : take 64 (fronted c w) ≡ c ++ drop (length c) (take 64 w)
  take-fronted =
      let n = length c in
      let k : n + (64 - n) ≡ 64 = omega arith in
      ap (λ (z : ℕ). take z (fronted c w)) (sym k) ∙ take-append-add c (drop n w) (64 - n)
      ∙ ap (λ (x : List ℕ). c ++ x) (sym (drop-take n (64 - n) w) ∙ ap (λ (z : ℕ). drop n (take z w)) k)

  drop-fronted : drop 96 (fronted c w) ≡ drop 96 w
  drop-fronted = drop-append-drop (length c) w c 96 (omega arith) refl

  pub content_of_lem : take (length c) (keyless (fronted c w)) ≡ c
  content_of_lem =
      ap (λ (x : List ℕ). take (length c) (x ++ (replicate 32 0 ++ drop 96 (fronted c w)))) take-fronted
      ∙ ap (take (length c)) (append_assoc c (drop (length c) (take 64 w)) (replicate 32 0 ++ drop 96 (fronted c w)))
      ∙ take_at c (drop (length c) (take 64 w) ++ (replicate 32 0 ++ drop 96 (fronted c w))) (length c) refl

pub fronted_same : (c was is : List ℕ) → length c ≤ 64 → take 64 is ≡ take 64 was → drop 96 is ≡ drop 96 was → keyless (fronted c is) ≡ keyless (fronted c was)
fronted_same c was is few front past =
    ap₂ (λ (a b : List ℕ). a ++ (replicate 32 0 ++ b))
    (take-fronted c is few ∙ ap (λ (x : List ℕ). c ++ drop (length c) x) front ∙ sym (take-fronted c was few))
    (drop-fronted c is few ∙ past ∙ sym (drop-fronted c was few))

pub wiped-fronted : (c was is : List ℕ) → length c ≤ 64 → drop 96 is ≡ drop 96 was → wiped (fronted c is) ≡ wiped was
wiped-fronted c was is few past = ap (λ (x : List ℕ). replicate 96 0 ++ x) (drop-fronted c is few ∙ past)

pub keyless-past : (w : List ℕ) → 96 ≤ length w → drop 96 (keyless w) ≡ drop 96 w
keyless-past w room =
    let l : length (take 64 w ++ replicate 32 0) ≡ 96 = length-append (take 64 w) (replicate 32 0) ∙ ap (λ (n : ℕ). n + 32) (length-take-le 64 w (omega arith)) in
    ap (drop 96) (sym (append_assoc (take 64 w) (replicate 32 0) (drop 96 w))) ∙ drop_at (take 64 w ++ replicate 32 0) (drop 96 w) 96 l

pub length-fronted : (c w : List ℕ) → length c ≤ length w → length (fronted c w) ≡ length w
length-fronted c w h = length-append c (drop (length c) w) ∙ omega (arith, length-drop (length c) w)

no : {P : Type 0} → ◌≡◌ {A = Bool} true false → P
no e = let z : ◌≡◌ {A = ℕ} 0 1 = cc in absurd (omega arith)

-- the answers of a call of seal and of open
module _ (was : List ℕ) (room : 96 ≤ length was) where
  enough : nat_lt (length was) 96 ≡ false
  enough = le-ltb (length was) 96 room

  pub sealed-left : (image : List ℕ → List ℕ) (content out out' : List ℕ) (len end : ℕ) → end ≡ len + 16 → len ≤ 64 → len + 16 ≤ length out → content ≡ take len was
      → out' ≡ fronted (image content) out → Seals image len was (keyless was) out out' (Ok end)
  sealed-left image content out out' len end ends few long e after =
      let s = or_from (nat_lt 64 len) (nat_lt (length was) 96 || nat_lt (length out) (len + 16)) (le-ltb 64 len few) (or_from _ _ enough (le-ltb (length out) (len + 16) long)) in
      record {
        answer = ap Ok ends ∙ sym (cond-false _ _ _ s);
        after = after ∙ ap (λ (x : List ℕ). fronted (image x) out) e;
        kept = λ f. no f;
        past = keyless-past was room;
      }

  module _ (opened : List ℕ → Option (List ℕ)) (b : List ℕ) where
    -- nothing opened, and the working bytes are wiped
    pub unopened_wiped : opened b ≡ None → Opens opened b was (wiped was) (Ok None)
    unopened_wiped h = record {
      answer = let e = enough in rw (e, h);
      within = tt;
      kept = λ f. no f;
      past = drop_at (replicate 96 0) (drop 96 was) 96 refl;
    }

    pub opened_left : (c : List ℕ) (n : ℕ) → length c ≡ n → n ≤ 64 → opened b ≡ Some c → Opens opened b was (keyless (fronted c was)) (Ok (Some n))
    opened_left c n l few h =
        let t : take n (keyless (fronted c was)) ≡ c = ap (λ (k : ℕ). take k (keyless (fronted c was))) (sym l) ∙ content_of_lem c was (omega arith) in
        let e = enough in
        record {
          answer = rw (e, h, t);
          within = few;
          kept = λ f. no f;
          past = keyless-past (fronted c was) (omega (arith, length-fronted c was (omega arith))) ∙ drop-fronted c was (omega arith);
        }

-- the working bytes that are left, by what opened
pub left-some : (b was c : List ℕ) (o : Option (List ℕ)) → o ≡ Some c → keyless (fronted c was) ≡ left b was o
left-some b was c o h = ap (left b was) (sym h)

pub left-wiped : (b was : List ℕ) (o : Option (List ℕ)) → 16 ≤ length b → length b ≤ 80 → o ≡ None → wiped was ≡ left b was o
left-wiped b was o long few h =
    sym (cond-false (nat_lt (length b) 16 || nat_lt 80 (length b)) was (wiped was) (or_from _ _ (le-ltb (length b) 16 long) (le-ltb 80 (length b) few))) ∙ ap (left b was) (sym h)

short_or_long : (b : List ℕ) → (length b < 16) ⊎ (80 < length b) → nat_lt (length b) 16 || nat_lt 80 (length b) ≡ true
short_or_long b (inl h) = ap (λ (x : Bool). x || nat_lt 80 (length b)) (lt-ltb (length b) 16 h)
short_or_long b (inr h) = either (nat_lt (length b) 16) (nat_lt 80 (length b)) (lt-ltb 80 (length b) h)
  where
    either : (x y : Bool) → y ≡ true → x || y ≡ true
    either true y e = refl
    either false y e = e

pub left_same : (b was : List ℕ) (o : Option (List ℕ)) → (length b < 16) ⊎ (80 < length b) → o ≡ None → was ≡ left b was o
left_same b was o h e = sym (cond-true (nat_lt (length b) 16 || nat_lt 80 (length b)) was (wiped was) (short_or_long b h)) ∙ ap (left b was) (sym e)
