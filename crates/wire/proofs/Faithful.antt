-- A field that has exactly one encoding, which its reader undoes; and two such fields in a row.
use Rattle.std.proofs.Common.{◌≡◌, ℕ, ◌+◌, ◌<◌, List, ◌++◌, length, drop, Ok, Err, Result, sym, refl, ap, ◌∙◌, subst, arith, length-append}
use Rattle.std.proofs.ByRecursion.{All-drop}
use Rattle.std.proofs.lemmas.List.{append_assoc, drop_at, drop-drop}
use Rattle.answers.specs.declared.Fault.{Fault}
use Rattle.wire.specs.Numbers.{Bytes}
use Rattle.wire.specs.Fields.{Reader, and_then, both}

-- no answer is both
pub apart : {A E P : Type 0} (e : E) (a : A) → Err e ≡ Ok a → P
apart e a h = let z : ◌≡◌ {A = ℕ} 0 1 = cc in absurd (omega arith)

pub same_ok : {A E : Type 0} (a b : A) → ◌≡◌ {A = Result A E} (Ok a) (Ok b) → a ≡ b
same_ok a b h = cc

-- what went on to an answer was read before
pub then_ok : {A B E : Type 0} (r : Result A E) (f : A → Result B E) (b : B) → and_then r f ≡ Ok b → (a : A) × (r ≡ Ok a) × (f a ≡ Ok b)
then_ok (Ok a) f b h = (a, refl, h)
then_ok (Err e) f b h = apart e b h

pub record Only {A : Type 0} (W : A → Type 0) (E : A → List ℕ) (bs : List ℕ) (a : A) (n : ℕ) : Type 0 where
  pub long : n ≡ length (E a)
  pub same : bs ≡ E a ++ drop n bs
  pub sound : W a

pub moved : {A : Type 0} {W : A → Type 0} {E : A → List ℕ} {bs : List ℕ} {a b : A} {n m : ℕ}
    → Only W E bs a n → ◌≡◌ {A = Result (A × ℕ) Fault} (Ok (a, n)) (Ok (b, m)) → Only W E bs b m
moved {A} {W} {E} {bs} {a} {b} {n} {m} o h =
    let P : A × ℕ → Type 0 = λ q. Only W E bs q.0 q.1 in subst P (same_ok (a, n) (b, m) h) o

pub record Faithful {A : Type 0} (W : A → Type 0) (E : A → List ℕ) (D : Reader A) : Type 0 where
  pub back : (a : A) (rest : List ℕ) → W a → D (E a ++ rest) ≡ Ok (a, length (E a))
  pub only : (bs : List ℕ) (a : A) (n : ℕ) → Bytes bs → D bs ≡ Ok (a, n) → Only W E bs a n

module _ {A B : Type 0} {V : A → Type 0} {W : B → Type 0} {E : A → List ℕ} {F : B → List ℕ} {D : Reader A} {G : Reader B}
    (first : Faithful V E D) (second : Faithful W F G) where
  both_back : (p : A × B) (rest : List ℕ) → V p.0 × W p.1 → both D G ((E p.0 ++ F p.1) ++ rest) ≡ Ok (p, length (E p.0 ++ F p.1))
  both_back p rest s =
      let a = p.0 in
      let b = p.1 in
      let e : (E a ++ F b) ++ rest ≡ E a ++ (F b ++ rest) = append_assoc (E a) (F b) rest in
      let f = first.back a (F b ++ rest) s.0 in
      let d : drop (length (E a)) (E a ++ (F b ++ rest)) ≡ F b ++ rest = drop_at (E a) (F b ++ rest) (length (E a)) refl in
      let g = second.back b rest s.1 in
      let l = length-append (E a) (F b) in
      rw (e, f, d, g, l)

  both_only : (bs : List ℕ) (p : A × B) (n : ℕ) → Bytes bs → both D G bs ≡ Ok (p, n) → Only (λ q. V q.0 × W q.1) (λ q. E q.0 ++ F q.1) bs p n
  both_only bs p n bytes h =
      let u = then_ok (D bs) _ (p, n) h in
      let a = u.0.0 in
      let i = u.0.1 in
      let v = then_ok (G (drop i bs)) _ (p, n) u.2 in
      let b = v.0.0 in
      let j = v.0.1 in
      let x = first.only bs a i bytes u.1 in
      let y = second.only (drop i bs) b j (All-drop (λ z. z < 256) i bs bytes) v.1 in
      let w : bs ≡ (E a ++ F b) ++ drop (i + j) bs =
      x.same ∙ ap (λ z. E a ++ z) (y.same ∙ ap (λ z. F b ++ z) (drop-drop j i bs)) ∙ sym (append_assoc (E a) (F b) (drop (i + j) bs)) in
      let o : Only (λ q. V q.0 × W q.1) (λ q. E q.0 ++ F q.1) bs (a, b) (i + j) =
      record { long = omega (arith, x.long, y.long, length-append (E a) (F b)); same = w; sound = (x.sound, y.sound) } in
      moved {W = λ q. V q.0 × W q.1} {E = λ q. E q.0 ++ F q.1} {a = (a, b)} o v.2

  pub both_faithful : Faithful (λ q. V q.0 × W q.1) (λ q. E q.0 ++ F q.1) (both D G)
  both_faithful = record { back = both_back; only = both_only }
