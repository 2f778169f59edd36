-- An image leaves no choice of what opens.
use Rattle.std.specs.Prelude.{◌≡◌, ℕ, ◌≤◌, Bool, true, false, cond, not, ◌||◌, nat_lt, List, ◌++◌, length, take, drop, Some, None, Ok, Option, refl}
use Rattle.std.proofs.Common.{sym, ap, ◌∙◌, arith}
use Rattle.std.proofs.lemmas.Bool.{le-ltb, ltb-false, or_from, or_parts, cond-false, not-false}
use Rattle.std.proofs.lemmas.Slice.Eq.{bytes_eq-Decides}
use Rattle.std.specs.Str.{bytes_eq}
use Rattle.std.proofs.lemmas.List.{take_at}
use Rattle.std.proofs.lemmas.Slice.{drop-append-drop}
use Rattle.wire.specs.Numbers.{Bytes}
use Rattle.sealing.specs.Sealing.{Image, IsNonce, IsContent, Undoes, Opens, open_by}

pub same_some : {A : Type 0} (a b : A) → Some a ≡ Some b → a ≡ b
same_some a b h = cc

passed : (b : Bool) (c d : List ℕ) → ◌≡◌ {A = Option (List ℕ)} (cond b None (Some c)) (Some d) → (b ≡ false) × (c ≡ d)
passed true c d h = let z : ◌≡◌ {A = ℕ} 0 1 = cc in absurd (omega arith)
passed false c d h = (refl, same_some c d h)

-- what opens by a content to try: that content, where the bytes are its image and it is not too long; and nothing else
module _ (image try : Image) (n b : List ℕ) where
  pub opens_tried : image n (try n b) ≡ b → length (try n b) ≤ 64 → open_by image try n b ≡ Some (try n b)
  opens_tried e l =
      let s : not (bytes_eq (image n (try n b)) b) ≡ false = ap not ((bytes_eq-Decides _ _).1 e) in
      cond-false _ _ _ (or_from _ _ (le-ltb 64 (length (try n b)) l) s)

  pub only_tried : (c : List ℕ) → open_by image try n b ≡ Some c → (try n b ≡ c) × (image n c ≡ b) × (length c ≤ 64)
  only_tried c h =
      let w = passed (nat_lt 64 (length (try n b)) || not (bytes_eq (image n (try n b)) b)) (try n b) c h in
      let p = or_parts (nat_lt 64 (length (try n b))) (not (bytes_eq (image n (try n b)) b)) w.0 in
      let e : image n (try n b) ≡ b = (bytes_eq-Decides _ _).0 (not-false _ p.1) in
      let l : length (try n b) ≤ 64 = ltb-false 64 (length (try n b)) p.0 in
      (w.1, ap (image n) (sym w.1) ∙ e, rw w.1 at l)

  pub none_tried : (image n (try n b) ≡ b → length (try n b) ≤ 64 → ⊥) → open_by image try n b ≡ None
  none_tried never = found (open_by image try n b) refl where
    found : (o : Option (List ℕ)) → open_by image try n b ≡ o → o ≡ None
    found None h = refl
    found (Some c) h = let p = only_tried c h in absurd (never (ap (image n) p.0 ∙ p.1) (let l = p.2 in rw p.0 l))

-- a content to try that gives back what was sealed, and bytes of bytes, makes an opening
pub undone : (image try : Image) → ((n c : List ℕ) → IsNonce n → IsContent c → try n (image n c) ≡ c)
    → ((n b : List ℕ) → IsNonce n → Bytes b → Bytes (try n b)) → Undoes image (open_by image try)
undone image try back small = record {
  opens = λ n c m h.
      let e : try n (image n c) ≡ c = back n c m h in
      opens_tried image try n (image n c) (ap (image n) e) (let l = h.1 in rw e l) ∙ ap Some e;
  only = λ n b c m w h.
      let p = only_tried image try n b c h in
      let s = small n b m w in
      (p.1, (rw p.0 at s, p.2));
}

-- the two answers of a call of open
module _ (opened : List ℕ → Option (List ℕ)) (sealed working : List ℕ) (room : 96 ≤ length working) where
  pub unopened : opened sealed ≡ None → Opens opened sealed working working (Ok None)
  unopened h = record {
    answer = let l = le-ltb (length working) 96 room in rw (l, h);
    within = tt;
    kept = λ e. refl;
    past = refl;
  }

  -- a part of the sealed bytes was copied to the front
  pub opened_as : (part content : List ℕ) (n : ℕ) → part ≡ content → length content ≡ n → n ≤ 64 → opened sealed ≡ Some content
      → Opens opened sealed working (part ++ drop n working) (Ok (Some n))
  opened_as part content n e k m h =
      let t : take n (part ++ drop n working) ≡ content = take_at part (drop n working) n (ap length e ∙ k) ∙ e in
      let l = le-ltb (length working) 96 room in
      record {
        answer = rw (l, h, t);
        within = m;
        kept = λ f. let y : ◌≡◌ {A = ℕ} 0 1 = cc in absurd (omega arith);
        past = drop-append-drop n working part 96 (omega arith) (ap length e ∙ k);
      }
