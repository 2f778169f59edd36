-- Fingerprints recorded one after the other.
use Rattle.std.proofs.Common.{◌≡◌, ℕ, ◌+◌, ◌<◌, List, [], ◌∷◌, ◌++◌, length, slice_index, take, Some, None, Option, refl, subst, arith}
use Rattle.std.proofs.lemmas.List.{take_more}
use Rattle.filter.specs.Filter.{Answer}
use Rattle.filter.specs.Lists.{place}
use Rattle.filter.specs.Turning.{Poured}
use Rattle.filter.proofs.Members.{place_in}

-- over a filter with an account of its recordings
module _ {B : Type 0} (Q : B → ℕ → Answer → B → Type 0) where
  pub poured_push : (fs : List ℕ) (b b' b'' : B) (f : ℕ) (r : Answer) → Poured Q fs b b' → Q b' f r b'' → Poured Q (fs ++ f ∷ []) b b''
  poured_push [] b b' b'' f r p h = let P : B → Type 0 = λ z. Q z f r b'' in (b'', (r, subst P p h), refl)
  poured_push (g ∷ fs) b b' b'' f r (n, q, p) h = (n, q, poured_push fs n b' b'' f r p h)

  -- the loop over what the set tells
  pub poured_told : (fs : List ℕ) (b b' b'' : B) (i f : ℕ) (o : Option ℕ) (r : Answer)
      → i < length fs → o ≡ place fs i → o ≡ Some f → Poured Q (take i fs) b b' → Q b' f r b'' → Poured Q (take (i + 1) fs) b b''
  poured_told fs b b' b'' i f o r l told some p h =
      let a = place_in fs i l in
      let e : slice_index fs i ≡ f = cc in
      rw (take_more fs i 0 l, e) (poured_push (take i fs) b b' b'' f r p h)

pub told-some : {P : Type 0} (fs : List ℕ) (i : ℕ) (o : Option ℕ) → i < length fs → o ≡ place fs i → o ≡ None → P
told-some fs i o l told none =
    let a = place_in fs i l in
    let z : ◌≡◌ {A = ℕ} 0 1 = cc in
    absurd (omega arith)
