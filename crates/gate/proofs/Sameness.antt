-- A test of two parts tells whether what is made of them is the same.
use Rattle.std.proofs.Common.{◌≡◌, Bool, ◌&&◌, Decides, ap, ap₂}
use Rattle.std.proofs.lemmas.Bool.{and_parts, and_from}

pub one_tells : {A B : Type 0} (f : A → B) (a a' : A) (p : Bool) → Decides p (a ≡ a') → (f a ≡ f a' → a ≡ a') → Decides p (f a ≡ f a')
one_tells f a a' p d i = (λ h. ap f (d.0 h), λ h. d.1 (i h))

pub both_tell : {A B C : Type 0} (f : A → B → C) (a a' : A) (b b' : B) (p q : Bool) → Decides p (a ≡ a') → Decides q (b ≡ b')
    → (f a b ≡ f a' b' → (a ≡ a') × (b ≡ b')) → Decides (p && q) (f a b ≡ f a' b')
both_tell f a a' b b' p q d e i = (
  λ h. let w = and_parts p q h in ap₂ f (d.0 w.0) (e.0 w.1),
  λ h. let w = i h in and_from p q (d.1 w.0) (e.1 w.1),
)
