-- Whether a list has a fingerprint, as std says it and as the filters do.
use Rattle.std.proofs.Common.{◌≡◌, ℕ, ◌||◌, nat_eq, List, [], ◌∷◌, refl, ap}
use Rattle.std.specs.List.{list_any}
use Rattle.filter.specs.Lists.{member}

pub member_any : (xs : List ℕ) (f : ℕ) → list_any (λ x. nat_eq x f) xs ≡ member f xs
member_any [] f = refl
member_any (x ∷ xs) f = ap (λ b. nat_eq x f || b) (member_any xs f)
