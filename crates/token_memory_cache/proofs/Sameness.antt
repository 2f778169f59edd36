-- Names and tokens compared.
use Rattle.std.proofs.Common.{◌≡◌, true, false, refl, sym, ◌∙◌, ⊎_elim}
use Rattle.std.specs.Str.{bytes_eq}
use Rattle.std.proofs.lemmas.Bool.{false≢true, cases_Bool}
use Rattle.std.proofs.lemmas.Slice.Eq.{bytes_eq-Decides}
use Rattle.token_store.specs.Store.{Bytes}

pub same_refl : (x : Bytes) → bytes_eq x x ≡ true
same_refl x = (bytes_eq-Decides x x).1 refl

pub same_true : (x y : Bytes) → bytes_eq x y ≡ true → x ≡ y
same_true x y = (bytes_eq-Decides x y).0

pub same_ne : (x y : Bytes) → (x ≡ y → ⊥) → bytes_eq x y ≡ false
same_ne x y n = ⊎_elim (λ e. absurd (n (same_true x y e))) (λ e. e) (cases_Bool _)

pub same_swap : (x y : Bytes) → bytes_eq x y ≡ false → bytes_eq y x ≡ false
same_swap x y e = same_ne y x (λ d. false≢true (sym e ∙ (bytes_eq-Decides x y).1 (sym d)))
