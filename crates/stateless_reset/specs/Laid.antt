-- A reset token as the code has it, and as its bytes.
use Rattle.std.proofs.Common.{◌≡◌, ℕ, List, length, refl}
use Rattle.stateless_reset.specs.declared.token.ResetToken.TheInside.{Inside}

pub record Laid (token : Inside) : Type 0 where
  pub whole : length token.bytes ≡ 16

abbrev pub laid_out : List ℕ → Inside
laid_out bs = record { bytes = bs }

pub laid_out_again : (token : Inside) → Laid token → laid_out token.bytes ≡ token
laid_out_again token h = refl
