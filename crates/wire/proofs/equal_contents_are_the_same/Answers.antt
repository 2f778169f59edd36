use Rattle.std.proofs.lemmas.Bool.Decides.{Decides-eqb}
use Rattle.wire.specs.declared.types.TokenPayload.TheVariants.{Retry, Validation}
use Rattle.wire.proofs.Equals.{retries_tell, validations_tell}
use Rattle.wire.proofs.equal_contents_are_the_same.Goals as goal

pub returns : goal.returns
returns c (Retry a i t) (Retry b j u) =
    let e = c.equal_values_are_the_same.ensures in retries_tell a b i j t u _ _ _ (e.addresses a b) (e.ids i j) (Decides-eqb t u)
returns c (Retry a i t) (Validation b u) = (λ e. cc, λ e. cc)
returns c (Validation a t) (Retry b j u) = (λ e. cc, λ e. cc)
returns c (Validation a t) (Validation b u) = let e = c.equal_values_are_the_same.ensures in validations_tell a b t u _ _ (e.ips a b) (Decides-eqb t u)
