-- Contents whose fields are told apart are told apart.
use Rattle.std.proofs.Common.{◌≡◌, Decides, ℕ, Bool, ◌&&◌, List}
use Rattle.std.proofs.lemmas.Bool.{and_parts, and_from}
use Rattle.wire.specs.declared.types.IpAddr.{IpAddr}
use Rattle.wire.specs.declared.types.SocketAddr.{SocketAddr}
use Rattle.wire.specs.declared.types.TokenPayload.TheVariants.{Retry, Validation}

pub retries_tell : (a b : SocketAddr) (i j : List ℕ) (t u : ℕ) (x y z : Bool) → Decides x (a ≡ b) → Decides y (i ≡ j) → Decides z (t ≡ u)
    → Decides (x && (y && z)) (Retry a i t ≡ Retry b j u)
retries_tell a b i j t u x y z d e f = (
  λ h. let p = and_parts x (y && z) h in let q = and_parts y z p.1 in let k = d.0 p.0 in let l = e.0 q.0 in let m = f.0 q.1 in cc,
  λ h. and_from x (y && z) (d.1 (cc)) (and_from y z (e.1 (cc)) (f.1 (cc))),
)

pub validations_tell : (a b : IpAddr) (t u : ℕ) (x y : Bool) → Decides x (a ≡ b) → Decides y (t ≡ u) → Decides (x && y) (Validation a t ≡ Validation b u)
validations_tell a b t u x y d e = (
  λ h. let p = and_parts x y h in let k = d.0 p.0 in let l = e.0 p.1 in cc,
  λ h. and_from x y (d.1 (cc)) (e.1 (cc)),
)
