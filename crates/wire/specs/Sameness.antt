-- What `same_ip` and `same_addr` tell: whether two IPs, and two addresses, are the same.
use Rattle.std.proofs.Common.{◌≡◌, ◌==◌, ℕ, Bool, sym, ap, ap₂, ◌∙◌, arith}
use Rattle.std.specs.Cmp.{IsPartialEquivalence, both_ways}
use Rattle.std.proofs.lemmas.Bool.{and_parts, and_from}
use Rattle.std.proofs.lemmas.Slice.Eq.{bytes_eq-Decides}
use Rattle.std.proofs.lemmas.Bool.Decides.{Decides-eqb}
use Rattle.answers.specs.Sameness.{TellsSameness}
use Rattle.wire.specs.declared.types.IpAddr.{IpAddr}
use Rattle.wire.specs.declared.types.IpAddr.TheVariants.{V4, V6}
use Rattle.wire.specs.declared.types.SocketAddr.{SocketAddr}
use Rattle.wire.specs.Content.{same_ip, same_addr}

pub ip_tells : TellsSameness same_ip
ip_tells (V4 o) (V4 p) = let d = bytes_eq-Decides o p in (λ e. ap V4 (d.0 e), λ e. d.1 (cc))
ip_tells (V6 o) (V6 p) = let d = bytes_eq-Decides o p in (λ e. ap V6 (d.0 e), λ e. d.1 (cc))
ip_tells (V4 o) (V6 p) = (λ e. let z : ◌≡◌ {A = ℕ} 0 1 = cc in absurd (omega arith), λ e. let z : ◌≡◌ {A = ℕ} 0 1 = cc in absurd (omega arith))
ip_tells (V6 o) (V4 p) = (λ e. let z : ◌≡◌ {A = ℕ} 0 1 = cc in absurd (omega arith), λ e. let z : ◌≡◌ {A = ℕ} 0 1 = cc in absurd (omega arith))

-- a test that tells equality is an equivalence
told_laws : {K : Type 0} (E : K → K → Bool) → TellsSameness E → IsPartialEquivalence E
told_laws E d = record {
  symm = λ x y. both_ways (E x y) (E y x) (λ e. (d y x).1 (sym ((d x y).0 e))) (λ e. (d x y).1 (sym ((d y x).0 e)));
  trans = λ x y z e f. (d x z).1 ((d x y).0 e ∙ (d y z).0 f);
}

pub same_ip_laws : IsPartialEquivalence same_ip
same_ip_laws = told_laws same_ip ip_tells

abbrev made : IpAddr → ℕ → SocketAddr
made ip port = record { ip = ip; port = port }

pub addr_tells : TellsSameness same_addr
addr_tells a b = (
  λ e. let p = and_parts (same_ip a.ip b.ip) (a.port == b.port) e in ap₂ made ((ip_tells a.ip b.ip).0 p.0) ((Decides-eqb a.port b.port).0 p.1),
  λ e. and_from (same_ip a.ip b.ip) (a.port == b.port) ((ip_tells a.ip b.ip).1 (ap (λ (s : SocketAddr). s.ip) e)) ((Decides-eqb a.port b.port).1 (ap (λ (s : SocketAddr). s.port) e)),
)

pub same_addr_laws : IsPartialEquivalence same_addr
same_addr_laws = told_laws same_addr addr_tells
