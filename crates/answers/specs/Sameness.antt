-- What a test of equality and a clone owe.
use Rattle.std.specs.Prelude.{◌≡◌, Bool}
use Rattle.std.specs.Bool.{Decides}

-- it tells whether two values are the same
abbrev pub TellsSameness : {A : Type 0} → (A → A → Bool) → Type 0
TellsSameness {A = A} E = (a b : A) → Decides (E a b) (a ≡ b)

-- what a clone owes: it is what it was made of
abbrev pub ClonesAreTheSame : {A : Type 0} → (A → A → Type 0) → Type 0
ClonesAreTheSame {A = A} C = (a b : A) → C a b → b ≡ a

-- what a clone that takes no memory owes besides: it never fails
abbrev pub ClonesNeverFail : {A : Type 0} → (A → Type 0) → Type 0
ClonesNeverFail {A = A} I = (a : A) → I a
