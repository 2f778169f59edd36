use Rattle.std.proofs.Common.{◌≡◌, [], ◌∙◌, ap, sym, subst}
use Rattle.stateless_reset.specs.Tables.{has, Remembers, table_of}
use Rattle.stateless_reset.proofs.Places.{Pushed, pushed, told}
use Rattle.stateless_reset.proofs.table.ResetTokenTable.remember.Goals.{in-Some, in-None}
use Rattle.stateless_reset.proofs.table.ResetTokenTable.remember.Goals as goal

all : (c : goal.Joined-push_back) → Pushed c.self.inside.pool c.push_back.new.self c.self.inside.remembered c.push_back.new.chain c.args.token c.push_back.result
all c =
    pushed c.self.inside.pool c.push_back.new.self c.self.inside.remembered c.push_back.new.chain c.args.token c.push_back.result c.self.invariant
    (ap (λ s. has s.tokens c.args.token) c.self.view_is ∙ (ap (has c.args.self.now.tokens) (sym c.as_bytes.ensures) ∙ (sym c.has.ensures ∙ c.if-has.false)))
    c.push_back.ensures.answer c.push_back.ensures.refused (λ h. c.push_back.ensures.chains [] h c.self.invariant.divided)

answered : (c : goal.Joined-push_back) → c.match-push_back.result ≡ told c.push_back.result
answered c = elim c.match-push_back.branch [ in-Some w ↦ w.result-is ∙ sym (ap told w.in-Some.is) | in-None w ↦ w.result-is ∙ sym (ap told w.in-None.is) ]

pub invariant_of-self : goal.invariant_of-self
invariant_of-self c = (all c).sound

pub returns : goal.returns
returns c =
    let after = table_of c.push_back.new.self c.push_back.new.chain in
    subst (Remembers c.args.token c.args.self.now after) {x = told c.push_back.result} (sym (answered c))
    (subst (λ s. Remembers c.args.token s after (told c.push_back.result)) {x = table_of c.self.inside.pool c.self.inside.remembered} c.self.view_is (all c).remembers)
