use Rattle.std.proofs.Common.{◌≡◌, ◌<◌, ◌≤◌, ℕ, Some, length, ap, ap₂, map, ◌∙◌, sym, subst, refl}
use Rattle.path_table.specs.declared.meter.Meter.{Meter}
use Rattle.path_table.specs.Meters.{Sound}
use Rattle.path_table.specs.Paths.{path, with_path}
use Rattle.path_table.proofs.Ledger.{opening_adds}
use Rattle.path_table.proofs.Standing.{none_free, some_free, all_open, fresh_sound, Opened, opened}
use Rattle.path_table.proofs.table.PathTable.open.Goals as goal

pub returns-in_default-clause-opens : goal.returns-in_default-clause-opens
returns-in_default-clause-opens c =
    let z = none_free c.self.inside.pool.free.count c.self.inside.pool.free.first c.push_front.result c.push_front.ensures.answer c.in_default.is in (
      refl,
      subst (λ ps. (p : ℕ) → 0 < p → p ≤ length ps → (m : Meter) × (path ps p ≡ Some m)) c.self.view_is (all_open c.self.inside.pool c.self.invariant.names c.self.invariant.stands z),
      ap (map (λ r. r.item)) (c.push_front.ensures.refused z).0.records ∙ c.self.view_is,
    )

pub returns-in_default-clause-adds : goal.returns-in_default-clause-adds
returns-in_default-clause-adds c = opening_adds c.args.accepted.validated _ _ _ (returns-in_default-clause-opens c)

done : (c : goal.In-Some) → Opened c.self.inside.pool c.push_front.new.self c.push_front.new.chain c.fresh-meter.result c.in-Some.name
done c =
    let f = some_free c.self.inside.pool.free.count c.self.inside.pool.free.first c.in-Some.name c.push_front.result c.push_front.ensures.answer c.in-Some.is in
    opened c.self.inside.pool c.push_front.new.self c.new-chain.result c.push_front.new.chain c.self.invariant.names c.self.invariant.stands c.fresh-meter.result
    (subst Sound (sym c.fresh-meter.ensures) (fresh_sound c.args.accepted.validated)) f.0 c.new-chain.ensures.empty c.push_front.ensures.leaves c.push_front.ensures.chains c.in-Some.name f.1

pub invariant_of-result : goal.invariant_of-result
invariant_of-result c = (done c).chain

pub invariant_of-self-2 : goal.invariant_of-self-2
invariant_of-self-2 c = (done c).standing

pub returns-clause-opens : goal.returns-clause-opens
returns-clause-opens c =
    let o = done c in (
      o.low,
      subst (λ ps. c.in-Some.name ≤ length ps) c.self.view_is o.high,
      ap (λ ps. path ps c.in-Some.name) (sym c.self.view_is) ∙ o.free,
      o.is ∙ ap₂ (λ ps m. with_path ps c.in-Some.name (Some m)) c.self.view_is c.fresh-meter.ensures,
    )

pub returns-clause-adds : goal.returns-clause-adds
returns-clause-adds c = opening_adds c.args.accepted.validated _ _ _ (returns-clause-opens c)
