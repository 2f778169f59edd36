use Rattle.std.proofs.Common.{◌∷◌, sym, ◌∙◌}
use Rattle.record_pool.specs.Pools.{places, item_at}
use Rattle.record_pool.proofs.Steps.{leading, read_none, read_some, read_just}
use Rattle.record_pool.proofs.pool.Pool.get.Goals as goal

pub returns-in_err-place : goal.returns-in_err-place
returns-in_err-place g c =
    let e = c.from_residual.ensures ∙ read_none (item_at c.args.self.now.records.now) (places c.args.self.now c.args.chain) c.args.k (sym c.place.ensures ∙ c.in_err-place.was) in
    record {
      answer = e;
      there = λ others d. read_just c.args.self.now.records.now c.args.chain (c.args.self.now.free ∷ others) c.args.k c.from_residual.result
          (leading c.args.self.now c.args.chain others d) e;
    }

pub returns : goal.returns
returns g c =
    let e = c.item.ensures ∙ read_some (item_at c.args.self.now.records.now) (places c.args.self.now c.args.chain) c.args.k c.in_ok-place.place (sym c.place.ensures ∙ c.in_ok-place.was) in
    record {
      answer = e;
      there = λ others d. read_just c.args.self.now.records.now c.args.chain (c.args.self.now.free ∷ others) c.args.k c.item.result
          (leading c.args.self.now c.args.chain others d) e;
    }
