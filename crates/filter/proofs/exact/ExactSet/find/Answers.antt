use Rattle.std.proofs.Common.{sym, arith}
use Rattle.filter.proofs.Members.{found_at}
use Rattle.filter.proofs.Walks.{walk_start, walk_more, walk_falls, walk-all}
use Rattle.filter.proofs.exact.ExactSet.find.Goals as goal

pub loop-at-init : goal.loop-at-init
loop-at-init c = let s = c.args.self.now in walk_start _ _ c.args.f _ _ s.headed s.buckets c.bucket.ensures.value c.index.ensures

pub returns-then-index-f : goal.returns-then-index-f
returns-then-index-f c = found_at _ _ _ _ (omega arith) c.index-in-loop-at.ensures c.if-index-f.true

pub loop-at-smaller : goal.loop-at-smaller
loop-at-smaller c = let s = c.args.self.now in walk_falls _ _ _ c.args.f _ _ s.linked s.chained c.loop-at.invariant c.loop-at-test.true c.index-in-loop-at-2.ensures

pub loop-at-preserved : goal.loop-at-preserved
loop-at-preserved c =
    let s = c.args.self.now in
    walk_more _ _ _ c.args.f _ _ s.linked s.chained c.loop-at.invariant c.loop-at-test.true c.index-in-loop-at-2.ensures _ c.index-in-loop-at.ensures c.if-index-f.false

pub returns : goal.returns
returns c = sym (walk-all _ _ _ _ c.loop-at.invariant c.loop-at-test.false)
