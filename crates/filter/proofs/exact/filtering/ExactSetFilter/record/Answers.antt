use Rattle.std.proofs.Common.{◌+◌, ◌≡◌, length, vec_items, sym, ap, ◌∙◌, arith}
use Rattle.std.proofs.lemmas.List.{length-set}
use Rattle.filter.specs.Lists.{distinct}
use Rattle.filter.proofs.Members.{distinct_push}
use Rattle.filter.proofs.Walks.{headed_after, chained_after}
use Rattle.filter.proofs.exact.filtering.ExactSetFilter.record.Goals as goal

pub invariant_of-self-clause-apart : goal.invariant_of-self-clause-apart
invariant_of-self-clause-apart c = let s = c.args.self.now in ap distinct c.push_reserved-2.ensures.items ∙ distinct_push _ c.args.f s.apart (sym c.find.ensures ∙ c.if-find.false)

pub invariant_of-self-clause-buckets : goal.invariant_of-self-clause-buckets
invariant_of-self-clause-buckets c = omega (arith, length-set (vec_items c.args.self.now.heads) c.bucket-bucket.result (c.len-count.result + 1))

pub invariant_of-self-clause-headed : goal.invariant_of-self-clause-headed
invariant_of-self-clause-headed c =
    let s = c.args.self.now in
    let l : c.len-count.result ≡ length (vec_items s.held) = omega arith in
    headed_after _ _ _ (vec_items s.links) (vec_items s.links) c.args.f _ _ 0 c.push_reserved-2.ensures.items c.bucket-bucket.ensures.value l s.buckets s.headed

pub invariant_of-self-clause-chained : goal.invariant_of-self-clause-chained
invariant_of-self-clause-chained c =
    let s = c.args.self.now in
    let l : c.len-count.result ≡ length (vec_items s.held) = omega arith in
    chained_after _ _ _ _ _ c.args.f _ _ _ c.push_reserved-2.ensures.items c.bucket-bucket.ensures.value l s.buckets s.headed s.linked c.push_reserved.ensures.items c.index-earlier.ensures s.chained
