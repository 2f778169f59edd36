use Rattle.std.proofs.Common.{rules, ℕ, List, map, ap, ◌∙◌, ap₂, slice_index}
use Rattle.std.specs.List.{range_with_len}
use Rattle.sha256.specs.Words.{add}
use Rattle.sha256.specs.Block.{compressed, schedule, extended, rounds, added}
use Rattle.answers.proofs.Calls.{made}
use Rattle.sha256.proofs.block.compress.Goals as goal

pub returns : goal.returns
unfolding compressed schedule
returns c =
    let v = c.args.value in
    made _ _ (λ k. add (slice_index v k) (slice_index c.into-worked.result k)) 8 c.from_fn.result (λ k y q l e. search rules) c.from_fn.ensures.items
    ∙ ap (λ (w : List ℕ). map (λ k. add (slice_index v k) (slice_index w k)) (range_with_len 0 8)) c.into-worked.ensures
    ∙ ap (added v) (c.run.ensures ∙ ap₂ (rounds 64) (c.extend-w.ensures ∙ ap (extended 48) c.load.ensures) c.from.ensures)
