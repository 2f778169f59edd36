use Rattle.std.proofs.Common.{◌/◌, length, rules, ap, ◌∙◌}
use Rattle.std.specs.List.{fold}
use Rattle.sha256.specs.Block.{compressed}
use Rattle.answers.proofs.Calls.{folds}
use Rattle.sha256.proofs.Chunks.{folded}
use Rattle.sha256.proofs.message.absorb.Goals as goal

pub returns : goal.returns
returns c =
    let v = c.args.value in
    folds _ compressed _ (λ a x b f' k. search rules) c.iter.result v c.fold.result c.fold.ensures.ran
    ∙ ap (fold compressed v) (c.iter.ensures.rest ∙ c.as_chunks.ensures.front) ∙ folded (length c.args.bytes.now / 64) c.args.bytes.now v
