use Rattle.std.proofs.Common.{◌/◌, length, refl, add-one, arith}
use Rattle.sha256.specs.Block.{words}
use Rattle.sha256.proofs.Chunks.{word_of_chunk}
use Rattle.sha256.proofs.block.load.Goals as goal

pub loop-i-init : goal.loop-i-init
unfolding words
loop-i-init c = refl

pub loop-i-preserved : goal.loop-i-preserved
unfolding words
loop-i-preserved c =
    let block = c.args.block.now in
    let w = word_of_chunk (length block / 4) c.loop-i.i block c.as_chunks.result.0.now c.from_be_bytes.result (omega arith) c.as_chunks.ensures.front c.from_be_bytes.ensures in
    simp (add-one, ← c.loop-i.invariant, w)
