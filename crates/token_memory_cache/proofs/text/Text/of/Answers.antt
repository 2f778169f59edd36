use Rattle.token_memory_cache.proofs.Texts.{laid}
use Rattle.token_memory_cache.proofs.text.Text.of.Goals as goal

pub invariant_of-result : goal.invariant_of-result
invariant_of-result g c = rw (c.copy_from_slice.ensures.after) (laid g.row.N c.args.bytes.now c.requires.0)
