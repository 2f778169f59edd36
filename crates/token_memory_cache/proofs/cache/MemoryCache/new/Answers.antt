use Rattle.std.proofs.Common.{◌∙◌, arith}
use Rattle.token_memory_cache.proofs.Lending.{begun, sized}
use Rattle.token_memory_cache.proofs.cache.MemoryCache.new.Goals as goal

pub invariant_of-result : goal.invariant_of-result
invariant_of-result g c =
    let n = c.in-Ok.ensures in
    let t = c.in-Ok-new.ensures in
    rw c.new-shelf.ensures (begun c.args.max_server_names c.args.max_tokens_per_server c.in-Ok.names c.in-Ok-new.tokens n.made.0 t.made.0 n.blanked t.blanked (n.items.1 ∙ c.new.ensures) (t.items.1 ∙ c.new-3.ensures)
    (omega (arith, sized c.in-Ok.names _ _ n.items.0)) (omega (arith, sized c.in-Ok-new.tokens _ _ t.items.0)))
