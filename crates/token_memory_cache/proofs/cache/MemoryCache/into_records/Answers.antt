use Rattle.token_memory_cache.proofs.Lending.{lends}
use Rattle.token_memory_cache.proofs.cache.MemoryCache.into_records.Goals as goal

pub returns : goal.returns
returns g c = rw (c.into_records.ensures.names, c.into_records.ensures.tokens, ← c.self.view_is) (lends c.self.inside.max_server_names c.self.inside.max_tokens_per_server c.self.inside.shelf c.self.invariant.stands)
