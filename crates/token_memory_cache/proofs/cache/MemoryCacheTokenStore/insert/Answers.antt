use Rattle.std.proofs.Common.{inl, inr, ⊎_elim, refl, arith}
use Rattle.token_store.specs.Store.Stores.{long_entry}
use Rattle.token_memory_cache.proofs.Steps.{inserts}
use Rattle.token_memory_cache.proofs.cache.MemoryCacheTokenStore.insert.Goals as goal

pub returns-then-name-gt-MAX_NAME_LEN-clause-stores : goal.returns-then-name-gt-MAX_NAME_LEN-clause-stores
returns-then-name-gt-MAX_NAME_LEN-clause-stores g c = long_entry (⊎_elim inl (λ p. inr p.1) c.then-name-gt-MAX_NAME_LEN.either) (λ _ _. refl)

pub returns-clause-stores : goal.returns-clause-stores
returns-clause-stores g c =
    let i = c.self.inside in
    rw (← c.self.view_is, ← c.as_bytes.ensures.value) (inserts i.max_server_names i.max_tokens_per_server c.as_bytes.result.now c.args.token.now i.shelf c.store.new.self c.self.invariant
    (omega arith) (omega arith) c.store.ensures.entries)
