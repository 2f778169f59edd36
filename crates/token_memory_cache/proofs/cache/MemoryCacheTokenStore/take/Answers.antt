use Rattle.std.proofs.Common.{refl, arith}
use Rattle.token_store.specs.Store.Takes.{small, long_name}
use Rattle.token_memory_cache.proofs.Steps.{takes_none, takes_some}
use Rattle.token_memory_cache.proofs.cache.MemoryCacheTokenStore.take.Goals as goal

pub returns-then-out-lt-MAX_STORED_LEN-clause-takes : goal.returns-then-out-lt-MAX_STORED_LEN-clause-takes
returns-then-out-lt-MAX_STORED_LEN-clause-takes g c = small (omega arith) refl (λ _ _. refl)

pub returns-then-name-gt-MAX_NAME_LEN-clause-takes : goal.returns-then-name-gt-MAX_NAME_LEN-clause-takes
returns-then-name-gt-MAX_NAME_LEN-clause-takes g c = long_name (omega arith) (omega arith) refl (λ _ _. refl)

pub returns-in_default-clause-takes : goal.returns-in_default-clause-takes
returns-in_default-clause-takes g c =
    let i = c.self.inside in
    rw (← c.self.view_is, ← c.as_bytes.ensures.value) (takes_none g.O.TakeOrder.place g.met.O.TakeOrder.within i.max_server_names i.max_tokens_per_server c.as_bytes.result.now c.args.out.now i.shelf c.take.new.self c.take.result c.self.invariant
    (omega arith) (omega arith) (c.take.ensures i.max_server_names i.max_tokens_per_server c.self.invariant) c.in_default.is)

pub returns-clause-takes : goal.returns-clause-takes
returns-clause-takes g c =
    let i = c.self.inside in
    rw (← c.self.view_is, ← c.as_bytes.ensures.value, c.copy_from_slice.ensures.after, c.as_slice-token.ensures)
    (takes_some g.O.TakeOrder.place g.met.O.TakeOrder.within i.max_server_names i.max_tokens_per_server c.as_bytes.result.now c.args.out.now i.shelf c.take.new.self c.take.result c.self.invariant
    (omega arith) (omega arith) (c.take.ensures i.max_server_names i.max_tokens_per_server c.self.invariant) c.in-Some.token c.in-Some.is)
