use Rattle.std.proofs.Common.{refl, inl, inr, ⊎_elim, arith}
use Rattle.token_store.specs.Store.Stores.{long_entry, inserts}
use Rattle.token_store.proofs.NoneTokenStoreTokenStore.insert.Goals as goal

pub returns-then-name-gt-MAX_NAME_LEN : goal.returns-then-name-gt-MAX_NAME_LEN
returns-then-name-gt-MAX_NAME_LEN c =
    long_entry (⊎_elim inl (λ p. inr p.1) c.then-name-gt-MAX_NAME_LEN.either) (λ _ _. refl)

pub returns : goal.returns
returns c =
    inserts (omega arith) (omega arith) (λ _ _ h. inl h)
