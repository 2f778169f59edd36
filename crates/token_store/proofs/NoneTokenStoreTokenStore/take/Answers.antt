use Rattle.std.proofs.Common.{refl, arith}
use Rattle.token_store.specs.Store.Takes.{small, long_name, none}
use Rattle.token_store.proofs.NoneTokenStoreTokenStore.take.Goals as goal

pub returns-then-out-lt-MAX_STORED_LEN : goal.returns-then-out-lt-MAX_STORED_LEN
returns-then-out-lt-MAX_STORED_LEN c = small (omega arith) refl (λ _ _. refl)

pub returns-then-name-gt-MAX_NAME_LEN : goal.returns-then-name-gt-MAX_NAME_LEN
returns-then-name-gt-MAX_NAME_LEN c = long_name (omega arith) (omega arith) refl (λ _ _. refl)

pub returns : goal.returns
returns c = none (omega arith) (omega arith) refl (λ _ _. refl)
