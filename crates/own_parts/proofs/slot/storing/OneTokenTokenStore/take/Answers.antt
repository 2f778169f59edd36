use Rattle.std.proofs.Common.{sym, refl, ◌∙◌, arith}
use Rattle.token_store.specs.Store.Takes.{small, long_name, none}
use Rattle.own_parts.proofs.Slots.{taken, same_bytes}
use Rattle.own_parts.proofs.slot.storing.OneTokenTokenStore.take.Goals as goal

pub returns-then-out-lt-MAX_STORED_LEN : goal.returns-then-out-lt-MAX_STORED_LEN
returns-then-out-lt-MAX_STORED_LEN c = small (omega arith) refl (λ _ _. refl)

pub returns-then-name-gt-MAX_NAME_LEN : goal.returns-then-name-gt-MAX_NAME_LEN
returns-then-name-gt-MAX_NAME_LEN c = long_name (omega arith) (omega arith) refl (λ _ _. refl)

pub returns-then-not-self : goal.returns-then-not-self
returns-then-not-self c = none (omega arith) (omega arith) refl (λ _ _. refl)

pub returns : goal.returns
returns c =
    let d = c.deref.ensures.value in
    let t = c.copy_from_slice.ensures.after ∙ d in
    let k = c.len-len.ensures ∙ c.args.self.now.token.ok.0 in
    taken c.args.self.now _ c.args.name.now c.args.out.now _ c.len-len.result (omega arith) (omega arith) c.if-not-self.false
    (sym c.as_bytes.ensures.value ∙ sym (same_bytes _ _ c.if-ne.ensures) ∙ c.as_slice.ensures.value)
    (λ m u. refl) c.args.self.now.short (rw (t, k) refl) k
