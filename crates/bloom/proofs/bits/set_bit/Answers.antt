use Rattle.std.proofs.Common.{◌≡◌, ℕ, ◌/◌, ◌%◌, ◌*◌, ◌^◌, ◌<◌, bit_or, slice_index, sym, refl, ap, ◌∙◌, arith}
use Rattle.std.proofs.lemmas.Nat.{one_shl}
use Rattle.bloom.proofs.Storing.{set_if_same, clear_if_other, stands, is_set}
use Rattle.bloom.proofs.bits.set_bit.Goals as goal

pub returns-then-with-word : goal.returns-then-with-word
returns-then-with-word g c =
    let j : ℕ = c.args.at % 64 in
    let w = slice_index (g.W.Words.words c.args.memory.now) (c.args.at / 64) in
    let m : 1 * 2 ^ j % 2 ^ 64 ≡ 2 ^ j = one_shl j 64 (omega arith) in
    let e : bit_or c.word-word.result (1 * 2 ^ j % 2 ^ 64) ≡ bit_or w (2 ^ j) = ap (λ z. bit_or z (1 * 2 ^ j % 2 ^ 64)) c.word-word.ensures ∙ ap (bit_or w) m in
    is_set g.W.Words.stores g.W.Words.words c.args.memory.now c.store.new.self c.args.at _ (clear_if_other w j (λ s. c.if-with-word.true (e ∙ s ∙ sym c.word-word.ensures))) e
    c.store.ensures (g.met.W.Words.stored _ _ _ _ c.store.ensures)

pub returns-else-with-word : goal.returns-else-with-word
returns-else-with-word g c =
    let j : ℕ = c.args.at % 64 in
    let w = slice_index (g.W.Words.words c.args.memory.now) (c.args.at / 64) in
    let m : 1 * 2 ^ j % 2 ^ 64 ≡ 2 ^ j = one_shl j 64 (omega arith) in
    let e : bit_or c.word-word.result (1 * 2 ^ j % 2 ^ 64) ≡ bit_or w (2 ^ j) = ap (λ z. bit_or z (1 * 2 ^ j % 2 ^ 64)) c.word-word.ensures ∙ ap (bit_or w) m in
    stands g.W.Words.stores g.W.Words.words c.args.memory.now _ c.args.at (set_if_same w j (sym e ∙ c.if-with-word.false ∙ c.word-word.ensures)) refl
