use Rattle.std.proofs.Common.{rules, ℕ, List, map, ap, ◌∙◌, slice_index}
use lib.Bits.{bit_xor}
use Rattle.std.specs.List.{range_with_len}
use Rattle.aes.specs.Cipher.{add_round_key}
use Rattle.answers.proofs.Calls.{made}
use Rattle.aes.proofs.cipher.add_round_key.Goals as goal

pub returns : goal.returns
unfolding add_round_key
returns c =
    let s = c.args.state in
    made _ _ (λ i. bit_xor (slice_index s i) (slice_index c.joined-key.result i)) 16 c.from_fn.result (λ k y q l e. search rules) c.from_fn.ensures.items
    ∙ ap (λ (k : List ℕ). map (λ i. bit_xor (slice_index s i) (slice_index k i)) (range_with_len 0 16)) c.joined-key.ensures
