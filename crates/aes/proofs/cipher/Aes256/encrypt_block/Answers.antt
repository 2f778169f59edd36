use Rattle.std.proofs.Common.{◌≡◌, ◌/◌, length, rules, ap, ◌∙◌, arith}
use Rattle.std.specs.List.{fold}
use Rattle.std.specs.Simd.{first_chunks}
use Rattle.aes.specs.Cipher.{round}
use Rattle.answers.proofs.Calls.{folds}
use Rattle.aes.proofs.Rounds.{all_rounds}
use Rattle.aes.proofs.cipher.Aes256.encrypt_block.Goals as goal

pub returns : goal.returns
returns c =
    let w = c.args.self.now.round_keys in
    let y = c.add_round_key.result in
    let n : length w / 4 ≡ 15 = omega arith in
    let m : c.fold-mixed.result ≡ fold (λ x k. round k 0 x) y c.iter.result.rest.now =
    folds _ (λ x k. round k 0 x) _ (λ a x b f' k. search rules) c.iter.result y c.fold-mixed.result c.fold-mixed.ensures.ran in
    all_rounds w c.args.block y c.fold-mixed.result c.substituted.result c.add_round_key-2.result c.as_chunks.result.0.now
    (c.as_chunks.ensures.front ∙ ap (λ k. first_chunks 4 k w) n) c.add_round_key.ensures (m ∙ ap (fold (λ x k. round k 0 x) y) c.iter.ensures.rest) c.substituted.ensures c.add_round_key-2.ensures
