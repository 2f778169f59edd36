use Rattle.std.proofs.Common.{◌≡◌, ◌+◌, ◌/◌, length, rules, ap, ◌∙◌}
use Rattle.aes.specs.Cipher.{cipher}
use Rattle.ccm.specs.Mode.{first_block, chained, mac}
use Rattle.ccm.proofs.Chaining.{chained_all}
use Rattle.ccm.proofs.mode.mac.Goals as goal

pub returns : goal.returns
unfolding mac
returns c =
    let E = cipher c.args.aes.now.round_keys in
    let start = E (first_block (length c.args.content.now)) in
    let from : c.encrypt_block-first.result ≡ start = c.encrypt_block-first.ensures ∙ ap E c.headed.ensures in
    chained_all _ _ E c.args.content.now c.encrypt_block-first.result (λ a x b f' k. search rules) c.chunks.result c.fold.result c.chunks.ensures.size c.chunks.ensures.rest
    c.fold.ensures.ran ∙ ap (chained E c.args.content.now ((length c.args.content.now + 15) / 16)) from
