use Rattle.std.proofs.Common.{ap, ◌∙◌}
use Rattle.aes.specs.Cipher.{add_round_key, round}
use Rattle.aes.proofs.cipher.round.Goals as goal

pub returns : goal.returns
unfolding round
returns c = c.add_round_key.ensures ∙ ap (add_round_key c.args.key.now 0) c.mix.ensures
