use Rattle.std.proofs.Common.{ℕ, List, ap, ◌∙◌, arith}
use Rattle.std.proofs.lemmas.Slice.{take-put_mid_below, drop-put_mid}
use Rattle.aes.specs.declared.cipher.Aes256.{Aes256}
use Rattle.aes.specs.Cipher.{cipher}
use Rattle.aes.specs.Keys.{key_expansion}
use Rattle.ccm.specs.Scheme.{cipher_for}
use Rattle.ccm.proofs.scheme.derive.Goals as goal

pub returns : goal.returns
unfolding cipher_for
returns c =
    let working = c.args.working.now in
    let key = c.copy_from_slice.new.self in
    record {
      cipher = ap (λ (a : Aes256). cipher a.round_keys) c.new.ensures ∙ ap (λ (k : List ℕ). cipher (key_expansion k)) c.expand-key.ensures;
      front = take-put_mid_below 64 32 working key 64 (omega arith) (omega arith);
      past = drop-put_mid 64 32 working key 96 (omega arith) (omega arith) (omega arith);
    }
