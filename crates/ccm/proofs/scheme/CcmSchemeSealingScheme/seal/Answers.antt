use Rattle.std.proofs.Common.{◌≡◌, ℕ, ◌+◌, ◌-◌, ◌≤◌, List, length, take, drop, Ok, sym, ap, ◌∙◌, subst, arith}
use borrow.Rule.Slice.PartMut.{put_mid}
use Rattle.answers.specs.Buffers.{fronted}
use Rattle.sealing.specs.Sealing.{Seals}
use Rattle.ccm.specs.Mode.{Cipher, sealed}
use Rattle.ccm.specs.Scheme.{ccm_image, keyless}
use Rattle.ccm.proofs.Leaving.{key_filled, content_stays, keyless_same, sealed-left}
use Rattle.ccm.proofs.scheme.CcmSchemeSealingScheme.seal.Goals as goal

pub returns : goal.returns
returns c =
    let was = c.args.working.now in
    let is = c.derive-aes.new.working in
    let image = ccm_image c.args.self.now.secret c.args.nonce.now in
    let len = c.args.len in
    let out = c.args.out.now in
    let end = c.in_ok-end.end in
    let few : len ≤ 64 = c.in_ok-end.ensures.few in
    let room : len + 16 ≤ length out = c.in_ok-end.ensures.room in
    let enough : 96 ≤ length was = c.in_ok-end.ensures.enough in
    let front = c.derive-aes.ensures.front in
    let past = c.derive-aes.ensures.past in
    let left : put_mid 64 32 is c.fill.new.self ≡ keyless was = key_filled is c.fill.new.self (omega arith) (c.fill.ensures.after (λ y e. e)) ∙ keyless_same was is (omega arith) front past in
    let after : c.seal_with.new.out ≡ fronted (image (take (len - 0) (drop 0 is))) out =
    c.seal_with.ensures ∙ ap (λ (E : Cipher). fronted (sealed E (take (len - 0) (drop 0 is))) out) c.derive-aes.ensures.cipher in
    record {
      seals = subst (λ (w : List ℕ). Seals image len was w out c.seal_with.new.out (Ok end)) (sym left)
          (sealed-left was (omega arith) image (take (len - 0) (drop 0 is)) out c.seal_with.new.out len end c.in_ok-end.ensures.len (omega arith) (omega arith)
          (content_stays was is (omega arith) front past len (omega arith)) after);
      left = left;
    }
