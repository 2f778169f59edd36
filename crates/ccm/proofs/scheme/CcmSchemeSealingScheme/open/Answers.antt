use Rattle.std.proofs.Common.{◌≡◌, ℕ, ◌-◌, ◌≤◌, List, length, Some, None, Ok, sym, ap, ◌∙◌, subst, arith}
use Rattle.std.proofs.lemmas.Bool.Decides.{not_from_Decides}
use borrow.Rule.Slice.PartMut.{put_mid}
use Rattle.answers.specs.Buffers.{fronted}
use Rattle.sealing.specs.Sealing.{Opens, IsOpenedLen}
use Rattle.sealing.specs.Tokens.{wiped}
use Rattle.sealing.specs.Openings.{unopened}
use Rattle.ccm.specs.Mode.{Cipher, sealed, unmasked}
use Rattle.ccm.specs.Scheme.{cipher_for, ccm_opened, keyless}
use Rattle.ccm.specs.Openings.{length-unmasked}
use Rattle.ccm.specs.Undoing.{opens_fitting, none_of_length, none_fitting}
use Rattle.ccm.proofs.Leaving.{key_filled, all_filled, fronted_same, wiped-fronted, unopened_wiped, opened_left, left-some, left-wiped, left_same}
use Rattle.ccm.proofs.scheme.CcmSchemeSealingScheme.open.Goals as goal

pub returns-in_default : goal.returns-in_default
returns-in_default c =
    let secret = c.args.self.now.secret in
    let n = c.args.nonce.now in
    let b = c.args.sealed.now in
    let out = subst (IsOpenedLen (length b)) c.in_default.is c.in_ok-len.ensures.len in
    let none = none_of_length secret n b out in
    record {
      opens = unopened (ccm_opened secret n) b c.args.working.now c.in_ok-len.ensures.enough none;
      left = left_same b c.args.working.now (ccm_opened secret n b) out none;
    }

pub returns-then-not-open_with : goal.returns-then-not-open_with
returns-then-not-open_with c =
    let secret = c.args.self.now.secret in
    let n = c.args.nonce.now in
    let b = c.args.sealed.now in
    let was = c.args.working.now in
    let f = subst (IsOpenedLen (length b)) c.in-Some.is c.in_ok-len.ensures.len in
    let enough : 96 ≤ length was = c.in_ok-len.ensures.enough in
    let opened = ccm_opened secret n in
    let fits : Cipher → Type 0 = λ E. sealed E (unmasked E b) ≡ b in
    let apart = not_from_Decides c.open_with.result c.open_with.ensures.fits c.if-not-open_with.true in
    let none = none_fitting secret n b (λ e. apart (subst fits (sym c.derive-aes.ensures.cipher) e)) in
    let is = c.derive-aes.new.working in
    let E = cipher_for secret n in
    let m = unmasked E b in
    let l : length m ≡ length b - 16 = length-unmasked E b (omega arith) in
    let after : c.open_with.new.working ≡ fronted m is =
    c.open_with.ensures.after ∙ ap (λ (C : Cipher). fronted (unmasked C b) is) c.derive-aes.ensures.cipher in
    let left : put_mid 0 96 c.open_with.new.working c.fill.new.self ≡ wiped was =
    all_filled c.open_with.new.working c.fill.new.self (omega arith) (c.fill.ensures.after (λ y e. e)) ∙ ap wiped after ∙ wiped-fronted m was is (omega arith) c.derive-aes.ensures.past in
    record {
      opens = subst (λ (w : List ℕ). Opens opened b was w (Ok None)) (sym left) (unopened_wiped was (omega arith) opened b none);
      left = left ∙ left-wiped b was (opened b) (omega arith) (omega arith) none;
    }

pub returns : goal.returns
returns c =
    let secret = c.args.self.now.secret in
    let n = c.args.nonce.now in
    let b = c.args.sealed.now in
    let was = c.args.working.now in
    let len = c.in-Some.len in
    let f = subst (IsOpenedLen (length b)) c.in-Some.is c.in_ok-len.ensures.len in
    let enough : 96 ≤ length was = c.in_ok-len.ensures.enough in
    let is = c.derive-aes.new.working in
    let opened = ccm_opened secret n in
    let E = cipher_for secret n in
    let m = unmasked E b in
    let l : length m ≡ len = length-unmasked E b (omega arith) ∙ omega arith in
    let fits : Cipher → Type 0 = λ E. sealed E (unmasked E b) ≡ b in
    let same : sealed E m ≡ b = subst fits c.derive-aes.ensures.cipher (c.open_with.ensures.fits.0 c.if-not-open_with.false) in
    let some : opened b ≡ Some m = opens_fitting secret n b (omega arith) (omega arith) same in
    let left : put_mid 64 32 c.open_with.new.working c.fill-2.new.self ≡ keyless (fronted m was) =
    key_filled c.open_with.new.working c.fill-2.new.self (omega arith) (c.fill-2.ensures.after (λ y e. e)) ∙ ap keyless (c.open_with.ensures.after ∙ ap (λ (C : Cipher). fronted (unmasked C b) is) c.derive-aes.ensures.cipher)
    ∙ fronted_same m was is (omega arith) c.derive-aes.ensures.front c.derive-aes.ensures.past in
    record {
      opens = subst (λ (w : List ℕ). Opens opened b was w (Ok (Some len))) (sym left) (opened_left was (omega arith) opened b m len l (omega arith) some);
      left = left ∙ left-some b was m (opened b) some;
    }
