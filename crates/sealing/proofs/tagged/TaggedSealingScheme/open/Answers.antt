use Rattle.std.proofs.Common.{◌≡◌, ◌-◌, ◌++◌, length, take, drop, sym, ap, ap₂, ◌∙◌, subst, arith}
use Rattle.std.proofs.lemmas.List.{take_rest, length-take-le}
use Rattle.std.proofs.lemmas.Bool.Decides.{not_from_Decides}
use Rattle.sealing.specs.Sealing.{IsOpenedLen}
use Rattle.sealing.specs.Tagged.{untagged, tagged_opened, tagged_left}
use Rattle.sealing.specs.Openings.{unopened, opened_as}
use Rattle.sealing.specs.Tagging.{tagged_opens, none_of_length, none_of_tag}
use Rattle.sealing.proofs.tagged.TaggedSealingScheme.open.Goals as goal

pub returns-in_default : goal.returns-in_default
returns-in_default g c =
    let tag = g.T.Tag.tag_of c.args.self.now.tag in
    let sixteen = g.met.T.Tag.sixteen c.args.self.now.tag in
    let nonce = c.args.nonce.now in
    let sealed = c.args.sealed.now in
    let working = c.args.working.now in
    let out = subst (IsOpenedLen (length sealed)) c.in_default.is c.in_ok-len.ensures.len in
    let none = none_of_length tag sixteen nonce sealed (c.slices_are_bytes.ensures, omega arith) c.slices_are_bytes-2.ensures out in
    record { opens = unopened (tagged_opened tag nonce) sealed working c.in_ok-len.ensures.enough none; left = sym (ap (tagged_left working) none) }

pub returns-then-not-same_tag : goal.returns-then-not-same_tag
returns-then-not-same_tag g c =
    let tag = g.T.Tag.tag_of c.args.self.now.tag in
    let sixteen = g.met.T.Tag.sixteen c.args.self.now.tag in
    let nonce = c.args.nonce.now in
    let sealed = c.args.sealed.now in
    let working = c.args.working.now in
    let n = c.in-Some.len in
    let f = subst (IsOpenedLen (length sealed)) c.in-Some.is c.in_ok-len.ensures.len in
    let k : n ≡ length sealed - 16 = omega arith in
    let apart = not_from_Decides c.same_tag.result c.same_tag.ensures c.if-not-same_tag.true in
    let differ : drop (length sealed - 16) sealed ≡ tag nonce (untagged sealed) → ⊥ =
    λ h. apart (take_rest sealed n ∙ ap (λ z. drop z sealed) k ∙ h ∙ ap (λ z. tag nonce (take z sealed)) (sym k) ∙ sym c.tag-tag.ensures) in
    let none = none_of_tag tag sixteen nonce sealed differ in
    record { opens = unopened (tagged_opened tag nonce) sealed working c.in_ok-len.ensures.enough none; left = sym (ap (tagged_left working) none) }

pub returns : goal.returns
returns g c =
    let tag = g.T.Tag.tag_of c.args.self.now.tag in
    let sixteen = g.met.T.Tag.sixteen c.args.self.now.tag in
    let nonce = c.args.nonce.now in
    let sealed = c.args.sealed.now in
    let working = c.args.working.now in
    let n = c.in-Some.len in
    let f = subst (IsOpenedLen (length sealed)) c.in-Some.is c.in_ok-len.ensures.len in
    let k : n ≡ length sealed - 16 = omega arith in
    let same = c.same_tag.ensures.0 c.if-not-same_tag.false in
    let ends : drop (length sealed - 16) sealed ≡ tag nonce (untagged sealed) =
    ap (λ z. drop z sealed) (sym k) ∙ sym (take_rest sealed n) ∙ same ∙ c.tag-tag.ensures ∙ ap (λ z. tag nonce (take z sealed)) k in
    let some = tagged_opens tag sixteen nonce sealed (omega arith) ends in
    let copied : c.copy_from_slice.new.self ≡ untagged sealed = c.copy_from_slice.ensures.after ∙ ap (λ z. take z sealed) k in
    let l : length (untagged sealed) ≡ n = length-take-le (length sealed - 16) sealed (omega arith) ∙ sym k in
    record {
      opens = opened_as (tagged_opened tag nonce) sealed working c.in_ok-len.ensures.enough c.copy_from_slice.new.self (untagged sealed) n copied l (omega arith) some;
      left = ap₂ (λ content z. content ++ drop z working) copied (sym l) ∙ sym (ap (tagged_left working) some);
    }
