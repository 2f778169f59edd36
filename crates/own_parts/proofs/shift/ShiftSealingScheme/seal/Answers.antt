use Rattle.std.proofs.Common.{◌≡◌, ℕ, ◌+◌, ◌-◌, ◌≤◌, ◌++◌, length, take, drop, replicate, sym, refl, ap, ◌∙◌, true, false, Bool, arith}
use Rattle.std.proofs.lemmas.List.{length-take-le, length-take, length-drop, length-append}
use Rattle.answers.specs.Buffers.{pasted}
use Rattle.answers.proofs.Buffers.{put_pasted, pasted-pasted, pasted_front}
use Rattle.own_parts.specs.Shifting.{shifted, length-shift}
use Rattle.own_parts.proofs.shift.ShiftSealingScheme.seal.Goals as goal

pub returns : goal.returns
returns c =
    let key = c.args.self.now.key in
    let len = c.args.len in
    let working = c.args.working.now in
    let out = c.args.out.now in
    let end = c.in_ok-end.end in
    let few : len ≤ 64 = c.in_ok-end.ensures.few in
    let room : len + 16 ≤ length out = c.in_ok-end.ensures.room in
    let enough : 96 ≤ length working = c.in_ok-end.ensures.enough in
    let ends : end ≡ len + 16 = c.in_ok-end.ensures.len in
    let m = shifted key (take len working) in
    let lm : length m ≡ len = length-shift key (take len working) ∙ length-take-le len working (omega arith) in
    let at : len ≡ 0 + length m = omega arith in
    let A = c.add_key.new.out in
    let la : length A ≡ length out = ap length c.add_key.ensures ∙ omega (arith, length-append m (drop (length m) out), length-drop (length m) out) in
    let wide : length (take (end - len) (drop len A)) ≡ 16 = omega (arith, length-take (end - len) (drop len A), length-drop len A) in
    let zeros : c.fill.new.self ≡ replicate 16 0 = c.fill.ensures.after (λ y e. e) ∙ ap (λ k. replicate k 0) wide in
    record {
      answer = c.in_ok-end.ensures.answer;
      after =
          put_pasted (replicate 16 0) c.fill.new.self A len (end - len) zeros (omega arith) ∙ ap (pasted (replicate 16 0) len) (c.add_key.ensures ∙ sym (pasted_front m out))
          ∙ ap (λ k. pasted (replicate 16 0) k (pasted m 0 out)) at ∙ pasted-pasted m (replicate 16 0) out 0 (omega arith) ∙ pasted_front (m ++ replicate 16 0) out;
      kept = λ e. refl;
      past = refl;
    }
