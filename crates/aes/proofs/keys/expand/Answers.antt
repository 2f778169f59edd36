use Rattle.std.proofs.Common.{◌≡◌, ◌-◌, ◌/◌, length, refl, ◌∙◌, add-one, arith}
use Rattle.aes.specs.Keys.{key_words, expand, key_expansion}
use Rattle.aes.proofs.Chunks.{word_of_chunk}
use Rattle.aes.proofs.Following.{expand_more}
use Rattle.aes.proofs.keys.expand.Goals as goal

pub loop-i-init : goal.loop-i-init
unfolding key_words
loop-i-init c = refl

pub loop-i-preserved : goal.loop-i-preserved
unfolding key_words
loop-i-preserved c =
    let key = c.args.key.now in
    let w = word_of_chunk (length key / 4) c.loop-i.i key c.as_chunks.result.0.now c.from_be_bytes.result (omega arith) c.as_chunks.ensures.front c.from_be_bytes.ensures in
    simp (add-one, ← c.loop-i.invariant, w)

pub loop-i-2-init : goal.loop-i-2-init
unfolding expand
loop-i-2-init c = refl

pub loop-i-2-preserved : goal.loop-i-2-preserved
loop-i-2-preserved c = expand_more c.loop-i-2.i c.temp.result c.loop-i-2.words c.loop-i.words (omega arith) c.temp.ensures c.loop-i-2.invariant

pub returns : goal.returns
unfolding key_expansion
returns c =
    let p : c.loop-i-2.i - 8 ≡ 52 = omega arith in
    let q : c.loop-i.i ≡ 8 = omega arith in
    c.loop-i-2.invariant ∙ simp (p, c.loop-i.invariant, q)
