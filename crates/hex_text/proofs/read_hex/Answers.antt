use Rattle.std.proofs.Common.{◌≡◌, ℕ, ◌∷◌, ◌++◌, List, [], drop, vec_items, sym, ap, ◌∙◌, arith}
use Rattle.std.proofs.lemmas.List.{take_rest}
use Rattle.hex_text.specs.Digits.{unhex}
use Rattle.hex_text.proofs.Reading.{before, read_more, read_none, read_all}
use Rattle.hex_text.proofs.read_hex.Goals as goal

pub returns-in_default-pair-clause-value : goal.returns-in_default-pair-clause-value
returns-in_default-pair-clause-value c =
    read_none c.args.text.now (vec_items c.loop-left.bytes) c.loop-left.left.now c.loop-left.invariant.read (omega arith) (sym c.in_default-pair.ensures)

pub loop-left-preserved : goal.loop-left-preserved
loop-left-preserved c =
    let xs = vec_items c.loop-left.bytes in
    let left = c.loop-left.left.now in
    let b = c.in-Some.byte in
    let items : vec_items c.push_reserved.new.self ≡ xs ++ (b ∷ []) = c.push_reserved.ensures.items in
    record {
      read = ap (before (vec_items c.push_reserved.new.self)) (ap unhex (take_rest left 2))
          ∙ ap (λ (ys : List ℕ). before ys (unhex (drop 2 left))) items
          ∙ read_more c.args.text.now xs left c.loop-left.invariant.read b (omega arith) (sym c.in-Some.ensures);
      within = let w = c.loop-left.invariant.within in omega (arith, w);
      room = let r = c.loop-left.invariant.room in omega (arith, r, c.push_reserved.ensures.len);
      enough = let e = c.loop-left.invariant.enough in omega (arith, e, c.push_reserved.ensures.capacity);
    }

pub returns-clause-value : goal.returns-clause-value
returns-clause-value c =
    read_all c.args.text.now (vec_items c.loop-left.bytes) c.loop-left.left.now (omega arith) (sym c.if-not-writes_bytes.false ∙ c.writes_bytes.ensures) c.loop-left.invariant.read

pub push_reserved-requires : goal.push_reserved-requires
push_reserved-requires c = let r = c.loop-left.invariant.room in let e = c.loop-left.invariant.enough in omega (arith, r, e)
