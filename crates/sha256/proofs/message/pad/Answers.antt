use Rattle.std.proofs.Common.{◌+◌, ◌-◌, ◌*◌, ◌/◌, length, replicate, refl, ◌∙◌, arith}
use Rattle.sha256.proofs.Padding.{laid}
use Rattle.sha256.proofs.message.pad.Goals as goal

pub returns : goal.returns
returns c =
    let tail = c.args.tail.now in
    let end = (length tail + 8) / 64 * 64 + 64 in
    record {
      bound = omega arith;
      laid = laid 128 (replicate 128 0) tail c.copy_from_slice.new.self c.copy_from_slice-2.new.self c.args.total end (end - (end - 8))
          refl refl c.requires.short c.requires.whole refl c.copy_from_slice.ensures.after (c.copy_from_slice-2.ensures.after ∙ c.to_be_bytes.ensures);
    }
