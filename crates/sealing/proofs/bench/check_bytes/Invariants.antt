use Rattle.std.proofs.Common.{◌≡◌, ℕ, ◌+◌, ◌%◌, ◌<◌, length, get_or, drop}
use Rattle.sealing.specs.Bench.{column}
use Rattle.sealing.proofs.bench.check_bytes.Given as goal

-- what has been added and what is left to add give each check byte
abbrev pub invariant-loop-i : goal.invariant-loop-i
invariant-loop-i l =
    (length l.sums ≡ 16)
    × ((j : ℕ) → j < 16 → (get_or l.sums j 0 + column l.i j (drop l.i l.content)) % 256 ≡ (get_or l.key j 0 + get_or l.nonce j 0 + column 0 j l.content) % 256)
    × ((j : ℕ) → j < 16 → get_or l.sums j 0 < 256)
