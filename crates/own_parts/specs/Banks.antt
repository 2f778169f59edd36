-- The words of two banks.
use Rattle.std.specs.Prelude.{ℕ, List, ◌++◌, vec_items}
use Rattle.own_parts.specs.declared.banks.Banks.{Banks}

abbrev pub banked : Banks → List ℕ
banked b = vec_items b.low ++ vec_items b.high
