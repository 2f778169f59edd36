-- Two rules whose lists are equal agree. The checker computes the lists.
use Rattle.std.proofs.Common.{◌≡◌, ℕ, ◌<◌, map, get_or, sym, ap, ◌∙◌, zero-add}
use Rattle.std.specs.List.{range_with_len}
use Rattle.std.proofs.lemmas.List.FromFn.{get_or-map-range_with_len}

pub agree : {A : Type 0} (f g : ℕ → A) (n : ℕ) → map f (range_with_len 0 n) ≡ map g (range_with_len 0 n) → (k : ℕ) → k < n → f k ≡ g k
agree f g n e k h =
    let d = f k in
    sym (get_or-map-range_with_len f 0 n k k d h (zero-add k)) ∙ ap (λ l. get_or l k d) e ∙ get_or-map-range_with_len g 0 n k k d h (zero-add k)
