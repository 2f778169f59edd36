-- What a log of exact pairs bars before and after a call. (It stands here and not among the proofs, as an `impl` cites only
-- what stands here.)
use Rattle.std.proofs.Common.{◌≡◌, ℕ, Bool, true, false, ◌||◌, ◌&&◌, nat_eq, not, List, [], ◌∷◌, ◌++◌, cond, is_ok, Ok, Err, vec_items, vec_len, vec_capacity, sym, refl, ap, ◌∙◌, ⊎_elim}
use Rattle.std.proofs.lemmas.Bool.{false≢true, eq-eqb, or_cases, or_parts, or_left, or_right, and_from, not-true}
use Rattle.std.proofs.lemmas.List.Folds.{list_any-append}
use Rattle.answers.specs.declared.LogCause.TheVariants.{Held, Full}
use Rattle.token_log.specs.Log.{Query, Answer, Answered}
use Rattle.own_parts.specs.declared.pairs.Pair.{Pair}
use Rattle.own_parts.specs.declared.pairs.PairLog.{PairLog}
use Rattle.own_parts.specs.Pairs.{has_pair, is_full, pairs_bar, PairsLog}

has_push : (l i m j : ℕ) (ps : List Pair) → has_pair l i (ps ++ record { low = m; issued = j } ∷ []) ≡ (has_pair l i ps || ((nat_eq m l && nat_eq j i) || false))
has_push l i m j ps = list_any-append (λ p. nat_eq p.low l && nat_eq p.issued i) ps (record { low = m; issued = j } ∷ [])

in_pushed : (l i m j : ℕ) (ps qs : List Pair) → qs ≡ ps ++ record { low = m; issued = j } ∷ [] → (has_pair l i ps || ((nat_eq m l && nat_eq j i) || false)) ≡ true → has_pair l i qs ≡ true
in_pushed l i m j ps qs e h = ap (has_pair l i) e ∙ has_push l i m j ps ∙ h

now_barred : (m j : ℕ) (ps qs : List Pair) (full : Bool) → qs ≡ ps ++ record { low = m; issued = j } ∷ [] → (has_pair m j qs || full) ≡ true
now_barred m j ps qs full e =
    let same : (nat_eq m m && nat_eq j j) ≡ true = and_from (nat_eq m m) (nat_eq j j) (eq-eqb m m refl) (eq-eqb j j refl) in
    or_left (has_pair m j qs) full (in_pushed m j m j ps qs e (or_right (has_pair m j ps) ((nat_eq m m && nat_eq j j) || false) (or_left (nat_eq m m && nat_eq j j) false same)))

still_barred : (l i m j : ℕ) (ps qs : List Pair) (full full' : Bool) → full ≡ false → qs ≡ ps ++ record { low = m; issued = j } ∷ [] → (has_pair l i ps || full) ≡ true
    → (has_pair l i qs || full') ≡ true
still_barred l i m j ps qs full full' f e h =
    let held : has_pair l i ps ≡ true = ⊎_elim (λ a. a) (λ a. absurd (false≢true (sym f ∙ a))) (or_cases (has_pair l i ps) full h) in
    or_left (has_pair l i qs) full' (in_pushed l i m j ps qs e (or_left (has_pair l i ps) ((nat_eq m l && nat_eq j i) || false) held))

as_before : (low issued len len' places places' : ℕ) (ps ps' : List Pair) → ps' ≡ ps → len' ≡ len → places' ≡ places
    → (has_pair low issued ps' || nat_eq len' places') ≡ (has_pair low issued ps || nat_eq len places)
as_before low issued len len' places places' ps ps' e f g = rw (e, f, g) refl

answered : (held full : Bool) (r : Answer) → r ≡ cond held (Err Held) (cond full (Err Full) (Ok tt)) → is_ok r ≡ not (held || full)
answered true full r e = ap is_ok e
answered false true r e = ap is_ok e
answered false false r e = ap is_ok e

pub pairs_tied : (s s' : PairLog) (x : Query) (r : Answer) → PairsLog s x r s' → Answered x (is_ok r) (pairs_bar s) (pairs_bar s')
pairs_tied s s' x (Err cause) w = record {
  answer = answered (has_pair x.low x.issued (vec_items s.pairs)) (is_full s) (Err cause) w.answer;
  same = λ e t l i. as_before l i (vec_len s.pairs) (vec_len s'.pairs) (vec_capacity s.pairs) (vec_capacity s'.pairs) (vec_items s.pairs) (vec_items s'.pairs) w.pairs w.len w.places;
  barred = λ e. absurd (false≢true e);
  kept = λ e. absurd (false≢true e);
}
pairs_tied s s' x (Ok taken) w =
    let answer = answered (has_pair x.low x.issued (vec_items s.pairs)) (is_full s) (Ok taken) w.answer in
    let free = or_parts (has_pair x.low x.issued (vec_items s.pairs)) (is_full s) (not-true _ (sym answer)) in
    record {
      answer = answer;
      same = λ e. absurd (false≢true (sym e));
      barred = λ e. now_barred x.low x.issued (vec_items s.pairs) (vec_items s'.pairs) (is_full s') w.pairs;
      kept = λ e l i h. still_barred l i x.low x.issued (vec_items s.pairs) (vec_items s'.pairs) (is_full s) (is_full s') free.1 w.pairs h;
    }
