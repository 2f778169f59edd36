-- What an insert and a take make of a store of one token.
use Rattle.std.proofs.Common.{◌≡◌, ℕ, ◌≤◌, Bool, true, false, not, length, vec_items, Some, Ok, sym, refl, ◌∙◌, subst, inr, ⊎_elim}
use Rattle.std.specs.Str.{bytes_eq}
use Rattle.std.proofs.lemmas.Bool.{false≢true, and_parts, and_from, cases_Bool}
use Rattle.std.proofs.lemmas.Slice.Eq.{bytes_eq-Decides}
use Rattle.answers.specs.Buffers.{fronted}
use Rattle.token_store.specs.Store.{Bytes, Holds, Inserted, Handed, Takes}
use Rattle.token_store.specs.Store.Takes.{some}
use Rattle.own_parts.specs.declared.slot.OneToken.{OneToken}
use Rattle.own_parts.specs.Slots.{slot_holds}

-- what is held is the token, under its name
held_is : (s : OneToken) (n t : Bytes) → slot_holds s n t ≡ true → (s.filled ≡ true) × (n ≡ vec_items s.name) × (t ≡ vec_items s.token)
held_is s n t h =
    let p = and_parts _ _ h in
    let q = and_parts _ _ p.1 in
    (p.0, (bytes_eq-Decides n (vec_items s.name)).0 q.0, (bytes_eq-Decides t (vec_items s.token)).0 q.1)

is_held : (s : OneToken) (n : Bytes) → s.filled ≡ true → n ≡ vec_items s.name → slot_holds s n (vec_items s.token) ≡ true
is_held s n f e = and_from _ _ f (and_from _ _ ((bytes_eq-Decides n (vec_items s.name)).1 e) ((bytes_eq-Decides (vec_items s.token) (vec_items s.token)).1 refl))

same_if : (b : Bool) → false ≡ not b → b ≡ true
same_if true e = refl
same_if false e = absurd (false≢true e)

pub same_bytes : (xs ys : Bytes) → false ≡ not (bytes_eq xs ys) → xs ≡ ys
same_bytes xs ys e = (bytes_eq-Decides xs ys).0 (same_if _ e)

pub inserted : (s s' : OneToken) (n t : Bytes) → (s'.filled ≡ true → (vec_items s'.name ≡ n) × (vec_items s'.token ≡ t)) → Inserted n t (slot_holds s) (slot_holds s')
inserted s s' n t k m u h = let p = held_is s' m u h in let e = k p.0 in inr (p.1 ∙ e.0, p.2 ∙ e.1)

pub taken : (s : OneToken) (h' : Holds) (n out out' : Bytes) (k : ℕ) → 512 ≤ length out → length n ≤ 255 → s.filled ≡ true → n ≡ vec_items s.name
    → ((m u : Bytes) → h' m u ≡ false) → length (vec_items s.token) ≤ 512 → out' ≡ fronted (vec_items s.token) out → k ≡ length (vec_items s.token)
    → Takes n out out' (slot_holds s) h' (Ok (Some k))
taken s h' n out out' k room short f e none fits after len =
    let t = vec_items s.token in
    let handed : Handed n t (slot_holds s) h' = record {
      held = is_held s n f e;
      gone = none n t;
      others = λ m u apart. none m u ∙ ⊎_elim (λ y. let p = held_is s m u y in absurd (apart (p.1 ∙ sym e) p.2)) (λ z. sym z) (cases_Bool (slot_holds s m u));
    } in
    let P : ℕ → Type 0 = λ i. Takes n out out' (slot_holds s) h' (Ok (Some i)) in
    subst P (sym len) (some room short t fits after handed)
