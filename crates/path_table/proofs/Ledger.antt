-- On an unvalidated path, what the table keeps is what the calls say, and so never too much is sent.
use Rattle.std.proofs.Common.{cond, ◌≡◌, ℕ, zero, suc, ◌+◌, ◌*◌, ◌<◌, ◌≤◌, Bool, true, false, not, ◌||◌, nat_eq, nat_le, nat_lt, ◌≢◌, ◌↔◌, List, [], ◌∷◌, length, replicate, Some, None, Ok, Err, Option, Result, sym, refl, ap, ◌∙◌, subst, ⊎_elim, arith, get_or-set_other, get_or-set_same}
use Rattle.std.proofs.lemmas.Bool.{false≢true, or_parts, or_from, or_left, or_right, cond-true, cond-false, cases_Bool, cases_eq, eq-eqb, ne_eqb, ltb-false, leb-true, leb-false, le-leb, lt-leb, not-false, le-ltb, cases_lt}
use Rattle.std.proofs.lemmas.List.{get_or_past, get_or-replicate, length-replicate}
use Rattle.answers.specs.declared.Refusal.{Refusal}
use Rattle.answers.specs.declared.Refusal.TheVariants.{BeyondAllowance, NoPath, GrantsOpen}
use Rattle.answers.specs.Successions.{Succession, Adds}
use Rattle.answers.specs.Successions.Succession.{new, then}
use Rattle.path_table.specs.declared.meter.Meter.{Meter}
use Rattle.path_table.specs.declared.meter.TheConstants.{AMPLIFICATION_FACTOR, MAX_COUNTED_BYTES, MAX_GRANTED_BYTES, MAX_OPEN_GRANTS}
use Rattle.path_table.specs.Meters.{fresh, validated, received as received_more, allows, with_grant, granted as granted_more, without_grant, spent}
use Rattle.path_table.specs.Paths.{Paths, path, with_path, Opens, Act, still_open, turned, turned_at, told, left, Turns}
use Rattle.path_table.specs.Paths.Act.{validates, receives, grants, spends, closes}
use Rattle.path_table.specs.Laws.{Call, Step, since, opened_validated, validating, granted, sent, returned, counted, grants_given, grants_used_up, open_grants, Within, NeverTooMuch, Grantable, Fair, AlwaysFair}
use Rattle.path_table.specs.Laws.Call.{opening, turning}

-- what is kept of an unvalidated path agrees with what was done to it
pub record Book (m : Meter) (acts : List Act) : Type 0 where
  pub counts : m.counted ≡ counted acts
  pub sends : m.sent ≡ sent acts
  pub owes : m.owed + (sent acts + returned acts) ≡ granted acts
  pub within : m.sent + m.owed ≤ AMPLIFICATION_FACTOR * m.counted

-- a path that was opened validated or not, and what was done to it since
abbrev At : Bool → List Act → Option Meter → Type 0
At v acts None = (v || validating acts) ≡ false → Within acts
At v acts (Some m) = (m.validated ≡ (v || validating acts)) × (m.grants + grants_used_up acts ≡ grants_given acts) × (m.validated ≡ false → Book m acts)

within_book : (m : Meter) (acts : List Act) → Book m acts → Within acts
within_book m acts b = record { of_grants = omega (arith, b.owes); bound = omega (arith, b.counts, b.sends, b.owes, b.within) }

same_meter : (m m' : Meter) → ◌≡◌ {A = Result (Option Meter) Refusal} (Ok (Some m)) (Ok (Some m')) → m ≡ m'
same_meter m m' e = cc

validates_kept : (v : Bool) (acts : List Act) (m : Meter) → At v acts (Some m) → At v (validates ∷ acts) (Some (validated m))
validates_kept v acts m k = (sym (or_right v true refl), k.1, λ e. absurd (false≢true (sym e)))

receives_kept : (v : Bool) (acts : List Act) (m : Meter) (n : ℕ) → At v acts (Some m) → At v (receives n ∷ acts) (Some (received_more n m))
receives_kept v acts m n k = ⊎_elim old counts (cases_Bool m.validated)
  where
    old : m.validated ≡ true → At v (receives n ∷ acts) (Some (received_more n m))
    old t = subst (λ x. At v (receives n ∷ acts) (Some x)) (sym (cond-true m.validated _ _ t)) (k.0, k.1, λ e. absurd (false≢true (sym e ∙ t)))

    counts : m.validated ≡ false → At v (receives n ∷ acts) (Some (received_more n m))
    counts f =
        let b = k.2 f in
        subst (λ x. At v (receives n ∷ acts) (Some x)) (sym (cond-false m.validated _ _ f)) (
          k.0,
          k.1,
          λ e. record {
            counts = omega (arith, b.counts);
            sends = omega (arith, b.sends);
            owes = omega (arith, b.owes);
            within = omega (arith, b.within, b.counts);
          },
        )

-- a call that was not refused
passed : (b : Bool) (e : Refusal) (r : Result Meter Refusal) (m : Meter) → cond b (Err e) r ≡ Ok m → (b ≡ false) × (r ≡ Ok m)
passed true e r m h = let x : ◌≡◌ {A = Result Meter Refusal} (Err e) (Ok m) = h in absurd (cc)
passed false e r m h = (refl, h)

unopened : (r : Result Meter Refusal) (m : Meter) → still_open r ≡ Ok (Some m) → r ≡ Ok m
unopened (Ok n) m h = ap Ok (same_meter n m h)
unopened (Err e) m h = absurd (cc)

same_ok : (m m' : Meter) → ◌≡◌ {A = Result Meter Refusal} (Ok m) (Ok m') → m ≡ m'
same_ok m m' e = cc

grants_kept : (v : Bool) (acts : List Act) (m m' : Meter) (n : ℕ) → At v acts (Some m) → still_open (granted_more n m) ≡ Ok (Some m') → At v (grants n ∷ acts) (Some m')
grants_kept v acts m m' n k e =
    let g : ((nat_lt MAX_GRANTED_BYTES n || (nat_le MAX_OPEN_GRANTS m.grants || not (allows n m))) ≡ false) × (Ok (with_grant n m) ≡ Ok m') = passed _ _ _ _ (unopened _ _ e) in
    let a : (m.validated || nat_le (m.sent + m.owed + n) (AMPLIFICATION_FACTOR * m.counted)) ≡ true = not-false _ (or_parts _ _ (or_parts _ _ g.0).1).1 in
    subst (λ x. At v (grants n ∷ acts) (Some x)) {x = with_grant n m} (same_ok _ _ g.1) (
      k.0,
      omega (arith, k.1),
      λ f.
          let b = k.2 f in
          let w : nat_le (m.sent + m.owed + n) (AMPLIFICATION_FACTOR * m.counted) ≡ true = sym (ap (λ x. x || nat_le (m.sent + m.owed + n) (AMPLIFICATION_FACTOR * m.counted)) f) ∙ a in
          let l : m.sent + m.owed + n ≤ AMPLIFICATION_FACTOR * m.counted = leb-true _ _ w in
          let c : m.counted ≤ MAX_COUNTED_BYTES = omega (arith, b.counts) in
          record {
            counts = omega (arith, b.counts);
            sends = omega (arith, b.sends);
            owes = omega (arith, b.owes);
            within = omega arith;
          },
    )

some_open : (n : ℕ) → nat_eq n 0 ≡ false → 1 ≤ n
some_open zero e = absurd (false≢true (sym e))
some_open (suc n) e = omega arith

spends_kept : (v : Bool) (acts : List Act) (m m' : Meter) (q n k : ℕ) → At v acts (Some m) → still_open (spent n k m) ≡ Ok (Some m') → At v (spends q n k ∷ acts) (Some m')
spends_kept v acts m m' q n k h e =
    let g : ((nat_eq m.grants 0 || nat_lt m.owed n) ≡ false) × (cond (nat_lt n k) (Err BeyondAllowance) (Ok (without_grant n k m)) ≡ Ok m') = passed _ _ _ _ (unopened _ _ e) in
    let u : (nat_lt n k ≡ false) × (Ok (without_grant n k m) ≡ Ok m') = passed _ _ _ _ g.1 in
    subst (λ x. At v (spends q n k ∷ acts) (Some x)) {x = without_grant n k m} (same_ok _ _ u.1) (
      h.0,
      (let pos = some_open m.grants (or_parts _ _ g.0).0 in omega (arith, h.1)),
      λ f.
          let b = h.2 f in
          let s : cond m.validated m.sent (m.sent + k) ≡ m.sent + k = cond-false _ _ _ f in
          let lw : n ≤ m.owed = ltb-false _ _ (or_parts _ _ g.0).1 in
          let lk : k ≤ n = ltb-false _ _ u.0 in
          record {
            counts = omega (arith, b.counts);
            sends = s ∙ omega (arith, b.sends);
            owes = omega (arith, b.owes);
            within = omega (arith, b.within, s);
          },
    )

-- a path that is closed stays within
closes_kept : (v : Bool) (acts : List Act) (m : Meter) → At v acts (Some m) → At v (closes ∷ acts) None
closes_kept v acts m k u =
    let w = within_book m acts (k.2 (k.0 ∙ u)) in
    record { of_grants = w.of_grants; bound = w.bound }

-- what a call makes of a path that is open
abbrev Kept : Bool → List Act → Result (Option Meter) Refusal → Act → Type 0
Kept v acts (Ok o) a = At v (a ∷ acts) o
Kept v acts (Err e) a = Unit {0}

opened_kept : (v : Bool) (acts : List Act) (a : Act) (r : Result Meter Refusal) → ((m : Meter) → r ≡ Ok m → At v (a ∷ acts) (Some m)) → Kept v acts (still_open r) a
opened_kept v acts a (Ok m) h = h m refl
opened_kept v acts a (Err e) h = tt

own : (v : Bool) (acts : List Act) (p q n k : ℕ) (m : Meter) (b : Bool) → At v acts (Some m) → Kept v acts (cond b (still_open (spent n k m)) (Err NoPath)) (spends q n k)
own v acts p q n k m true h = opened_kept v acts (spends q n k) (spent n k m) (λ m' e. spends_kept v acts m m' q n k h (ap still_open e))
own v acts p q n k m false h = tt

end : (v : Bool) (acts : List Act) (m : Meter) (b : Bool) → At v acts (Some m) → Kept v acts (cond b (Err GrantsOpen) (Ok None)) closes
end v acts m true h = tt
end v acts m false h = closes_kept v acts m h

turn_kept : (v : Bool) (acts : List Act) (p : ℕ) (m : Meter) (a : Act) → At v acts (Some m) → Kept v acts (turned p a m) a
turn_kept v acts p m validates h = validates_kept v acts m h
turn_kept v acts p m (receives n) h = receives_kept v acts m n h
turn_kept v acts p m (grants n) h = opened_kept v acts (grants n) (granted_more n m) (λ m' e. grants_kept v acts m m' n h (ap still_open e))
turn_kept v acts p m (spends q n k) h = own v acts p q n k m (nat_eq q p) h
turn_kept v acts p m closes h = end v acts m (nat_lt 0 m.grants) h

at_kept : (v : Bool) (acts : List Act) (p : ℕ) (o : Option Meter) (a : Act) → At v acts o → Kept v acts (turned_at p a o) a
at_kept v acts p None a h = tt
at_kept v acts p (Some m) a h = turn_kept v acts p m a h

-- ---- tables

pub other_path : (ps : Paths) (q p : ℕ) (o : Option Meter) → p ≢ q → path (with_path ps q o) p ≡ path ps p
other_path ps zero p o ne = refl
other_path ps (suc q) zero o ne = refl
other_path ps (suc q) (suc p) o ne = get_or-set_other ps q p o None (λ e. ne (ap suc e))

pub same_path : (ps : Paths) (p : ℕ) (o : Option Meter) → 0 < p → p ≤ length ps → path (with_path ps p o) p ≡ o
same_path ps zero o lo hi = absurd (omega arith)
same_path ps (suc p) o lo hi = get_or-set_same ps p o None (omega arith)

-- only a place of a record has a path
pub there : (ps : Paths) (p : ℕ) (m : Meter) → path ps p ≡ Some m → (0 < p) × (p ≤ length ps)
there ps zero m e = absurd (cc)
there ps (suc p) m e = ⊎_elim (λ h. (omega arith, omega arith)) (λ h. absurd (let z : path ps (suc p) ≡ None = get_or_past ps p None h in cc)) (cases_lt p (length ps))

abbrev Agrees : ℕ → List Call → Paths → Type 0
Agrees p xs ps = At (opened_validated p xs) (since p xs) (path ps p)

opened_other : (p q : ℕ) (v : Bool) (xs : List Call) (ps : Paths) → p ≢ q → Agrees p xs ps → Agrees p (opening v (Ok q) ∷ xs) (with_path ps q (Some (fresh v)))
opened_other p q v xs ps ne h =
    let f : nat_eq q p ≡ false = ne_eqb q p (λ e. ne (sym e)) in
    subst (At (opened_validated p (opening v (Ok q) ∷ xs)) (since p (opening v (Ok q) ∷ xs))) {x = path ps p} (sym (other_path ps q p (Some (fresh v)) ne))
    (subst (λ w. At w (since p (opening v (Ok q) ∷ xs)) (path ps p)) {x = opened_validated p xs} (sym (cond-false _ _ _ f))
    (subst (λ acts. At (opened_validated p xs) acts (path ps p)) {x = since p xs} (sym (cond-false _ _ _ f)) h))

begun : (v : Bool) → At v [] (Some (fresh v))
begun true = (refl, refl, λ e. absurd (false≢true (sym e)))
begun false = (refl, refl, λ e. record { counts = refl; sends = refl; owes = refl; within = omega arith })

opened_here : (p : ℕ) (v : Bool) (xs : List Call) (ps : Paths) → 0 < p → p ≤ length ps → Agrees p (opening v (Ok p) ∷ xs) (with_path ps p (Some (fresh v)))
opened_here p v xs ps lo hi =
    let t : nat_eq p p ≡ true = eq-eqb p p refl in
    subst (At (opened_validated p (opening v (Ok p) ∷ xs)) (since p (opening v (Ok p) ∷ xs))) {x = Some (fresh v)} (sym (same_path ps p (Some (fresh v)) lo hi))
    (subst (λ w. At w (since p (opening v (Ok p) ∷ xs)) (Some (fresh v))) {x = v} (sym (cond-true _ _ _ t))
    (subst (λ acts. At v acts (Some (fresh v))) {x = []} (sym (cond-true _ _ _ t)) (begun v)))

opens : (p : ℕ) (v : Bool) (r : Result ℕ Refusal) (xs : List Call) (ps ps' : Paths) → Opens v ps ps' r → Agrees p xs ps → Agrees p (opening v r ∷ xs) ps'
opens p v (Err e) xs ps ps' s h = subst (Agrees p (opening v (Err e) ∷ xs)) {x = ps} (sym s.2) h
opens p v (Ok q) xs ps ps' s h =
    subst (Agrees p (opening v (Ok q) ∷ xs)) {x = with_path ps q (Some (fresh v))} (sym s.3)
    (⊎_elim (λ e. subst (λ z. Agrees z (opening v (Ok q) ∷ xs) (with_path ps q (Some (fresh v)))) {x = q} (sym e) (opened_here q v xs ps s.0 s.1))
    (λ ne. opened_other p q v xs ps ne h) (cases_eq p q))

-- a call on another path
turned_other : (p q : ℕ) (a : Act) (r : Result (Unit {0}) Refusal) (xs : List Call) (ps ps' : Paths) → p ≢ q → path ps' p ≡ path ps p → Agrees p xs ps → Agrees p (turning q a r ∷ xs) ps'
turned_other p q a r xs ps ps' ne e h =
    let f : nat_eq q p ≡ false = ne_eqb q p (λ z. ne (sym z)) in
    subst (At (opened_validated p xs) (since p (turning q a r ∷ xs))) {x = path ps p} (sym e)
    (subst (λ acts. At (opened_validated p xs) acts (path ps p)) {x = since p xs} (sym (cond-false _ _ _ f)) h)

left_other : (p q : ℕ) (ps : Paths) (o : Result (Option Meter) Refusal) → p ≢ q → path (left ps q o) p ≡ path ps p
left_other p q ps (Ok o) ne = other_path ps q p o ne
left_other p q ps (Err e) ne = refl

-- a call on this path
turned_here : (p : ℕ) (a : Act) (xs : List Call) (ps : Paths) (o : Result (Option Meter) Refusal) → turned_at p a (path ps p) ≡ o → Agrees p xs ps
    → Kept (opened_validated p xs) (since p xs) o a → Agrees p (turning p a (told o) ∷ xs) (left ps p o)
turned_here p a xs ps (Err e) w h k =
    let t : nat_eq p p ≡ true = eq-eqb p p refl in
    subst (λ acts. At (opened_validated p xs) acts (path ps p)) {x = since p xs} (sym (cond-true _ _ _ t)) h
turned_here p a xs ps (Ok o) w h k =
    let t : nat_eq p p ≡ true = eq-eqb p p refl in
    let b : (0 < p) × (p ≤ length ps) = was_there (path ps p) refl w in
    subst (At (opened_validated p xs) (since p (turning p a (Ok tt) ∷ xs))) {x = o} (sym (same_path ps p o b.0 b.1))
    (subst (λ acts. At (opened_validated p xs) acts o) {x = a ∷ since p xs} (sym (cond-true _ _ _ t)) k)
  where
    was_there : (c : Option Meter) → path ps p ≡ c → turned_at p a (path ps p) ≡ Ok o → (0 < p) × (p ≤ length ps)
    was_there None e f = absurd (let z : turned_at p a (path ps p) ≡ Err NoPath = ap (turned_at p a) e in cc)
    was_there (Some m) e f = there ps p m e

turns : (p q : ℕ) (a : Act) (r : Result (Unit {0}) Refusal) (xs : List Call) (ps ps' : Paths) → Turns q a ps ps' r → Agrees p xs ps → Agrees p (turning q a r ∷ xs) ps'
turns p q a r xs ps ps' s h = ⊎_elim here (λ ne. turned_other p q a r xs ps ps' ne (ap (λ z. path z p) s.after ∙ left_other p q ps _ ne) h) (cases_eq p q)
  where
    here : p ≡ q → Agrees p (turning q a r ∷ xs) ps'
    here e =
        subst (λ z. Agrees p (turning z a r ∷ xs) ps') {x = p} e
        (subst (λ z. Agrees p (turning p a z ∷ xs) ps') {x = told (turned_at p a (path ps p))} (sym (s.answer ∙ ap (λ z. told (turned_at z a (path ps z))) (sym e)))
        (subst (Agrees p (turning p a (told (turned_at p a (path ps p))) ∷ xs)) {x = left ps p (turned_at p a (path ps p))} (sym (s.after ∙ ap (λ z. left ps z (turned_at z a (path ps z))) (sym e)))
        (turned_here p a xs ps (turned_at p a (path ps p)) refl h (at_kept (opened_validated p xs) (since p xs) p (path ps p) a h))))

-- ---- successions

steps : (p : ℕ) (x : Call) (xs : List Call) (ps ps' : Paths) → Step ps x ps' → Agrees p xs ps → Agrees p (x ∷ xs) ps'
steps p (opening v r) xs ps ps' s h = opens p v r xs ps ps' s h
steps p (turning q a r) xs ps ps' s h = turns p q a r xs ps ps' s h

pub none_at : (n p : ℕ) → path (replicate n None) p ≡ None
none_at n zero = refl
none_at n (suc p) = ⊎_elim (λ h. get_or-replicate n p None None h) (λ h. get_or_past (replicate n None) p None (omega (arith, length-replicate {A = Option Meter} n None))) (cases_lt p n)

agree : (n p : ℕ) (xs : List Call) (ps : Paths) → Succession Step (replicate n None) xs ps → Agrees p xs ps
agree n p [] ps new = subst (At false []) {x = None} (sym (none_at n p)) (λ e. record { of_grants = omega arith; bound = omega arith })
agree n p (x ∷ xs) ps' (then {s' = ps} before step) = steps p x xs ps ps' step (agree n p xs ps before)

agrees_within : (v : Bool) (acts : List Act) (o : Option Meter) → At v acts o → (v || validating acts) ≡ false → Within acts
agrees_within v acts None h u = h u
agrees_within v acts (Some m) h u = within_book m acts (h.2 (h.0 ∙ u))

pub never_too_much : (ps : Paths) → NeverTooMuch ps
never_too_much ps n [] s = tt
never_too_much ps' n (x ∷ xs) (then {s' = ps} before step) =
    ((λ p u. agrees_within (opened_validated p (x ∷ xs)) (since p (x ∷ xs)) (path ps' p) (steps p x xs ps ps' step (agree n p xs ps before)) u), never_too_much ps n xs before)

-- ---- what is granted and closed

not_granted : (b : Bool) (m : Meter) → told (still_open (cond b (Err BeyondAllowance) (Ok m))) ≡ Ok tt → b ≡ false
not_granted true m e = absurd (cc)
not_granted false m e = refl

is_granted : (b : Bool) (m : Meter) → b ≡ false → told (still_open (cond b (Err BeyondAllowance) (Ok m))) ≡ Ok tt
is_granted true m e = absurd (false≢true (sym e))
is_granted false m e = refl

grant_given : (p n : ℕ) (xs : List Call) (m : Meter) → At (opened_validated p xs) (since p xs) (Some m)
    → (nat_lt MAX_GRANTED_BYTES n || (nat_le MAX_OPEN_GRANTS m.grants || not (allows n m))) ≡ false → Grantable p n xs
grant_given p n xs m h b =
    let z : (nat_lt MAX_GRANTED_BYTES n ≡ false) × ((nat_le MAX_OPEN_GRANTS m.grants || not (allows n m)) ≡ false) = or_parts _ _ b in
    let i : (nat_le MAX_OPEN_GRANTS m.grants ≡ false) × (not (allows n m) ≡ false) = or_parts _ _ z.1 in
    let room : (m.validated || nat_le (m.sent + m.owed + n) (AMPLIFICATION_FACTOR * m.counted)) ≡ true = not-false (allows n m) i.1 in
    let j = h.1 in
    let l : m.grants < MAX_OPEN_GRANTS = leb-false MAX_OPEN_GRANTS m.grants i.0 in
    record {
      size = ltb-false MAX_GRANTED_BYTES n z.0;
      number = omega arith;
      allowance = λ u.
          let f : m.validated ≡ false = h.0 ∙ u in
          let k = h.2 f in
          let w : nat_le (m.sent + m.owed + n) (AMPLIFICATION_FACTOR * m.counted) ≡ true = sym (ap (λ x. x || nat_le (m.sent + m.owed + n) (AMPLIFICATION_FACTOR * m.counted)) f) ∙ room in
          let r : m.sent + m.owed + n ≤ AMPLIFICATION_FACTOR * m.counted = leb-true (m.sent + m.owed + n) (AMPLIFICATION_FACTOR * m.counted) w in
          omega (arith, k.counts, k.sends, k.owes);
    }

grant_gives : (p n : ℕ) (xs : List Call) (m : Meter) → At (opened_validated p xs) (since p xs) (Some m) → Grantable p n xs
    → (nat_lt MAX_GRANTED_BYTES n || (nat_le MAX_OPEN_GRANTS m.grants || not (allows n m))) ≡ false
grant_gives p n xs m h g =
    let few : nat_le MAX_OPEN_GRANTS m.grants ≡ false = lt-leb MAX_OPEN_GRANTS m.grants (omega (arith, g.number, h.1)) in
    let room : allows n m ≡ true
    = ⊎_elim (λ t. or_left m.validated (nat_le (m.sent + m.owed + n) (AMPLIFICATION_FACTOR * m.counted)) t)
    (λ f.
    let k = h.2 f in
    or_right m.validated (nat_le (m.sent + m.owed + n) (AMPLIFICATION_FACTOR * m.counted))
    (le-leb (m.sent + m.owed + n) (AMPLIFICATION_FACTOR * m.counted) (omega (arith, g.allowance (sym h.0 ∙ f), k.counts, k.sends, k.owes)))) (cases_Bool m.validated) in
    or_from (nat_lt MAX_GRANTED_BYTES n) (nat_le MAX_OPEN_GRANTS m.grants || not (allows n m)) (le-ltb MAX_GRANTED_BYTES n g.size)
    (or_from (nat_le MAX_OPEN_GRANTS m.grants) (not (allows n m)) few (ap not room))

grant_fair : (p n : ℕ) (xs : List Call) (m : Meter) (r : Result (Unit {0}) Refusal) → At (opened_validated p xs) (since p xs) (Some m) → r ≡ told (still_open (granted_more n m))
    → (r ≡ Ok tt) ↔ Grantable p n xs
grant_fair p n xs m r h e =
    let b : Bool = nat_lt MAX_GRANTED_BYTES n || (nat_le MAX_OPEN_GRANTS m.grants || not (allows n m)) in
    ((λ o. grant_given p n xs m h (not_granted b (with_grant n m) (sym e ∙ o))), (λ g. e ∙ is_granted b (with_grant n m) (grant_gives p n xs m h g)))

not_closed : (b : Bool) → told (cond b (Err GrantsOpen) (Ok None)) ≡ Ok tt → b ≡ false
not_closed true e = absurd (cc)
not_closed false e = refl

is_closed : (b : Bool) → b ≡ false → told (cond b (Err GrantsOpen) (Ok None)) ≡ Ok tt
is_closed true e = absurd (false≢true (sym e))
is_closed false e = refl

close_fair : (p : ℕ) (xs : List Call) (m : Meter) (r : Result (Unit {0}) Refusal) → At (opened_validated p xs) (since p xs) (Some m) → r ≡ told (turned p closes m)
    → (r ≡ Ok tt) ↔ (open_grants (since p xs) ≡ 0)
close_fair p xs m r h e = (
  (λ o. let l : m.grants ≤ 0 = ltb-false 0 m.grants (not_closed _ (sym e ∙ o)) in omega (arith, h.1)),
  (λ z. e ∙ is_closed (nat_lt 0 m.grants) (le-ltb _ _ (omega (arith, h.1)))),
)

-- a call that is not refused for its path has one
fair_at : (p : ℕ) (a : Act) (xs : List Call) (o : Option Meter) (r : Result (Unit {0}) Refusal) → At (opened_validated p xs) (since p xs) o → r ≡ told (turned_at p a o) → Fair (turning p a r) xs
fair_at p validates xs o r h e = tt
fair_at p (receives n) xs o r h e = tt
fair_at p (grants n) xs None r h e = λ ne. absurd (ne e)
fair_at p (grants n) xs (Some m) r h e = λ ne. grant_fair p n xs m r h e
fair_at p (spends q n k) xs o r h e = tt
fair_at p closes xs None r h e = λ ne. absurd (ne e)
fair_at p closes xs (Some m) r h e = λ ne. close_fair p xs m r h e

fair : (n : ℕ) (x : Call) (xs : List Call) (ps ps' : Paths) → Succession Step (replicate n None) xs ps → Step ps x ps' → Fair x xs
fair n (opening v r) xs ps ps' before s = tt
fair n (turning p a r) xs ps ps' before s = fair_at p a xs (path ps p) r (agree n p xs ps before) s.answer

pub always_fair : (ps : Paths) → AlwaysFair ps
always_fair ps n [] s = tt
always_fair ps' n (x ∷ xs) (then {s' = ps} before step) = (fair n x xs ps ps' before step, always_fair ps n xs before)

-- a call that is a step adds to every succession
pub opening_adds : (v : Bool) (ps ps' : Paths) (r : Result ℕ Refusal) → Opens v ps ps' r → Adds Step (opening v r) ps ps'
opening_adds v ps ps' r s start xs before = then before s

pub turning_adds : (p : ℕ) (a : Act) (ps ps' : Paths) (r : Result (Unit {0}) Refusal) → Turns p a ps ps' r → Adds Step (turning p a r) ps ps'
turning_adds p a ps ps' r s start xs before = then before s
