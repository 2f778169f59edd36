-- A turning filter answers by the fingerprints it recorded since it was emptied.
use Rattle.std.proofs.Common.{◌≡◌, ℕ, suc, ◌-◌, ◌<◌, ◌≤◌, true, false, List, [], ◌∷◌, ◌++◌, length, is_ok, Ok, Err, vec_items, ◌≢◌, sym, refl, ap, ◌∙◌, subst, ⊎_elim, arith}
use Rattle.std.proofs.lemmas.Bool.{true≢false, cases_Bool, cond-true, cond-false, le-leb, lt-leb}
use Rattle.std.proofs.lemmas.List.{append-nil, append_assoc, length_push}
use Rattle.answers.specs.declared.FilterCause.TheVariants.{Held}
use Rattle.filter.specs.declared.exact.ExactSet.{ExactSet}
use Rattle.filter.specs.declared.turning.Form.TheVariants.{Listing, Over}
use Rattle.filter.specs.declared.turning.TurningFilter.{TurningFilter}
use Rattle.filter.specs.Filter.{Meaning, Answer}
use Rattle.filter.specs.SetLaws.{not_full}
use Rattle.filter.specs.Sets.{set_means, SetRecords, SetEmpties}
use Rattle.filter.specs.Turning.{Poured, Turns, Returns}
use Rattle.filter.specs.Turning.Turns.{over as recorded_over, goes as went_over, lists as recorded_listing}
use Rattle.filter.specs.Lists.{member}
use Rattle.filter.specs.Histories.{Says, recorded_with, set_says, turning_says, TakesRefusedAsRecorded, Since, AnswersBy}
use Rattle.filter.specs.Histories.Since.{emptied, emptied_again}
use Rattle.filter.proofs.Going.{GoesBy, joined, kept, same_list, joins, answers_by, SetHas, set_goes, set_lists}

longer : (says : Says) (xs : List ℕ) (f : ℕ) → length xs ≤ length (recorded_with says xs f)
longer says xs f =
    ⊎_elim
    (λ y. let e = ap length (joined says xs f y) in let l = length_push xs f in omega arith)
    (λ n. let e = ap length (kept says xs f n) in omega arith)
    (cases_Bool (is_ok (says xs f)))

-- a turning filter, with at most c recorded and with more
module _ (c : ℕ) (other : Says) (xs : List ℕ) (f : ℕ) where
  turned_over : c < length xs → turning_says c other xs f ≡ other xs f
  turned_over h = cond-false _ _ _ (lt-leb (length xs) c h)

  turned_held : length xs ≤ c → member f xs ≡ true → turning_says c other xs f ≡ Err Held
  turned_held h m = cond-true _ _ _ (le-leb (length xs) c h) ∙ cond-true _ _ _ m

  turned_new : length xs ≤ c → member f xs ≡ false → turning_says c other xs f ≡ Ok tt
  turned_new h m = cond-true _ _ _ (le-leb (length xs) c h) ∙ cond-false _ _ _ m

  -- the set answers the same
  set-turned : length xs ≤ c → set_says (suc c) xs f ≡ turning_says c other xs f
  set-turned h =
      ⊎_elim
      (λ m. cond-true _ _ _ m ∙ sym (turned_held h m))
      (λ m. cond-false _ _ _ m ∙ cond-false _ _ _ (not_full (length xs) (suc c) (omega arith)) ∙ sym (turned_new h m))
      (cases_Bool (member f xs))

-- a filter to go over to, that can be emptied where `MB b` holds: what it refuses may be counted as recorded
pub record Blurs {B : Type 0} (RB : B → ℕ → Answer → B → Type 0) (EB : B → B → Type 0) (other : Says) (HB : B → List ℕ → Type 0) (MB : B → Type 0) : Type 0 where
  pub recorded : (b b' : B) (xs : List ℕ) (f : ℕ) (r : Answer) → HB b xs → RB b f r b' → (r ≡ other xs f) × HB b' (recorded_with other xs f)
  pub emptied : (b b' : B) → MB b → EB b b' → HB b' []
  pub known : (b : B) (xs : List ℕ) → HB b xs → MB b
  pub again : (b : B) (xs : List ℕ) (f : ℕ) → HB b xs → is_ok (other xs f) ≡ false → HB b (xs ++ f ∷ [])

-- a turning filter of the sure count c, over a set of one place more and such a filter
module _ {S B : Type 0} (m : S → Meaning) (l : S → List ℕ)
    (RS : S → ℕ → Answer → S → Type 0) (ES : S → S → Type 0) (RB : B → ℕ → Answer → B → Type 0) (EB : B → B → Type 0)
    (c : ℕ) (other : Says) (HS : S → List ℕ → Type 0) (HB : B → List ℕ → Type 0) (MB : B → Type 0)
    (set : GoesBy RS ES (set_says (suc c)) HS)
    (lists : (s : S) (xs : List ℕ) → HS s xs → (l s ≡ xs) × ((m s).sure ≡ suc c - length xs))
    (goes : Blurs RB EB other HB MB) where
  -- what it recorded: while that is at most c, the set has it, and then the other filter
  pub data HasTurned (t : TurningFilter S B) (xs : List ℕ) : Type 0 where
    listing : t.form ≡ Listing → length xs ≤ c → HS t.set xs → MB t.other → HasTurned t xs
    over : t.form ≡ Over → c < length xs → HB t.other xs → (ys : List ℕ) → HS t.set ys → HasTurned t xs

  one_poured : (b b' : B) (xs : List ℕ) (f : ℕ) (r : Answer) → HB b xs → RB b f r b' → HB b' (xs ++ f ∷ [])
  one_poured b b' xs f r h k =
      let g : HB b' (recorded_with other xs f) = (goes.recorded b b' xs f r h k).1 in
      ⊎_elim
      (λ y. subst (HB b') (joined other xs f y) g)
      (λ n. goes.again b' xs f (subst (HB b') (kept other xs f n) g) n)
      (cases_Bool (is_ok (other xs f)))

  all_poured : (fs : List ℕ) (b b' : B) (xs : List ℕ) → HB b xs → Poured RB fs b b' → HB b' (xs ++ fs)
  all_poured [] b b' xs h p = subst (λ (z : List ℕ). HB b' z) (sym (append-nil xs)) (subst (λ (z : B). HB z xs) (sym p) h)
  all_poured (f ∷ fs) b b'' xs h (b', (r, k), p) =
      subst (λ (z : List ℕ). HB b'' z) (append_assoc xs (f ∷ []) fs) (all_poured fs b' b'' (xs ++ f ∷ []) (one_poured b b' xs f r h k) p)

  as_other : (xs : List ℕ) (f : ℕ) → c < length xs → recorded_with other xs f ≡ recorded_with (turning_says c other) xs f
  as_other xs f h = same_list other (turning_says c other) xs f (sym (turned_over c other xs f h))

  as_set : (xs : List ℕ) (f : ℕ) → length xs ≤ c → recorded_with (set_says (suc c)) xs f ≡ recorded_with (turning_says c other) xs f
  as_set xs f h = same_list (set_says (suc c)) (turning_says c other) xs f (set-turned c other xs f h)

  -- while one more is sure after it, or f is not new, no more than c are recorded
  within : (xs : List ℕ) (f : ℕ) → length xs ≤ c → (suc c - length xs ≡ 1 → member f xs ≡ true) → length (recorded_with (turning_says c other) xs f) ≤ c
  within xs f h one =
      ⊎_elim
      (λ y. let e = ap length (kept (turning_says c other) xs f (ap is_ok (turned_held c other xs f h y))) in omega arith)
      (λ n.
      let e = ap length (joined (turning_says c other) xs f (ap is_ok (turned_new c other xs f h n))) in
      let l = length_push xs f in
      let more : suc c - length xs ≢ 1 = λ z. true≢false (sym (one z) ∙ n) in
      omega arith)
      (cases_Bool (member f xs))

  Gone : TurningFilter S B → TurningFilter S B → List ℕ → ℕ → Answer → Type 0
  Gone t t' xs f r = (r ≡ turning_says c other xs f) × HasTurned t' (recorded_with (turning_says c other) xs f)

  gone_over : (t t' : TurningFilter S B) (xs : List ℕ) (f : ℕ) (r : Answer) → length xs ≤ c → HS t.set xs → MB t.other
      → (m t.set).sure ≡ 1 → member f (l t.set) ≡ false → t'.form ≡ Over → t'.set ≡ t.set → r ≡ Ok tt
      → (b : B) → EB t.other b → Poured RB (l t.set ++ f ∷ []) b t'.other → Gone t t' xs f r
  unfolding Gone
  gone_over t t' xs f r n h k one new q e ok b z w =
      let told = lists t.set xs h in
      let at : suc c - length xs ≡ 1 = sym told.1 ∙ one in
      let fresh : member f xs ≡ false = ap (member f) (sym told.0) ∙ new in
      let a = turned_new c other xs f n fresh in
      let j = joined (turning_says c other) xs f (ap is_ok a) in
      let long : c < length (recorded_with (turning_says c other) xs f) = omega (arith, ap length j, length_push xs f) in
      let p : HB t'.other (xs ++ f ∷ []) =
      subst (λ (y : List ℕ). HB t'.other (y ++ f ∷ [])) told.0 (all_poured (l t.set ++ f ∷ []) b t'.other [] (goes.emptied t.other b k z) w) in
      (ok ∙ sym a, over q long (subst (HB t'.other) (sym j) p) xs (subst (λ (s : S). HS s xs) (sym e) h))

  listed_on : (t t' : TurningFilter S B) (xs : List ℕ) (f : ℕ) (r : Answer) → length xs ≤ c → HS t.set xs → MB t.other
      → ((m t.set).sure ≡ 1 → member f (l t.set) ≡ true) → t'.form ≡ Listing → t'.other ≡ t.other → RS t.set f r t'.set → Gone t t' xs f r
  unfolding Gone
  listed_on t t' xs f r n h k one q e w =
      let told = lists t.set xs h in
      let g = set.recorded t.set t'.set xs f r h w in (
        g.0 ∙ set-turned c other xs f n,
        listing q (within xs f n (λ z. ap (member f) (sym told.0) ∙ one (told.1 ∙ z)))
            (subst (HS t'.set) (as_set xs f n) g.1) (subst MB (sym e) k),
      )

  over_on : (t t' : TurningFilter S B) (xs ys : List ℕ) (f : ℕ) (r : Answer) → c < length xs → HB t.other xs → HS t.set ys
      → t'.form ≡ Over → t'.set ≡ t.set → RB t.other f r t'.other → Gone t t' xs f r
  unfolding Gone
  over_on t t' xs ys f r n h k q e w =
      let g = goes.recorded t.other t'.other xs f r h w in (
        g.0 ∙ sym (turned_over c other xs f n),
        over q (omega (arith, longer (turning_says c other) xs f)) (subst (HB t'.other) (as_other xs f n) g.1) ys (subst (λ (s : S). HS s ys) (sym e) k),
      )

  recorded_on : (t t' : TurningFilter S B) (xs : List ℕ) (f : ℕ) (r : Answer) → HasTurned t xs → Turns m l RS RB EB t f r t' → Gone t t' xs f r
  recorded_on t t' xs f r (listing p n h k) (recorded_over q o e w) = absurd (let z : Listing ≡ Over = sym p ∙ q in cc)
  recorded_on t t' xs f r (listing p n h k) (went_over q one new o e ok b z w) = gone_over t t' xs f r n h k one new o e ok b z w
  recorded_on t t' xs f r (listing p n h k) (recorded_listing q one o e w) = listed_on t t' xs f r n h k one o e w
  recorded_on t t' xs f r (over p n h ys k) (recorded_over q o e w) = over_on t t' xs ys f r n h k o e w
  recorded_on t t' xs f r (over p n h ys k) (went_over q one new o e ok b z w) = absurd (let z : Over ≡ Listing = sym p ∙ q in cc)
  recorded_on t t' xs f r (over p n h ys k) (recorded_listing q one o e w) = absurd (let z : Over ≡ Listing = sym p ∙ q in cc)

  emptied_on : (t t' : TurningFilter S B) (xs : List ℕ) → HasTurned t xs → Returns ES t t' → HasTurned t' []
  emptied_on t t' xs (listing p n h k) w =
      listing w.form (omega arith) (set.emptied t.set t'.set xs h w.set) (subst MB (sym w.other) k)
  emptied_on t t' xs (over p n h ys k) w =
      listing w.form (omega arith) (set.emptied t.set t'.set ys k w.set) (subst MB (sym w.other) (goes.known t.other xs h))

  pub turning_goes : GoesBy (Turns m l RS RB EB) (Returns ES) (turning_says c other) HasTurned
  unfolding Gone
  turning_goes = record { recorded = λ t t' xs f r h w. recorded_on t t' xs f r h w; emptied = λ t t' xs h w. emptied_on t t' xs h w }

-- a filter that answers so once it is emptied, and takes what it refuses as recorded; o may be emptied
module _ {B : Type 0} (RB : B → ℕ → Answer → B → Type 0) (EB : B → B → Type 0) (other : Says) (o : B)
    (answers : AnswersBy RB EB other o) (takes : TakesRefusedAsRecorded other) where
  -- by a list that answers the same from now on
  pub record Blurred (b : B) (xs : List ℕ) : Type 0 where
    own : List ℕ
    since : Since RB EB o own b
    alike : (zs : List ℕ) (g : ℕ) → other (own ++ zs) g ≡ other (xs ++ zs) g

  pub data Known (b : B) : Type 0 where
    first : b ≡ o → Known b
    later : (xs : List ℕ) → Since RB EB o xs b → Known b

  now : (b : B) (xs : List ℕ) (f : ℕ) (h : Blurred b xs) → other h.own f ≡ other xs f
  now b xs f h = ap (λ z. other z f) (sym (append-nil h.own)) ∙ h.alike [] f ∙ ap (λ z. other z f) (append-nil xs)

  -- what was said of both lists, with f behind each
  both_longer : (xs ys : List ℕ) (f : ℕ) → ((zs : List ℕ) (g : ℕ) → other (ys ++ zs) g ≡ other (xs ++ zs) g)
      → (zs : List ℕ) (g : ℕ) → other ((ys ++ f ∷ []) ++ zs) g ≡ other ((xs ++ f ∷ []) ++ zs) g
  both_longer xs ys f h zs g = ap (λ z. other z g) (append_assoc ys (f ∷ []) zs) ∙ h (f ∷ zs) g ∙ sym (ap (λ z. other z g) (append_assoc xs (f ∷ []) zs))

  blurred_on : (b b' : B) (xs : List ℕ) (f : ℕ) (r : Answer) → Blurred b xs → RB b f r b' → (r ≡ other xs f) × Blurred b' (recorded_with other xs f)
  blurred_on b b' xs f r h w =
      let a = answers h.own b b' f r h.since w in
      let since : Since RB EB o (recorded_with other h.own f) b' = joins RB EB other o b b' h.own f r a h.since w in (
        a ∙ now b xs f h,
        ⊎_elim
            (λ y.
            let e = joined other h.own f (ap is_ok (now b xs f h) ∙ y) in
            record {
              own = h.own ++ f ∷ [];
              since = subst (λ (z : List ℕ). Since RB EB o z b') e since;
              alike = λ zs g. both_longer xs h.own f h.alike zs g ∙ sym (ap (λ z. other (z ++ zs) g) (joined other xs f y));
            })
            (λ n.
            let e = kept other h.own f (ap is_ok (now b xs f h) ∙ n) in
            record {
              own = h.own;
              since = subst (λ (z : List ℕ). Since RB EB o z b') e since;
              alike = λ zs g. h.alike zs g ∙ sym (ap (λ z. other (z ++ zs) g) (kept other xs f n));
            })
            (cases_Bool (is_ok (other xs f))),
      )

  blurred_anew : (b b' : B) → Known b → EB b b' → Blurred b' []
  blurred_anew b b' (first e) w = record { own = []; since = emptied (subst (λ (z : B). EB z b') e w); alike = λ zs g. refl }
  blurred_anew b b' (later xs s) w = record { own = []; since = emptied_again s w; alike = λ zs g. refl }

  pub blurs : Blurs RB EB other Blurred Known
  blurs = record {
    recorded = blurred_on;
    emptied = blurred_anew;
    known = λ b xs h. later h.own h.since;
    again = λ b xs f h n. record {
      own = h.own;
      since = h.since;
      alike = λ zs g. h.alike zs g ∙ sym (ap (λ z. other z g) (append_assoc xs (f ∷ []) zs) ∙ takes xs zs f g n);
    };
  }

-- over an exact set
module _ {B : Type 0} (RB : B → ℕ → Answer → B → Type 0) (EB : B → B → Type 0) (c : ℕ) (other : Says) (HB : B → List ℕ → Type 0) (MB : B → Type 0)
    (goes : Blurs RB EB other HB MB) where
  abbrev pub Turned : TurningFilter ExactSet B → List ℕ → Type 0
  Turned = HasTurned set_means (λ s. vec_items s.held) SetRecords SetEmpties RB EB c other (SetHas (suc c)) HB MB (set_goes (suc c)) (set_lists (suc c)) goes

  pub sets_turn : GoesBy (Turns set_means (λ s. vec_items s.held) SetRecords RB EB) (Returns SetEmpties) (turning_says c other) Turned
  sets_turn = turning_goes set_means (λ s. vec_items s.held) SetRecords SetEmpties RB EB c other (SetHas (suc c)) HB MB (set_goes (suc c)) (set_lists (suc c)) goes

  pub begins : (t : TurningFilter ExactSet B) → t.form ≡ Listing → t.set.capacity ≡ suc c → vec_items t.set.held ≡ [] → MB t.other → Turned t []
  begins t f e h k = listing f (omega arith) (record { capacity = e; held = h }) k

-- once it is emptied
pub turning_answers : {B : Type 0} (RB : B → ℕ → Answer → B → Type 0) (EB : B → B → Type 0) (t : TurningFilter ExactSet B) (other : Says)
    → AnswersBy RB EB other t.other → TakesRefusedAsRecorded other
    → AnswersBy (Turns set_means (λ s. vec_items s.held) SetRecords RB EB) (Returns SetEmpties) (turning_says (t.set.capacity - 1) other) t
turning_answers {B} RB EB t other a takes =
    let c : ℕ = t.set.capacity - 1 in
    let some = t.set.some in
    let one : t.set.capacity ≡ suc c = omega arith in
    let goes = blurs RB EB other t.other a takes in
    let HB : B → List ℕ → Type 0 = Blurred RB EB other t.other a takes in
    let MB : B → Type 0 = Known RB EB other t.other a takes in
    answers_by _ _ (turning_says c other) (Turned RB EB c other HB MB goes) (sets_turn RB EB c other HB MB goes) t
    (λ s w. begins RB EB c other HB MB goes s w.form (w.set.capacity ∙ one) w.set.held (first w.other))
