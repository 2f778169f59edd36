-- What storing and taking make of a shelf's entries.
use Rattle.std.proofs.Common.{◌≡◌, ℕ, ◌+◌, ◌<◌, ◌≤◌, true, false, List, [], ◌∷◌, ◌++◌, length, take, drop, Some, None, sym, refl, ap, ap₂, ◌∙◌, subst, arith, length-append}
use lib.ListN.{length-map}
use Rattle.std.proofs.lemmas.Bool.{false≢true, cond-true}
use Rattle.std.proofs.lemmas.List.{length-take-le, length-drop}
use Rattle.std.proofs.Math.Nat.{mul-le-mul_right}
use Rattle.record_pool.specs.declared.chain.Chain.{Chain}
use Rattle.record_pool.specs.Chains.{empty_chain, without as cut}
use Rattle.record_pool.specs.Pools.{items}
use Rattle.record_pool.proofs.Divisions.{without_empty, all_counted}
use Rattle.token_store.specs.Store.{Bytes}
use Rattle.token_memory_cache.specs.Cache.{Entry, others_of, named, tokens_of, without, added, stored, given, left, leave, rest, taken, some, sound, fits, Kept}
use Rattle.token_memory_cache.specs.Orders.{Within}
use Rattle.token_memory_cache.specs.Lent.{nobody}
use Rattle.token_memory_cache.specs.declared.shelf.Shelf.{Shelf}
use Rattle.token_memory_cache.specs.Shelves.{listed, chains, entry_in, entries, Stands, SameSize, TakenOff, Becomes, Opened, Refilled, Room, Sound, Took}
use Rattle.token_memory_cache.proofs.Caches.{stored_is, fits_others, length-others, tokens_none, fits_of, kept_stored, kept_rest, some_of}
use Rattle.token_memory_cache.proofs.Finding.{At}
use Rattle.token_memory_cache.proofs.Lending.{beside}
use Rattle.token_memory_cache.proofs.Shelving.{length-items}
use Rattle.token_memory_cache.proofs.Taking.{rest_is}

pub opened_found : (names : ℕ) (n : Bytes) (s m : Shelf) (c : Chain) (k : ℕ) → At n (entries s) k → TakenOff k s m c → Opened names n s m c
opened_found names n s m c k a t = record {
  stands = t.stands;
  left = t.left ∙ a.cut ∙ sym (cond-true (named n (entries s)) _ _ a.named);
  tokens = t.tokens nobody ∙ a.tokens nobody;
  size = t.size;
}

pub opened_new : (names : ℕ) (n : Bytes) (s m : Shelf) (es : List Entry) → named n (entries s) ≡ false → Becomes [] s m es → others_of names n (entries s) ≡ es → Opened names n s m empty_chain
opened_new names n s m es a b e = record {
  stands = record {
    names = b.stands.names;
    tokens = beside m.tokens (chains m) b.stands.tokens;
    blanked = b.stands.blanked;
    blank = b.stands.blank;
  };
  left = b.left ∙ sym e;
  tokens = sym (tokens_none n (entries s) a);
  size = b.size;
}

pub room_for : (names tokens : ℕ) (n : Bytes) (s m : Shelf) (c : Chain) → 0 < names → 0 < tokens → Sound names tokens s → Opened names n s m c → Room tokens m c
room_for names tokens n s m c y z h r =
    let es = entries s in
    let l = length-others names tokens n es h.kept y in
    let few : length (entries m) + 1 ≤ names = omega (arith, ap length r.left) in
    record {
      some = z;
      fit = ap (fits tokens) r.left ∙ fits_others names tokens n es h.kept;
      short = omega (arith, ap length r.tokens, fits_of names tokens es h.kept n);
      enough = omega (arith, mul-le-mul_right tokens few, h.token_records, r.size.tokens);
    }

pub name_room : (names tokens : ℕ) (n t : Bytes) (s m m' : Shelf) (c c' : Chain) → 0 < names → Sound names tokens s → Opened names n s m c → Refilled m m' c' (added tokens t (items m.tokens c))
    → length (entries m') < length m'.names.records.now
name_room names tokens n t s m m' c c' y h r f =
    let l = length-others names tokens n (entries s) h.kept y in
    omega (arith, ap length r.left, ap length f.left, h.name_records, r.size.names, f.size.names)

-- the entries after an insert
pub stored_entries : (names tokens : ℕ) (n t : Bytes) (s m m' s' : Shelf) (c c' : Chain) → 0 < names → 0 < tokens → Opened names n s m c
    → Refilled m m' c' (added tokens t (items m.tokens c)) → Becomes [] m' s' (entries m' ++ record { name = n; tokens = items m'.tokens c' } ∷ [])
    → entries s' ≡ stored names tokens n t (entries s)
stored_entries names tokens n t s m m' s' c c' y z r f b =
    b.left ∙ ap₂ (λ es ts. es ++ record { name = n; tokens = ts } ∷ []) (f.left ∙ r.left) (f.tokens ∙ ap (added tokens t) r.tokens) ∙ sym (stored_is names tokens n t (entries s) y z)

pub stored_sound : (names tokens : ℕ) (n t : Bytes) (s m m' s' : Shelf) (c c' : Chain) → length n ≤ 255 → length t ≤ 512 → Sound names tokens s → Opened names n s m c
    → Refilled m m' c' (added tokens t (items m.tokens c)) → Becomes [] m' s' (entries m' ++ record { name = n; tokens = items m'.tokens c' } ∷ [])
    → entries s' ≡ stored names tokens n t (entries s) → Sound names tokens s'
stored_sound names tokens n t s m m' s' c c' ln lt h r f b e = record {
  stands = b.stands;
  kept = subst (Kept names tokens) (sym e) (kept_stored names tokens (entries s) h.kept n t ln lt);
  name_records = omega (arith, h.name_records, r.size.names, f.size.names, b.size.names);
  token_records = omega (arith, h.token_records, r.size.tokens, f.size.tokens, b.size.tokens);
}

-- ---- a take

leave_more : (n : Bytes) (es : List Entry) (us : List Bytes) → 0 < length us → leave n es us ≡ without n es ++ record { name = n; tokens = us } ∷ []
leave_more n es [] z = absurd (omega arith)
leave_more n es (u ∷ us) z = refl

leave_last : (n : Bytes) (es : List Entry) (us : List Bytes) → length us ≡ 0 → leave n es us ≡ without n es
leave_last n es [] z = refl
leave_last n es (u ∷ us) z = absurd (omega arith)

-- of a name that is there
pub some_token : (n : Bytes) (s m : Shelf) (c : Chain) (k : ℕ) → sound (entries s) ≡ true → At n (entries s) k → TakenOff k s m c → 0 < c.count
some_token n s m c k o a t =
    let l = length-items m.tokens c (chains m) t.stands.tokens in
    let e : items m.tokens c ≡ tokens_of n (entries s) = t.tokens nobody ∙ a.tokens nobody in
    let h : 0 < length (tokens_of n (entries s)) = length-some (tokens_of n (entries s)) (some_of (entries s) n o a.named) in
    omega (arith, ap length e)
  where
    length-some : (ts : List Bytes) → some ts ≡ true → 0 < length ts
    length-some [] h = absurd (false≢true h)
    length-some (t ∷ ts) h = omega arith

pub back_room : (n : Bytes) (s m m' : Shelf) (c c' : Chain) (k : ℕ) (ts : List Bytes) → Stands [] s → At n (entries s) k → TakenOff k s m c → Refilled m m' c' ts
    → length (entries m') < length m'.names.records.now
back_room n s m m' c c' k ts st a t f =
    let u = length-items s.names s.used [] st.names in
    let v = length-map (listed s) (entry_in s.tokens) in
    let w = all_counted s.names (s.used ∷ []) st.names in
    let l = length-cut k (entries s) a.there in
    omega (arith, ap length f.left, ap length t.left, t.size.names, f.size.names)
  where
    length-cut : (k : ℕ) (es : List Entry) → k < length es → length (cut k es) < length es
    length-cut k es h = omega (arith, length-append (take k es) (drop (k + 1) es), length-take-le k es (omega arith), length-drop (k + 1) es)

pub took_none : (p : ℕ → ℕ) (n : Bytes) (s : Shelf) → named n (entries s) ≡ false → (names tokens : ℕ) → Sound names tokens s → Took p names tokens n s s None
took_none p n s a names tokens h =
    let none = tokens_none n (entries s) a in
    record { sound = h; answer = sym (ap (given p) none); left = sym (ap (rest p n (entries s)) none); size = record { names = refl; tokens = refl } }

module _ (p : ℕ → ℕ) (w : Within p) (n : Bytes) (s m m' : Shelf) (c c' : Chain) (k : ℕ) (x : Bytes) (ln : length n ≤ 255) (a : At n (entries s) k) (t : TakenOff k s m c)
    (f : Refilled m m' c' (left p (items m.tokens c))) (o : given p (items m.tokens c) ≡ Some x) where
  had : items m.tokens c ≡ tokens_of n (entries s)
  had = t.tokens nobody ∙ a.tokens nobody

  others : entries m' ≡ without n (entries s)
  others = f.left ∙ t.left ∙ a.cut

  still : items m'.tokens c' ≡ left p (tokens_of n (entries s))
  still = f.tokens ∙ ap (left p) had

  gives : given p (tokens_of n (entries s)) ≡ Some x
  gives = sym (ap (given p) had) ∙ o

  kept : (names tokens : ℕ) (s' : Shelf) → Sound names tokens s → Stands [] s' → entries s' ≡ taken p n (entries s) → SameSize m' s' → Took p names tokens n s s' (Some x)
  kept names tokens s' h st e z = record {
    sound = record {
      stands = st;
      kept = subst (Kept names tokens) (sym e) (kept_rest names tokens (entries s) h.kept p n (tokens_of n (entries s)) w ln refl);
      name_records = omega (arith, h.name_records, t.size.names, f.size.names, z.names);
      token_records = omega (arith, h.token_records, t.size.tokens, f.size.tokens, z.tokens);
    };
    answer = sym gives;
    left = e;
    size = record { names = z.names ∙ f.size.names ∙ t.size.names; tokens = z.tokens ∙ f.size.tokens ∙ t.size.tokens };
  }

  leaves : taken p n (entries s) ≡ leave n (entries s) (left p (tokens_of n (entries s)))
  leaves = rest_is p n (entries s) (tokens_of n (entries s)) x gives

  pub took_more : (s' : Shelf) → 0 < c'.count → Becomes [] m' s' (entries m' ++ record { name = n; tokens = items m'.tokens c' } ∷ []) → (names tokens : ℕ) → Sound names tokens s → Took p names tokens n s s' (Some x)
  took_more s' z b names tokens h =
      let l = length-items m'.tokens c' (chains m') f.stands.tokens in
      let more = leave_more n (entries s) (left p (tokens_of n (entries s))) (omega (arith, ap length still)) in
      kept names tokens s' h b.stands (b.left ∙ ap₂ (λ es ts. es ++ record { name = n; tokens = ts } ∷ []) others still ∙ sym (leaves ∙ more)) b.size

  pub took_last : c'.count ≡ 0 → (names tokens : ℕ) → Sound names tokens s → Took p names tokens n s m' (Some x)
  took_last z names tokens h =
      let l = length-items m'.tokens c' (chains m') f.stands.tokens in
      let none = leave_last n (entries s) (left p (tokens_of n (entries s))) (omega (arith, ap length still)) in
      kept names tokens m' h (record { names = f.stands.names; tokens = without_empty m'.tokens c' (chains m') z f.stands.tokens; blanked = f.stands.blanked; blank = f.stands.blank })
      (others ∙ sym (leaves ∙ none)) (record { names = refl; tokens = refl })
