-- What the lent records hold, where a cache begins and where it stands.
use Rattle.std.proofs.Common.{◌≡◌, ℕ, zero, suc, ◌*◌, ◌≤◌, List, [], ◌∷◌, ◌++◌, map, length, replicate, Some, None, refl, ap, ◌∙◌, subst, arith}
use Rattle.std.specs.List.{flat_map}
use Rattle.std.specs.List.Sorted.{IsPermutation}
use lib.ListN.{length-map}
use Rattle.std.proofs.lemmas.List.{map-append, append-nil, length-replicate}
use Rattle.std.proofs.lemmas.List.Sorted.{IsPermutation-map}
use Rattle.record_pool.specs.declared.chain.Chain.{Chain}
use Rattle.record_pool.specs.declared.pool.Pool.{Pool}
use Rattle.record_pool.specs.declared.record.Record.{Record}
use Rattle.record_pool.specs.Chains.{empty_chain}
use Rattle.record_pool.specs.Pools.{Blanked, links, slots, items, Divided, HoldsJust}
use Rattle.record_pool.proofs.Orders.{holds_just}
use Rattle.record_pool.proofs.Sharing.{with_empty}
use Rattle.token_store.specs.Store.{Bytes}
use Rattle.token_memory_cache.specs.declared.shelf.NameEntry.{NameEntry}
use Rattle.token_memory_cache.specs.declared.shelf.Shelf.{Shelf}
use Rattle.token_memory_cache.specs.Lent.{blank_name, nobody, Lent}
use Rattle.token_memory_cache.specs.Shelves.{listed, chains, entry_in, entries, cache_of, Stands, Sound}
use Rattle.token_memory_cache.proofs.Shelving.{chain_of, shelf}

-- an empty chain beside those of a division
pub beside : {X : Type 0} (pool : Pool X) (cs : List Chain) → Divided pool cs → Divided pool (empty_chain ∷ cs)
beside pool cs d = record {
  size = d.size;
  shared = with_empty (length pool.records.now) (links pool.records.now) pool.free cs d.shared;
}

pub sized : {X : Type 0} (pool : Pool X) (n : ℕ) (x : X) → slots pool.records.now ≡ None ∷ replicate n (Some x) → length pool.records.now ≡ n
sized {X = X} pool n x e =
    let l = ap length e in
    let m = length-map pool.records.now (λ (r : Record X). Some r.item) in
    let k = length-replicate n (Some x) in
    omega arith

-- a cache with no names yet
pub begun : (most each : ℕ) (names : Pool NameEntry) (tokens : Pool Bytes) → Divided names [] → Divided tokens [] → Blanked names → Blanked tokens → names.blank ≡ blank_name → tokens.blank ≡ []
    → most ≤ length names.records.now → most * each ≤ length tokens.records.now → Sound most each (shelf names tokens empty_chain)
begun most each names tokens dn dt fn ft bn bt mn mt = record {
  stands = record { names = beside names [] dn; tokens = dt; blanked = (fn, ft); blank = (bn, bt) };
  kept = (refl, refl, omega arith, refl);
  name_records = mn;
  token_records = mt;
}

-- ---- each record holds what the list does, or is blank

map_each : {X Y Z : Type 0} (f : X → Y) (g : Y → Z) (xs : List X) → map g (map f xs) ≡ map (λ x. g (f x)) xs
map_each f g [] = refl
map_each {Z = Z} f g (x ∷ xs) = ap (λ (zs : List Z). g (f x) ∷ zs) (map_each f g xs)

map-replicate : {X Y : Type 0} (f : X → Y) (n : ℕ) (x : X) → map f (replicate n x) ≡ replicate n (f x)
map-replicate f zero x = refl
map-replicate {Y = Y} f (suc n) x = ap (λ (ys : List Y). f x ∷ ys) (map-replicate f n x)

holds_of : {X Y : Type 0} (f : X → Y) (b : X) (xs ys : List X) → HoldsJust b xs ys → HoldsJust (f b) (map f xs) (map f ys)
holds_of f b xs ys h = record {
  free = h.free;
  order = subst (λ l. IsPermutation l (map f ys)) (map-append f xs (replicate h.free b) ∙ ap (λ l. map f xs ++ l) (map-replicate f h.free b)) (IsPermutation-map f (xs ++ replicate h.free b) ys h.order);
}

all_tokens : (t : Pool Bytes) (hs : List NameEntry) → flat_map (items t) (map chain_of hs) ≡ flat_map (λ e. e.tokens) (map (entry_in t) hs)
all_tokens t [] = refl
all_tokens t (h ∷ hs) = ap (λ l. items t h.tokens ++ l) (all_tokens t hs)

pub lends : (names tokens : ℕ) (s : Shelf) → Stands [] s → Lent (cache_of names tokens s) s.names.records.now s.tokens.records.now
lends names tokens s st =
    let n : HoldsJust blank_name (listed s) (map (λ r. r.item) s.names.records.now)
    = rw (append-nil (listed s), st.blank.0) at (holds_just s.names (s.used ∷ []) st.names st.blanked.0) in
    let t : HoldsJust [] (flat_map (items s.tokens) (chains s)) (map (λ r. r.item) s.tokens.records.now)
    = rw st.blank.1 at (holds_just s.tokens (chains s) st.tokens st.blanked.1) in
    record {
      all_names = refl;
      all_tokens = refl;
      names_hold = subst (HoldsJust nobody (entries s)) (map_each (λ (r : Record NameEntry). r.item) (entry_in s.tokens) s.names.records.now) (holds_of (entry_in s.tokens) blank_name (listed s) _ n);
      tokens_hold = subst (λ l. HoldsJust [] l (map (λ r. r.item) s.tokens.records.now)) (all_tokens s.tokens (listed s)) t;
    }
