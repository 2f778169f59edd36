-- What each operation makes of the chains, over the records before and after each of its steps.
use Rattle.std.proofs.Common.{◌≡◌, ℕ, zero, suc, ◌+◌, ◌^◌, ◌<◌, ◌≤◌, nat_lt, ◌≢◌, List, [], ◌∷◌, ◌++◌, map, length, slice_index, slice_index_or, take, drop, set, is_some, Some, None, Option, sym, refl, ap, ap₂, ◌∙◌, subst, ⊎_elim, arith}
use Rattle.std.specs.List.{flat_map}
use Rattle.std.specs.Prelude.{IfSome}
use Rattle.std.proofs.lemmas.Bool.{cases_eq, cases_lt, lt-ltb, le-ltb, ltb-true, ltb-false}
use Rattle.std.proofs.lemmas.List.{map-append, take-map, drop-map, drop_more}
use Rattle.record_pool.specs.declared.chain.Chain.{Chain}
use Rattle.record_pool.specs.declared.record.Record.{Record}
use Rattle.record_pool.specs.declared.pool.Pool.{Pool}
use Rattle.record_pool.specs.Chains.{walk, follow, along, empty_chain, hit, times, Shared, without, Detached, Joined}
use Rattle.record_pool.specs.Pools.{some_place, links, slots, item_at, some_at, all_at, to_back, nth, Divided, Becomes}
use Rattle.record_pool.proofs.Cells.{length-slots}
use Rattle.record_pool.proofs.Runs.{hit_same, hit_other, times-++, follow_more, length-walk, get_d_walk}
use Rattle.record_pool.proofs.Sharing.{none_or, split_at, times-without, met_at, in_range, apart, first_once, bring, send, with_empty, carried}
use Rattle.record_pool.proofs.Writes.{some-length, some_other, some_here, item_there, no_such, some_nowhere, all-length, all_other, all_here}

-- each record of the free chain holds the blank b
abbrev pub Blanks : {X : Type 0} → X → List (Record X) → Chain → Type 0
Blanks b rs free = (p : ℕ) → 0 < times p (along (links rs) free) → item_at rs p ≡ Some b

-- what an operation has made of the free chain, which was `was`, and of one other
pub record Outcome {X : Type 0} (b : X) (rs rs' : List (Record X)) (was free chain : Chain) (others : List Chain) (ps : List ℕ) (xs : List (Option X)) (fs : List ℕ) : Type 0 where
  pub size : length rs' < 2 ^ 32
  pub stays : length rs' ≡ length rs
  pub shared : Shared (length rs') (links rs') (free ∷ chain ∷ others)
  pub blanks : Blanks b rs was → Blanks b rs' free
  pub places : along (links rs') chain ≡ ps
  pub held : map (item_at rs') (along (links rs') chain) ≡ xs
  pub frees : along (links rs') free ≡ fs
  pub kept_places : map (along (links rs')) others ≡ map (along (links rs)) others
  pub kept_held : map (λ (c : Chain). map (item_at rs') (along (links rs') c)) others ≡ map (λ (c : Chain). map (item_at rs) (along (links rs) c)) others

-- ---- items at places

-- two ways to read that agree on the places of a list
agree : {Y : Type 0} (f g : ℕ → Y) (xs : List ℕ) → ((p : ℕ) → 1 ≤ times p xs → f p ≡ g p) → map f xs ≡ map g xs
agree f g [] h = refl
agree {Y = Y} f g (x ∷ xs) h =
    let e : hit x x ≡ 1 = hit_same x in
    ap (λ (y : Y). y ∷ map f xs) (h x (omega arith)) ∙ ap (λ (ys : List Y). g x ∷ ys) (agree f g xs (λ p m. h p (omega arith)))

agree_all : {Y : Type 0} (f g : ℕ → Y) (nx : List ℕ) (cs : List Chain) → ((p : ℕ) → 1 ≤ times p (flat_map (along nx) cs) → f p ≡ g p)
    → map (λ (c : Chain). map f (along nx c)) cs ≡ map (λ (c : Chain). map g (along nx c)) cs
agree_all f g nx [] h = refl
agree_all {Y = Y} f g nx (c ∷ cs) h =
    ap (λ (ys : List Y). ys ∷ map (λ (d : Chain). map f (along nx d)) cs)
    (agree f g (along nx c) (λ p m. let t : times p (along nx c ++ flat_map (along nx) cs) ≡ times p (along nx c) + times p (flat_map (along nx) cs) = times-++ p (along nx c) (flat_map (along nx) cs) in h p (omega arith)))
    ∙ ap (λ (yss : List (List Y)). map g (along nx c) ∷ yss)
    (agree_all f g nx cs (λ p m. let t : times p (along nx c ++ flat_map (along nx) cs) ≡ times p (along nx c) + times p (flat_map (along nx) cs) = times-++ p (along nx c) (flat_map (along nx) cs) in h p (omega arith)))

map-along : {Y : Type 0} (f : ℕ → Y) (nx : List ℕ) (cs : List Chain) → map (λ (c : Chain). map f (along nx c)) cs ≡ map (map f) (map (along nx) cs)
map-along f nx [] = refl
map-along {Y = Y} f nx (c ∷ cs) = ap (λ (yss : List (List Y)). map f (along nx c) ∷ yss) (map-along f nx cs)

-- chains with the same places, over items that agree there
pub held_kept : {Y : Type 0} (f g : ℕ → Y) (nx nx' : List ℕ) (cs : List Chain) → map (along nx') cs ≡ map (along nx) cs
    → ((p : ℕ) → 1 ≤ times p (flat_map (along nx) cs) → f p ≡ g p)
    → map (λ (c : Chain). map f (along nx' c)) cs ≡ map (λ (c : Chain). map g (along nx c)) cs
held_kept f g nx nx' cs e h = map-along f nx' cs ∙ ap (map (map f)) e ∙ sym (map-along f nx cs) ∙ agree_all f g nx cs h

same_length : {X : Type 0} (rs rs' : List (Record X)) → slots rs' ≡ slots rs → length rs' ≡ length rs
same_length rs rs' e =
    let a : length (slots rs') ≡ length (slots rs) = ap length e in
    let b : length (slots rs') ≡ length rs' + 1 = length-slots rs' in
    let d : length (slots rs) ≡ length rs + 1 = length-slots rs in
    omega arith

read_same : {X : Type 0} (rs rs' : List (Record X)) → slots rs' ≡ slots rs → (p : ℕ) → item_at rs' p ≡ item_at rs p
read_same {X = X} rs rs' e p = ap (λ (ys : List (Option X)). slice_index_or ys p None) e

unmet : (i p : ℕ) (xs : List ℕ) → times i xs ≡ 0 → 1 ≤ times p xs → p ≢ i
unmet i p xs z m e = let q : 1 ≤ times i xs = subst (λ (j : ℕ). 1 ≤ times j xs) e m in omega arith

-- ---- parts of lists

pub map-without : {X Y : Type 0} (f : X → Y) (k : ℕ) (xs : List X) → map f (without k xs) ≡ without k (map f xs)
map-without {Y = Y} f k xs =
    map-append f (take k xs) (drop (k + 1) xs) ∙ ap (λ (ys : List Y). ys ++ map f (drop (k + 1) xs)) (sym (take-map f k xs)) ∙ ap (λ (ys : List Y). take k (map f xs) ++ ys) (sym (drop-map f (k + 1) xs))

pub map_to_back : {Y : Type 0} (f : ℕ → Y) (k : ℕ) (xs : List ℕ) → map f (to_back k xs) ≡ to_back k (map f xs)
map_to_back {Y = Y} f k xs =
    map-append f (without k xs) (take 1 (drop k xs)) ∙ ap (λ (ys : List Y). ys ++ map f (take 1 (drop k xs))) (map-without f k xs)
    ∙ ap (λ (ys : List Y). without k (map f xs) ++ ys) (sym (take-map f 1 (drop k xs)) ∙ ap (take 1) (sym (drop-map f k xs)))

one_at : (k : ℕ) (xs : List ℕ) → k < length xs → slice_index xs k ∷ [] ≡ take 1 (drop k xs)
one_at k xs lt = ap (take 1) (sym (drop_more xs k 0 lt))

-- ---- the operations

-- a free record detached, and the item x written into it
pub taken : {X : Type 0} (rs rs1 rs2 : List (Record X)) (free rest one : Chain) (others : List Chain) (b x : X)
    → length rs < 2 ^ 32 → 0 < free.count → Shared (length rs) (links rs) (free ∷ others)
    → slots rs1 ≡ slots rs → Detached (length rs) (links rs) (links rs1) free 0 rest one others
    → links rs2 ≡ links rs1 → slots rs2 ≡ some_at (slots rs1) free.first x
    → Outcome b rs rs2 free rest one others (free.first ∷ []) (Some x ∷ []) (drop 1 (along (links rs) free))
taken {X = X} rs rs1 rs2 free rest one others b x small some sh s1 det l2 s2 =
    let lf : length (along (links rs) free) ≡ free.count = length-walk free.count (links rs) free.first in
    let fi : slice_index (along (links rs) free) 0 ≡ free.first = get_d_walk free.count 0 (links rs) free.first some in
    let mi : 1 ≤ times free.first (along (links rs) free) = subst (λ (p : ℕ). 1 ≤ times p (along (links rs) free)) fi (met_at (along (links rs) free) 0 (omega arith)) in
    let ri : (0 < free.first) × (free.first ≤ length rs) = in_range (length rs) (links rs) free others free.first sh mi in
    let zo : times free.first (flat_map (along (links rs)) others) ≡ 0 = apart (length rs) (links rs) free others free.first sh mi in
    let s : slots rs2 ≡ some_at (slots rs) free.first x = s2 ∙ ap (λ (ys : List (Option X)). some_at ys free.first x) s1 in
    let n2 : length rs2 ≡ length rs = some-length rs rs2 free.first x s in
    let read : (p : ℕ) → item_at rs2 p ≡ slice_index_or (some_at (slots rs) free.first x) p None = λ p. ap (λ (ys : List (Option X)). slice_index_or ys p None) s in
    let here : item_at rs2 free.first ≡ Some x = read free.first ∙ some_here (slots rs) free.first x ri.0 (let q : length (slots rs) ≡ length rs + 1 = length-slots rs in omega arith) in
    let fs : along (links rs2) rest ≡ drop 1 (along (links rs) free) = ap (λ (nx : List ℕ). along nx rest) l2 ∙ det.rests in
    let sp : along (links rs) free ≡ free.first ∷ drop 1 (along (links rs) free) = split_at 0 (along (links rs) free) (omega arith) ∙ ap (λ (p : ℕ). p ∷ drop 1 (along (links rs) free)) fi in
    let once : times free.first (free.first ∷ drop 1 (along (links rs) free)) ≤ 1 = subst (λ (ps : List ℕ). times free.first ps ≤ 1) sp (first_once (length rs) (links rs) free others sh free.first) in
    let hf : hit free.first free.first ≡ 1 = hit_same free.first in
    let zf : times free.first (drop 1 (along (links rs) free)) ≡ 0 = omega arith in
    let ep : along (links rs2) one ≡ free.first ∷ [] = ap (λ (nx : List ℕ). along nx one) l2 ∙ det.ones ∙ ap (λ (p : ℕ). p ∷ []) fi in
    let ko : map (along (links rs2)) others ≡ map (along (links rs)) others = ap (λ (nx : List ℕ). map (along nx) others) l2 ∙ det.kept in
    record {
      size = subst (λ (m : ℕ). m < 2 ^ 32) (sym n2) small;
      stays = n2;
      shared = carried (length rs) (length rs2) (links rs1) (links rs2) (rest ∷ one ∷ others) n2 l2 det.shared;
      places = ep;
      held = ap (map (item_at rs2)) ep ∙ ap (λ (v : Option X). v ∷ []) here;
      frees = fs;
      blanks = λ bl p m.
          let m1 : 0 < times p (drop 1 (along (links rs) free)) = subst (λ (ps : List ℕ). 0 < times p ps) fs m in
          let m2 : 0 < times p (along (links rs) free) = subst (λ (ps : List ℕ). 0 < times p ps) (sym sp) (omega arith) in
          read p ∙ some_other (slots rs) free.first x p (unmet free.first p (drop 1 (along (links rs) free)) zf (omega arith)) ∙ bl p m2;
      kept_places = ko;
      kept_held = held_kept (item_at rs2) (item_at rs) (links rs) (links rs2) others ko (λ p m. read p ∙ some_other (slots rs) free.first x p (unmet free.first p (flat_map (along (links rs)) others) zo m));
    }

-- the same items, and the same free records
still_blank : {X : Type 0} (rs rs' : List (Record X)) (free free' : Chain) (b : X) → slots rs' ≡ slots rs → along (links rs') free' ≡ along (links rs) free → Blanks b rs free → Blanks b rs' free'
still_blank rs rs' free free' b s e bl p m = read_same rs rs' s p ∙ bl p (subst (λ (ps : List ℕ). 0 < times p ps) e m)

-- two chains joined
attached : {X : Type 0} (rs rs1 : List (Record X)) (free front back both : Chain) (others : List Chain) (b : X)
    → length rs < 2 ^ 32 → slots rs1 ≡ slots rs → Joined (length rs) (links rs) (links rs1) front back both (free ∷ others)
    → Outcome b rs rs1 free free both others (along (links rs) front ++ along (links rs) back) (map (item_at rs) (along (links rs) front) ++ map (item_at rs) (along (links rs) back))
    (along (links rs) free)
attached rs rs1 free front back both others b small s1 j =
    let n1 : length rs1 ≡ length rs = same_length rs rs1 s1 in
    let ko : map (along (links rs1)) others ≡ map (along (links rs)) others = ap (drop 1) j.kept in
    record {
      size = subst (λ (m : ℕ). m < 2 ^ 32) (sym n1) small;
      stays = n1;
      shared = carried (length rs) (length rs1) (links rs1) (links rs1) (free ∷ both ∷ others) n1 refl (bring (length rs) (links rs1) (both ∷ []) free others j.shared);
      places = j.boths;
      frees = ap (λ (l : List (List ℕ)). slice_index_or l 0 []) j.kept;
      blanks = still_blank rs rs1 free free b s1 (ap (λ (l : List (List ℕ)). slice_index_or l 0 []) j.kept);
      held = ap (map (item_at rs1)) j.boths ∙ agree (item_at rs1) (item_at rs) (along (links rs) front ++ along (links rs) back) (λ p m. read_same rs rs1 s1 p) ∙ map-append (item_at rs) (along (links rs) front) (along (links rs) back);
      kept_places = ko;
      kept_held = held_kept (item_at rs1) (item_at rs) (links rs) (links rs1) others ko (λ p m. read_same rs rs1 s1 p);
    }

-- a chain taken, and joined to another at one of its ends
module _ {X : Type 0} (rs rs1 rs2 : List (Record X)) (was free chain one both : Chain) (others : List Chain) (ps : List ℕ) (xs : List (Option X)) (fs : List ℕ) (b : X) (o : Outcome b rs rs1 was free one (chain ∷ others) ps xs fs)
    (s2 : slots rs2 ≡ slots rs1) where
  chain_places : along (links rs1) chain ≡ along (links rs) chain
  chain_places = ap (λ (l : List (List ℕ)). slice_index_or l 0 []) o.kept_places

  chain_held : map (item_at rs1) (along (links rs1) chain) ≡ map (item_at rs) (along (links rs) chain)
  chain_held = ap (λ (l : List (List (Option X))). slice_index_or l 0 []) o.kept_held

  pub pushed_back : (length rs1 < 2 ^ 32 → Shared (length rs1) (links rs1) (chain ∷ one ∷ free ∷ others) → Joined (length rs1) (links rs1) (links rs2) chain one both (free ∷ others))
      → Outcome b rs rs2 was free both others (along (links rs) chain ++ ps) (map (item_at rs) (along (links rs) chain) ++ xs) fs
  pushed_back joins =
      let sh = bring (length rs1) (links rs1) (one ∷ free ∷ []) chain others (bring (length rs1) (links rs1) (free ∷ []) one (chain ∷ others) o.shared) in
      let a = attached rs1 rs2 free chain one both others b o.size s2 (joins o.size sh) in
      record {
        size = a.size;
        stays = a.stays ∙ o.stays;
        frees = a.frees ∙ o.frees;
        blanks = λ bl. a.blanks (o.blanks bl);
        shared = a.shared;
        places = a.places ∙ ap (λ (l : List ℕ). l ++ along (links rs1) one) chain_places ∙ ap (λ (l : List ℕ). along (links rs) chain ++ l) o.places;
        held = a.held ∙ ap (λ (l : List (Option X)). l ++ map (item_at rs1) (along (links rs1) one)) chain_held ∙ ap (λ (l : List (Option X)). map (item_at rs) (along (links rs) chain) ++ l) o.held;
        kept_places = a.kept_places ∙ ap (drop 1) o.kept_places;
        kept_held = a.kept_held ∙ ap (drop 1) o.kept_held;
      }

  pub pushed_front : (length rs1 < 2 ^ 32 → Shared (length rs1) (links rs1) (one ∷ chain ∷ free ∷ others) → Joined (length rs1) (links rs1) (links rs2) one chain both (free ∷ others))
      → Outcome b rs rs2 was free both others (ps ++ along (links rs) chain) (xs ++ map (item_at rs) (along (links rs) chain)) fs
  pushed_front joins =
      let a = attached rs1 rs2 free one chain both others b o.size s2 (joins o.size (send (length rs1) (links rs1) (one ∷ chain ∷ []) free others o.shared)) in
      record {
        size = a.size;
        stays = a.stays ∙ o.stays;
        frees = a.frees ∙ o.frees;
        blanks = λ bl. a.blanks (o.blanks bl);
        shared = a.shared;
        places = a.places ∙ ap (λ (l : List ℕ). l ++ along (links rs1) chain) o.places ∙ ap (λ (l : List ℕ). ps ++ l) chain_places;
        held = a.held ∙ ap (λ (l : List (Option X)). l ++ map (item_at rs1) (along (links rs1) chain)) o.held ∙ ap (λ (l : List (Option X)). xs ++ l) chain_held;
        kept_places = a.kept_places ∙ ap (drop 1) o.kept_places;
        kept_held = a.kept_held ∙ ap (drop 1) o.kept_held;
      }

-- record k of a chain freed: rs1 once it is detached, rs2 once it is blank, rs3 once it is a free one
pub removed : {X : Type 0} (rs rs1 rs2 rs3 : List (Record X)) (free chain rest one both : Chain) (others : List Chain) (k : ℕ) (b : X)
    → length rs < 2 ^ 32 → k < chain.count → Shared (length rs) (links rs) (chain ∷ free ∷ others)
    → slots rs1 ≡ slots rs → Detached (length rs) (links rs) (links rs1) chain k rest one (free ∷ others) → one.first ≡ follow k (links rs) chain.first
    → links rs2 ≡ links rs1 → slots rs2 ≡ some_at (slots rs1) one.first b
    → slots rs3 ≡ slots rs2 → (length rs2 < 2 ^ 32 → Shared (length rs2) (links rs2) (one ∷ free ∷ rest ∷ others) → Joined (length rs2) (links rs2) (links rs3) one free both (rest ∷ others))
    → Outcome b rs rs3 free both rest others (without k (along (links rs) chain)) (without k (map (item_at rs) (along (links rs) chain)))
    (slice_index (along (links rs) chain) k ∷ along (links rs) free)
removed {X = X} rs rs1 rs2 rs3 free chain rest one both others k b small within sh s1 det fst l2 s2 s3 joins =
    let lc : length (along (links rs) chain) ≡ chain.count = length-walk chain.count (links rs) chain.first in
    let fi : one.first ≡ slice_index (along (links rs) chain) k = fst ∙ sym (get_d_walk chain.count k (links rs) chain.first within) in
    let mp : 1 ≤ times (slice_index (along (links rs) chain) k) (along (links rs) chain) = met_at (along (links rs) chain) k (omega arith) in
    let rp = in_range (length rs) (links rs) chain (free ∷ others) (slice_index (along (links rs) chain) k) sh mp in
    let op = first_once (length rs) (links rs) chain (free ∷ others) sh (slice_index (along (links rs) chain) k) in
    let hp = hit_same (slice_index (along (links rs) chain) k) in
    let wp = times-without (slice_index (along (links rs) chain) k) k (along (links rs) chain) (omega arith) in
    let zw : times (slice_index (along (links rs) chain) k) (without k (along (links rs) chain)) ≡ 0 = omega arith in
    let ap0 = apart (length rs) (links rs) chain (free ∷ others) (slice_index (along (links rs) chain) k) sh mp in
    let tp = times-++ (slice_index (along (links rs) chain) k) (along (links rs) free) (flat_map (along (links rs)) others) in
    let zo : times (slice_index (along (links rs) chain) k) (flat_map (along (links rs)) others) ≡ 0 = omega arith in
    let s : slots rs3 ≡ some_at (slots rs) (slice_index (along (links rs) chain) k) b
    = s3 ∙ s2 ∙ ap (λ (ys : List (Option X)). some_at ys one.first b) s1 ∙ ap (λ (q : ℕ). some_at (slots rs) q b) fi in
    let n3 : length rs3 ≡ length rs = some-length rs rs3 (slice_index (along (links rs) chain) k) b s in
    let n2 : length rs2 ≡ length rs = some-length rs rs2 one.first b (s2 ∙ ap (λ (ys : List (Option X)). some_at ys one.first b) s1) in
    let n32 : length rs3 ≡ length rs2 = same_length rs2 rs3 s3 in
    let sh2 : Shared (length rs2) (links rs2) (rest ∷ one ∷ free ∷ others) = carried (length rs) (length rs2) (links rs1) (links rs2) (rest ∷ one ∷ free ∷ others) n2 l2 det.shared in
    let j : Joined (length rs2) (links rs2) (links rs3) one free both (rest ∷ others) = joins (subst (λ (m : ℕ). m < 2 ^ 32) (sym n2) small) (send (length rs2) (links rs2) (one ∷ free ∷ []) rest others sh2) in
    let kr : along (links rs3) rest ≡ along (links rs2) rest = ap (λ (l : List (List ℕ)). slice_index_or l 0 []) j.kept in
    let ko : map (along (links rs3)) others ≡ map (along (links rs)) others = ap (drop 1) j.kept ∙ ap (λ (nx : List ℕ). map (along nx) others) l2 ∙ ap (drop 1) det.kept in
    let ep : along (links rs3) rest ≡ without k (along (links rs) chain) = kr ∙ ap (λ (nx : List ℕ). along nx rest) l2 ∙ det.rests in
    let fs : along (links rs3) both ≡ slice_index (along (links rs) chain) k ∷ along (links rs) free
    = j.boths ∙ ap₂ (λ (a c : List ℕ). a ++ c) (ap (λ (nx : List ℕ). along nx one) l2 ∙ det.ones) (ap (λ (nx : List ℕ). along nx free) l2 ∙ ap (λ (l : List (List ℕ)). slice_index_or l 0 []) det.kept) in
    let at : (q : ℕ) → item_at rs3 q ≡ slice_index_or (some_at (slots rs) (slice_index (along (links rs) chain) k) b) q None = λ q. ap (λ (ys : List (Option X)). slice_index_or ys q None) s in
    let read : (q : ℕ) → q ≢ slice_index (along (links rs) chain) k → item_at rs3 q ≡ item_at rs q = λ q ne. at q ∙ some_other (slots rs) (slice_index (along (links rs) chain) k) b q ne in
    let here : item_at rs3 (slice_index (along (links rs) chain) k) ≡ Some b
    = at (slice_index (along (links rs) chain) k) ∙ some_here (slots rs) (slice_index (along (links rs) chain) k) b rp.0 (omega (arith, length-slots rs, rp.1)) in
    record {
      size = subst (λ (m : ℕ). m < 2 ^ 32) (sym n3) small;
      stays = n3;
      frees = fs;
      blanks = λ bl q m.
          let m1 : 0 < times q (slice_index (along (links rs) chain) k ∷ along (links rs) free) = subst (λ (ps : List ℕ). 0 < times q ps) fs m in
          ⊎_elim (λ e. ap (item_at rs3) (sym e) ∙ here) (λ ne. let h = hit_other q (slice_index (along (links rs) chain) k) ne in read q (λ e. ne (sym e)) ∙ bl q (omega arith)) (cases_eq (slice_index (along (links rs) chain) k) q);
      shared = carried (length rs2) (length rs3) (links rs3) (links rs3) (both ∷ rest ∷ others) n32 refl j.shared;
      places = ep;
      held = ap (map (item_at rs3)) ep
          ∙ agree (item_at rs3) (item_at rs) (without k (along (links rs) chain)) (λ q m. read q (unmet (slice_index (along (links rs) chain) k) q (without k (along (links rs) chain)) zw m)) ∙ map-without (item_at rs) k (along (links rs) chain);
      kept_places = ko;
      kept_held = held_kept (item_at rs3) (item_at rs) (links rs) (links rs3) others ko (λ q m. read q (unmet (slice_index (along (links rs) chain) k) q (flat_map (along (links rs)) others) zo m));
    }

-- record k of a chain put to its end
pub moved_back : {X : Type 0} (rs rs1 rs2 : List (Record X)) (free chain rest one both : Chain) (others : List Chain) (k : ℕ) (b : X)
    → length rs < 2 ^ 32 → k < chain.count
    → slots rs1 ≡ slots rs → Detached (length rs) (links rs) (links rs1) chain k rest one (free ∷ others)
    → slots rs2 ≡ slots rs1 → (length rs1 < 2 ^ 32 → Shared (length rs1) (links rs1) (rest ∷ one ∷ free ∷ others) → Joined (length rs1) (links rs1) (links rs2) rest one both (free ∷ others))
    → Outcome b rs rs2 free free both others (to_back k (along (links rs) chain)) (to_back k (map (item_at rs) (along (links rs) chain))) (along (links rs) free)
moved_back rs rs1 rs2 free chain rest one both others k b small within s1 det s2 joins =
    let n1 : length rs1 ≡ length rs = same_length rs rs1 s1 in
    let n2 : length rs2 ≡ length rs1 = same_length rs1 rs2 s2 in
    let l : length (along (links rs) chain) ≡ chain.count = length-walk chain.count (links rs) chain.first in
    let j : Joined (length rs1) (links rs1) (links rs2) rest one both (free ∷ others)
    = joins (subst (λ (m : ℕ). m < 2 ^ 32) (sym n1) small) (carried (length rs) (length rs1) (links rs1) (links rs1) (rest ∷ one ∷ free ∷ others) n1 refl det.shared) in
    let ko : map (along (links rs2)) others ≡ map (along (links rs)) others = ap (drop 1) j.kept ∙ ap (drop 1) det.kept in
    let ep : along (links rs2) both ≡ to_back k (along (links rs) chain)
    = j.boths ∙ ap (λ (ps : List ℕ). ps ++ along (links rs1) one) det.rests ∙ ap (λ (ps : List ℕ). without k (along (links rs) chain) ++ ps) (det.ones ∙ one_at k (along (links rs) chain) (omega arith)) in
    let fs : along (links rs2) free ≡ along (links rs) free = ap (λ (l : List (List ℕ)). slice_index_or l 0 []) j.kept ∙ ap (λ (l : List (List ℕ)). slice_index_or l 0 []) det.kept in
    let read : (p : ℕ) → item_at rs2 p ≡ item_at rs p = read_same rs rs2 (s2 ∙ s1) in
    record {
      size = subst (λ (m : ℕ). m < 2 ^ 32) (sym (n2 ∙ n1)) small;
      stays = n2 ∙ n1;
      frees = fs;
      blanks = still_blank rs rs2 free free b (s2 ∙ s1) fs;
      shared = carried (length rs1) (length rs2) (links rs2) (links rs2) (free ∷ both ∷ others) n2 refl (bring (length rs1) (links rs2) (both ∷ []) free others j.shared);
      places = ep;
      held = ap (map (item_at rs2)) ep ∙ agree (item_at rs2) (item_at rs) (to_back k (along (links rs) chain)) (λ p m. read p) ∙ map_to_back (item_at rs) k (along (links rs) chain);
      kept_places = ko;
      kept_held = held_kept (item_at rs2) (item_at rs) (links rs) (links rs2) others ko (λ p m. read p);
    }

-- a whole chain freed: rs1 once its records are blank, rs2 once they are free ones
pub released : {X : Type 0} (rs rs1 rs2 : List (Record X)) (both : Chain) (free chain : Chain) (others : List Chain) (b : X)
    → length rs < 2 ^ 32 → Shared (length rs) (links rs) (chain ∷ free ∷ others)
    → links rs1 ≡ links rs → slots rs1 ≡ all_at (slots rs) (along (links rs) chain) b
    → slots rs2 ≡ slots rs1 → (length rs1 < 2 ^ 32 → Shared (length rs1) (links rs1) (chain ∷ free ∷ others) → Joined (length rs1) (links rs1) (links rs2) chain free both others)
    → Outcome b rs rs2 free both empty_chain others [] [] (along (links rs) chain ++ along (links rs) free)
released {X = X} rs rs1 rs2 both free chain others b small sh l1 s1 s2 joins =
    let n1 : length rs1 ≡ length rs = all-length rs rs1 (along (links rs) chain) b s1 in
    let n2 : length rs2 ≡ length rs1 = same_length rs1 rs2 s2 in
    let j : Joined (length rs1) (links rs1) (links rs2) chain free both others = joins (subst (λ (m : ℕ). m < 2 ^ 32) (sym n1) small) (carried (length rs) (length rs1) (links rs) (links rs1) (chain ∷ free ∷ others) n1 l1 sh) in
    let fs : along (links rs2) both ≡ along (links rs) chain ++ along (links rs) free = j.boths ∙ ap (λ (nx : List ℕ). along nx chain ++ along nx free) l1 in
    let ko : map (along (links rs2)) others ≡ map (along (links rs)) others = j.kept ∙ ap (λ (nx : List ℕ). map (along nx) others) l1 in
    let at : (p : ℕ) → item_at rs2 p ≡ slice_index_or (all_at (slots rs) (along (links rs) chain) b) p None = λ p. ap (λ (ys : List (Option X)). slice_index_or ys p None) (s2 ∙ s1) in
    let read : (p : ℕ) → times p (along (links rs) chain) ≡ 0 → item_at rs2 p ≡ item_at rs p = λ p z. at p ∙ all_other (slots rs) (along (links rs) chain) b p z in
    let far : (p : ℕ) → 1 ≤ times p (flat_map (along (links rs)) others) → times p (along (links rs) chain) ≡ 0
    = λ p m. ⊎_elim (λ z. z) (λ h.
    let a = apart (length rs) (links rs) chain (free ∷ others) p sh h in
    let t = times-++ p (along (links rs) free) (flat_map (along (links rs)) others) in absurd (omega arith)) (none_or (times p (along (links rs) chain))) in
    record {
      size = subst (λ (m : ℕ). m < 2 ^ 32) (sym (n2 ∙ n1)) small;
      stays = n2 ∙ n1;
      shared = with_empty (length rs2) (links rs2) both others (carried (length rs1) (length rs2) (links rs2) (links rs2) (both ∷ others) n2 refl j.shared);
      blanks = λ bl p m.
          let m1 : 0 < times p (along (links rs) chain ++ along (links rs) free) = subst (λ (ps : List ℕ). 0 < times p ps) fs m in
          let t = times-++ p (along (links rs) chain) (along (links rs) free) in
          ⊎_elim (λ z. read p z ∙ bl p (omega arith)) (λ h.
          let r = in_range (length rs) (links rs) chain (free ∷ others) p sh h in
          at p ∙ all_here (slots rs) (along (links rs) chain) b p r.0 (omega (arith, length-slots rs, r.1)) h) (none_or (times p (along (links rs) chain)));
      places = refl;
      held = refl;
      frees = fs;
      kept_places = ko;
      kept_held = held_kept (item_at rs2) (item_at rs) (links rs) (links rs2) others ko (λ p m. read p (far p m));
    }

-- ---- element k

pub nth-walk : (c k : ℕ) (nx : List ℕ) (s : ℕ) → k < c → nth (walk c nx s) k ≡ Some (follow k nx s)
nth-walk zero k nx s h = absurd (omega arith)
nth-walk (suc c) zero nx s h = refl
nth-walk (suc c) (suc k) nx s h = nth-walk c k nx (slice_index nx s) (omega arith)

pub nth_past : {Y : Type 0} (xs : List Y) (k : ℕ) → length xs ≤ k → nth xs k ≡ None
nth_past [] k h = refl
nth_past (x ∷ xs) zero h = absurd (omega arith)
nth_past (x ∷ xs) (suc k) h = nth_past xs k (omega arith)

pub place_read : (o : Option ℕ) (c k : ℕ) (nx : List ℕ) (s : ℕ) → is_some o ≡ nat_lt k c → IfSome o (λ p. p ≡ follow k nx s) → o ≡ nth (walk c nx s) k
place_read None c k nx s e h = let l = ltb-false k c (sym e) in sym (nth_past (walk c nx s) k (omega (arith, length-walk c nx s)))
place_read (Some p) c k nx s e h = ap Some h ∙ sym (nth-walk c k nx s (ltb-true k c (sym e)))

pub nth-within : {Y : Type 0} (xs : List Y) (k : ℕ) (y : Y) → nth xs k ≡ Some y → k < length xs
nth-within [] k y e = absurd (no_such y e)
nth-within (x ∷ xs) zero y e = omega arith
nth-within (x ∷ xs) (suc k) y e = let h : k < length xs = nth-within xs k y e in omega arith

-- what is read at element k
pub read_none : {X Y : Type 0} (f : X → Option Y) (xs : List X) (k : ℕ) → nth xs k ≡ None → None ≡ slice_index_or (map f xs) k None
read_none f [] k e = refl
read_none f (x ∷ xs) zero e = absurd (no_such x (sym e))
read_none f (x ∷ xs) (suc k) e = read_none f xs k e

pub read_some : {X Y : Type 0} (f : X → Option Y) (xs : List X) (k : ℕ) (x : X) → nth xs k ≡ Some x → f x ≡ slice_index_or (map f xs) k None
read_some f [] k y e = absurd (no_such y e)
read_some f (x ∷ xs) zero y e = let h : y ≡ x = cc in ap f h
read_some f (x ∷ xs) (suc k) y e = read_some f xs k y e

-- only an element that is there is read
pub read-within : {X Y : Type 0} (f : X → Option Y) (xs : List X) (k : ℕ) (y : Y) → Some y ≡ slice_index_or (map f xs) k None → k < length xs
read-within f [] k y e = absurd (no_such y (sym e))
read-within f (x ∷ xs) zero y e = omega arith
read-within f (x ∷ xs) (suc k) y e = let h : k < length xs = read-within f xs k y e in omega arith

-- ---- what freeing one record writes

pub held-within : {X : Type 0} (rs : List (Record X)) (chain : Chain) (k : ℕ) (y : X) → Some y ≡ slice_index_or (map (item_at rs) (along (links rs) chain)) k None → k < chain.count
held-within rs chain k y e =
    let l = length-walk chain.count (links rs) chain.first in
    let h = read-within (item_at rs) (along (links rs) chain) k y e in
    omega arith

pub nothing_freed : {X : Type 0} (rs : List (Record X)) (ps : List ℕ) (k : ℕ) (b : X) → None ≡ slice_index_or (map (item_at rs) ps) k None → slots rs ≡ all_at (slots rs) (take 1 (drop k ps)) b
nothing_freed rs [] zero b e = refl
nothing_freed rs [] (suc k) b e = refl
nothing_freed rs (p ∷ ps) zero b e = sym (some_nowhere rs p b e)
nothing_freed rs (p ∷ ps) (suc k) b e = nothing_freed rs ps k b e

pub one_freed : {X : Type 0} (rs rs1 rs2 rs3 : List (Record X)) (chain : Chain) (k p : ℕ) (b : X) → k < chain.count
    → slots rs1 ≡ slots rs → p ≡ follow k (links rs) chain.first → slots rs2 ≡ some_at (slots rs1) p b → slots rs3 ≡ slots rs2
    → slots rs3 ≡ all_at (slots rs) (take 1 (drop k (along (links rs) chain))) b
one_freed {X = X} rs rs1 rs2 rs3 chain k p b lt s1 e s2 s3 =
    let at : p ≡ slice_index (along (links rs) chain) k = e ∙ sym (get_d_walk chain.count k (links rs) chain.first lt) in
    s3 ∙ s2 ∙ ap (λ (ys : List (Option X)). some_at ys p b) s1 ∙ ap (λ (q : ℕ). all_at (slots rs) (q ∷ []) b) at
    ∙ ap (λ (qs : List ℕ). all_at (slots rs) qs b) (one_at k (along (links rs) chain) (omega (arith, length-walk chain.count (links rs) chain.first)))

-- ---- each place of a chain has an item

pub held_there : {X : Type 0} (rs : List (Record X)) (c : Chain) (cs : List Chain) (k : ℕ) → Shared (length rs) (links rs) (c ∷ cs) → k < c.count
    → (x : X) × (slice_index_or (map (item_at rs) (along (links rs) c)) k None ≡ Some x)
held_there {X = X} rs c cs k sh lt =
    let l : length (along (links rs) c) ≡ c.count = length-walk c.count (links rs) c.first in
    let g : slice_index (along (links rs) c) k ≡ follow k (links rs) c.first = get_d_walk c.count k (links rs) c.first lt in
    let m : 1 ≤ times (follow k (links rs) c.first) (along (links rs) c) = subst (λ (p : ℕ). 1 ≤ times p (along (links rs) c)) g (met_at (along (links rs) c) k (omega arith)) in
    let r : (0 < follow k (links rs) c.first) × (follow k (links rs) c.first ≤ length rs) = in_range (length rs) (links rs) c cs (follow k (links rs) c.first) sh m in
    let i : (x : X) × (item_at rs (follow k (links rs) c.first) ≡ Some x) = item_there rs (follow k (links rs) c.first) r.0 r.1 in
    (i.0, sym (read_some (item_at rs) (along (links rs) c) k (follow k (links rs) c.first) (nth-walk c.count k (links rs) c.first lt)) ∙ i.1)

-- so just the elements that a chain has are read
pub read_just : {X : Type 0} (rs : List (Record X)) (c : Chain) (cs : List Chain) (k : ℕ) (r : Option X) → Shared (length rs) (links rs) (c ∷ cs)
    → r ≡ slice_index_or (map (item_at rs) (along (links rs) c)) k None → is_some r ≡ nat_lt k c.count
read_just {X = X} rs c cs k r sh e = ⊎_elim inner past (cases_lt k c.count)
  where
    inner : k < c.count → is_some r ≡ nat_lt k c.count
    inner lt = let t : (x : X) × (slice_index_or (map (item_at rs) (along (links rs) c)) k None ≡ Some x) = held_there rs c cs k sh lt in ap is_some (e ∙ t.1) ∙ sym (lt-ltb k c.count lt)

    past : c.count ≤ k → is_some r ≡ nat_lt k c.count
    past le =
        let l : length (along (links rs) c) ≡ c.count = length-walk c.count (links rs) c.first in
        ap is_some (e ∙ sym (read_none (item_at rs) (along (links rs) c) k (nth_past (along (links rs) c) k (omega arith)))) ∙ sym (le-ltb k c.count le)

-- ---- the place that follows

within_count : (nx : List ℕ) (c : Chain) (k p : ℕ) → nth (along nx c) k ≡ Some p → k < c.count
within_count nx c k p e = let h : k < length (along nx c) = nth-within (along nx c) k p e in let l : length (along nx c) ≡ c.count = length-walk c.count nx c.first in omega arith

place_is : (nx : List ℕ) (c : Chain) (k p : ℕ) → nth (along nx c) k ≡ Some p → p ≡ follow k nx c.first
place_is nx c k p e = let w : nth (along nx c) k ≡ Some (follow k nx c.first) = nth-walk c.count k nx c.first (within_count nx c k p e) in cc

next_is : (nx : List ℕ) (c : Chain) (k p v : ℕ) → nth (along nx c) k ≡ Some p → v ≡ slice_index nx p → v ≡ follow (suc k) nx c.first
next_is nx c k p v e ev = ev ∙ ap (λ (q : ℕ). slice_index nx q) (place_is nx c k p e) ∙ sym (follow_more k nx c.first)

next_none : (n : ℕ) (nx : List ℕ) (c : Chain) (cs : List Chain) (k p v : ℕ) → Shared n nx (c ∷ cs) → nth (along nx c) k ≡ Some p → v ≡ slice_index nx p → v ≡ 0
    → None ≡ nth (along nx c) (k + 1)
next_none n nx c cs k p v sh e ev z = ⊎_elim inner last (cases_lt (k + 1) c.count)
  where
    l : length (along nx c) ≡ c.count
    l = length-walk c.count nx c.first

    inner : k + 1 < c.count → None ≡ nth (along nx c) (k + 1)
    inner lt =
        let s : k + 1 ≡ suc k = omega arith in
        let g : slice_index (along nx c) (k + 1) ≡ v = get_d_walk c.count (k + 1) nx c.first lt ∙ ap (λ (m : ℕ). follow m nx c.first) s ∙ sym (next_is nx c k p v e ev) in
        let m : 1 ≤ times v (along nx c) = subst (λ (q : ℕ). 1 ≤ times q (along nx c)) g (met_at (along nx c) (k + 1) (let l' = l in omega arith)) in
        let r : (0 < v) × (v ≤ n) = in_range n nx c cs v sh m in absurd (omega arith)

    last : c.count ≤ k + 1 → None ≡ nth (along nx c) (k + 1)
    last le = sym (nth_past (along nx c) (k + 1) (let l' = l in omega arith))

next_some : (n : ℕ) (nx : List ℕ) (c : Chain) (cs : List Chain) (k p v : ℕ) → Shared n nx (c ∷ cs) → nth (along nx c) k ≡ Some p → v ≡ slice_index nx p → (v ≡ 0 → ⊥)
    → Some v ≡ nth (along nx c) (k + 1)
next_some n nx c cs k p v sh e ev ne = ⊎_elim inner last (cases_lt (k + 1) c.count)
  where
    s : k + 1 ≡ suc k
    s = omega arith

    inner : k + 1 < c.count → Some v ≡ nth (along nx c) (k + 1)
    inner lt = ap Some (next_is nx c k p v e ev ∙ ap (λ (m : ℕ). follow m nx c.first) (sym s)) ∙ sym (nth-walk c.count (k + 1) nx c.first lt)

    last : c.count ≤ k + 1 → Some v ≡ nth (along nx c) (k + 1)
    last le =
        let lt : k < c.count = within_count nx c k p e in
        let q : suc k ≡ c.count = omega arith in
        absurd (ne (next_is nx c k p v e ev ∙ ap (λ (m : ℕ). follow m nx c.first) q ∙ sh.ended.0))

pub next_place : (n : ℕ) (nx : List ℕ) (c : Chain) (cs : List Chain) (k p v : ℕ) → Shared n nx (c ∷ cs) → nth (along nx c) k ≡ Some p → v ≡ slice_index nx p → some_place v ≡ nth (along nx c) (k + 1)
next_place n nx c cs k p zero sh e ev = next_none n nx c cs k p 0 sh e ev refl
next_place n nx c cs k p (suc v) sh e ev = next_some n nx c cs k p (suc v) sh e ev (λ z. omega arith)

-- ---- an item written

pub met_nth : (xs : List ℕ) (k p : ℕ) → nth xs k ≡ Some p → 1 ≤ times p xs
met_nth [] k p e = absurd (no_such p e)
met_nth (x ∷ xs) zero p e = let h : hit x x ≡ 1 = hit_same x in let q : x ≡ p = cc in let h' : hit p x ≡ 1 = subst (λ (j : ℕ). hit j x ≡ 1) q h in omega arith
met_nth (x ∷ xs) (suc k) p e = let h : 1 ≤ times p xs = met_nth xs k p e in omega arith

set-held : {Y : Type 0} (f g : ℕ → Y) (xs : List ℕ) (k p : ℕ) (y : Y) → ((q : ℕ) → times q xs ≤ 1) → nth xs k ≡ Some p → f p ≡ y → ((q : ℕ) → q ≢ p → f q ≡ g q)
    → map f xs ≡ set (map g xs) k y
set-held f g [] k p y once e here there = absurd (no_such p e)
set-held {Y = Y} f g (x ∷ xs) zero p y once e here there =
    let xp : x ≡ p = cc in
    let h : hit x x ≡ 1 = hit_same x in
    let o : times x (x ∷ xs) ≤ 1 = once x in
    let z : times x xs ≡ 0 = omega arith in
    ap (λ (v : Y). v ∷ map f xs) (ap f xp ∙ here)
    ∙ ap (λ (vs : List Y). y ∷ vs) (agree f g xs (λ q m. there q (subst (λ (j : ℕ). q ≢ j) xp (unmet x q xs z m))))
set-held {Y = Y} f g (x ∷ xs) (suc k) p y once e here there =
    let m : 1 ≤ times p xs = met_nth xs k p e in
    let h : hit x x ≡ 1 = hit_same x in
    let o : times x (x ∷ xs) ≤ 1 = once x in
    let z : times x xs ≡ 0 = omega arith in
    let ne : x ≢ p = λ q. unmet x p xs z m (sym q) in
    ap (λ (v : Y). v ∷ map f xs) (there x ne)
    ∙ ap (λ (vs : List Y). g x ∷ vs) (set-held f g xs k p y (λ q. let oq : times q (x ∷ xs) ≤ 1 = once q in omega arith) e here there)

pub written : {X : Type 0} (rs rs' : List (Record X)) (free chain : Chain) (others : List Chain) (k p : ℕ) (b x : X)
    → length rs < 2 ^ 32 → Shared (length rs) (links rs) (free ∷ chain ∷ others) → nth (along (links rs) chain) k ≡ Some p
    → links rs' ≡ links rs → slots rs' ≡ some_at (slots rs) p x
    → Outcome b rs rs' free free chain others (along (links rs) chain) (set (map (item_at rs) (along (links rs) chain)) k (Some x)) (along (links rs) free)
written {X = X} rs rs' free chain others k p b x small sh e l s =
    let sh' : Shared (length rs) (links rs) (chain ∷ free ∷ others) = bring (length rs) (links rs) (free ∷ []) chain others sh in
    let m : 1 ≤ times p (along (links rs) chain) = met_nth (along (links rs) chain) k p e in
    let r : (0 < p) × (p ≤ length rs) = in_range (length rs) (links rs) chain (free ∷ others) p sh' m in
    let z : times p (along (links rs) free ++ flat_map (along (links rs)) others) ≡ 0 = apart (length rs) (links rs) chain (free ∷ others) p sh' m in
    let t : times p (along (links rs) free ++ flat_map (along (links rs)) others) ≡ times p (along (links rs) free) + times p (flat_map (along (links rs)) others) = times-++ p (along (links rs) free) (flat_map (along (links rs)) others) in
    let zo : times p (flat_map (along (links rs)) others) ≡ 0 = omega arith in
    let d : length (slots rs) ≡ length rs + 1 = length-slots rs in
    let n : length rs' ≡ length rs = some-length rs rs' p x s in
    let ep : along (links rs') chain ≡ along (links rs) chain = ap (λ (nx : List ℕ). along nx chain) l in
    let other : (q : ℕ) → q ≢ p → item_at rs' q ≡ item_at rs q = λ q ne. ap (λ (ys : List (Option X)). slice_index_or ys q None) s ∙ some_other (slots rs) p x q ne in
    let ko : map (along (links rs')) others ≡ map (along (links rs)) others = ap (λ (nx : List ℕ). map (along nx) others) l in
    record {
      size = subst (λ (m : ℕ). m < 2 ^ 32) (sym n) small;
      stays = n;
      shared = carried (length rs) (length rs') (links rs) (links rs') (free ∷ chain ∷ others) n l sh;
      places = ep;
      frees = ap (λ (nx : List ℕ). along nx free) l;
      blanks = λ bl q h.
          let h1 : 0 < times q (along (links rs) free) = subst (λ (ps : List ℕ). 0 < times q ps) (ap (λ (nx : List ℕ). along nx free) l) h in
          other q (unmet p q (along (links rs) free) (omega arith) h1) ∙ bl q h1;
      held = ap (map (item_at rs')) ep
          ∙ set-held (item_at rs') (item_at rs) (along (links rs) chain) k p (Some x) (first_once (length rs) (links rs) chain (free ∷ others) sh') e
          (ap (λ (ys : List (Option X)). slice_index_or ys p None) s ∙ some_here (slots rs) p x r.0 (omega arith)) other;
      kept_places = ko;
      kept_held = held_kept (item_at rs') (item_at rs) (links rs) (links rs') others ko (λ q m. other q (unmet p q (flat_map (along (links rs)) others) zo m));
    }

-- ---- as a pool's

pub becomes : {X : Type 0} (before after : Pool X) (c : Chain) (others : List Chain) (ps : List ℕ) (xs : List (Option X)) (fs : List ℕ) → after.blank ≡ before.blank
    → Outcome before.blank before.records.now after.records.now before.free after.free c others ps xs fs → Becomes before after c others ps xs fs
becomes before after c others ps xs fs e o = record {
  divided = record { size = o.size; shared = o.shared };
  size = o.stays;
  stands = o.places;
  holds = o.held;
  free = o.frees;
  kept = record { stand = o.kept_places; hold = o.kept_held };
  blank = e;
  blanked = λ bl p m. o.blanks bl p m ∙ ap Some (sym e);
}

-- a division with one of its chains first
pub leading : {X : Type 0} (pool : Pool X) (c : Chain) (others : List Chain) → Divided pool (c ∷ others)
    → Shared (length pool.records.now) (links pool.records.now) (c ∷ pool.free ∷ others)
leading pool c others d = bring (length pool.records.now) (links pool.records.now) (pool.free ∷ []) c others d.shared

pub outcome : {X : Type 0} (before after : Pool X) (c : Chain) (others : List Chain) (ps : List ℕ) (xs : List (Option X)) (fs : List ℕ) → Becomes before after c others ps xs fs
    → Outcome before.blank before.records.now after.records.now before.free after.free c others ps xs fs
outcome before after c others ps xs fs b = record {
  size = b.divided.size;
  stays = b.size;
  shared = b.divided.shared;
  blanks = λ bl p m. b.blanked bl p m ∙ ap Some b.blank;
  places = b.stands;
  held = b.holds;
  frees = b.free;
  kept_places = b.kept.stand;
  kept_held = b.kept.hold;
}
