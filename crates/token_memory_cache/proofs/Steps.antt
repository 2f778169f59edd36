-- What a call does to a cache is a step of a store.
use Rattle.std.proofs.Common.{◌≡◌, ℕ, ◌≤◌, length, Some, None, Ok, Option, sym, subst, ◌∙◌}
use Rattle.answers.specs.Buffers.{fronted}
use Rattle.token_store.specs.Store.{Bytes, Stores, Takes}
use Rattle.token_memory_cache.specs.Cache.{holding, stored}
use Rattle.token_memory_cache.specs.Orders.{Within, first}
use Rattle.token_memory_cache.specs.declared.shelf.Shelf.{Shelf}
use Rattle.token_memory_cache.specs.Shelves.{entries, Sound, Took}
use Rattle.token_memory_cache.proofs.Caches.{lists_are_a_store}

pub inserts : (names tokens : ℕ) (n t : Bytes) (s s' : Shelf) → Sound names tokens s → length n ≤ 255 → length t ≤ 512
    → entries s' ≡ stored names tokens n t (entries s) → Stores n t (holding (entries s)) (holding (entries s')) (Ok tt)
inserts names tokens n t s s' h a b e =
    subst (λ es. Stores n t (holding (entries s)) (holding es) (Ok tt)) (sym e) ((lists_are_a_store first names tokens (entries s) (λ k z. z) h.kept).stores n t a b)

module _ (p : ℕ → ℕ) (w : Within p) (names tokens : ℕ) (n out : Bytes) (s s' : Shelf) (r : Option Bytes) (h : Sound names tokens s) (a : 512 ≤ length out) (b : length n ≤ 255) (k : Took p names tokens n s s' r) where
  pub takes_none : r ≡ None → Takes n out out (holding (entries s)) (holding (entries s')) (Ok None)
  takes_none e =
      subst (λ es. Takes n out out (holding (entries s)) (holding es) (Ok None)) (sym k.left) ((lists_are_a_store p names tokens (entries s) w h.kept).none n out a b (sym k.answer ∙ e))

  pub takes_some : (t : Bytes) → r ≡ Some t → Takes n out (fronted t out) (holding (entries s)) (holding (entries s')) (Ok (Some (length t)))
  takes_some t e =
      subst (λ es. Takes n out (fronted t out) (holding (entries s)) (holding es) (Ok (Some (length t)))) (sym k.left)
      ((lists_are_a_store p names tokens (entries s) w h.kept).hands n t out a b (sym k.answer ∙ e))
