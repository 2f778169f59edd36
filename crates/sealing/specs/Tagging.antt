-- A content and its tag are sealed and opened.
use Rattle.std.specs.Prelude.{◌≡◌, ℕ, ◌+◌, ◌-◌, ◌<◌, ◌≤◌, ◌⊎◌, List, ◌++◌, length, drop, Some, None, ◌≢◌}
use Rattle.std.proofs.Common.{sym, ap, ◌∙◌, ⊎_elim, length-append, length-take, arith}
use Rattle.std.proofs.ByRecursion.{All-take}
use Rattle.std.proofs.lemmas.List.{take_at, drop_at, take-append-drop, length-take-le}
use Rattle.wire.specs.Numbers.{Bytes}
use Rattle.sealing.specs.Sealing.{IsNonce, IsContent, Undoes}
use Rattle.sealing.specs.Tagged.{TagOf, tagged_image, untagged, tagged_opened}
use Rattle.sealing.specs.Openings.{undone, opens_tried, none_tried}

module _ (tag : TagOf) (sixteen : (n c : List ℕ) → IsNonce n → IsContent c → length (tag n c) ≡ 16) where
  pub length_tagged : (n c : List ℕ) → IsNonce n → IsContent c → length (tagged_image tag n c) ≡ length c + 16
  length_tagged n c m h = length-append c (tag n c) ∙ ap (λ z. length c + z) (sixteen n c m h)

  pub tagged_undoes : Undoes (tagged_image tag) (tagged_opened tag)
  tagged_undoes =
      undone (tagged_image tag) (λ n b. untagged b)
      (λ n c m h. let l = length_tagged n c m h in take_at c (tag n c) (length (tagged_image tag n c) - 16) (omega arith))
      (λ n b m h. All-take (λ z. z < 256) (length b - 16) b h)

  -- whether bytes end with the tag of what stands before
  module _ (n b : List ℕ) where
    pub tagged_opens : length b ≤ 80 → drop (length b - 16) b ≡ tag n (untagged b) → tagged_opened tag n b ≡ Some (untagged b)
    tagged_opens m e =
        let s : length (untagged b) ≤ 64 = simp length-take (omega arith) in
        opens_tried (tagged_image tag) (λ n b. untagged b) n b (ap (λ z. untagged b ++ z) (sym e) ∙ take-append-drop (length b - 16) b) s

    pub none_of_length : IsNonce n → Bytes b → (length b < 16) ⊎ (80 < length b) → tagged_opened tag n b ≡ None
    none_of_length m w h =
        none_tried (tagged_image tag) (λ n b. untagged b) n b (λ e l.
        let k : length (tagged_image tag n (untagged b)) ≡ length (untagged b) + 16 = length_tagged n (untagged b) m (All-take (λ z. z < 256) (length b - 16) b w, l) in
        let q = ap length e in
        ⊎_elim (λ s. omega arith) (λ s. omega arith) h)

    pub none_of_tag : (drop (length b - 16) b ≢ tag n (untagged b)) → tagged_opened tag n b ≡ None
    none_of_tag differ =
        none_tried (tagged_image tag) (λ n b. untagged b) n b (λ e l.
        differ (ap (drop (length b - 16)) (sym e) ∙ drop_at (untagged b) (tag n (untagged b)) (length b - 16) (length-take-le (length b - 16) b (omega arith))))
