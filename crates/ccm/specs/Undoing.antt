-- Opening undoes sealing, and what a call leaves in the working bytes.
use Rattle.std.specs.Prelude.{◌≡◌, ℕ, ◌+◌, ◌-◌, ◌<◌, ◌≤◌, ◌⊎◌, List, [], ◌∷◌, ◌++◌, length, take, Some, None, ◌≢◌}
use Rattle.std.proofs.ByRecursion.{All-take}
use Rattle.std.proofs.Common.{sym, ap, ◌∙◌, ⊎_elim, arith}
use Rattle.wire.specs.Numbers.{Bytes}
use Rattle.aes.specs.Keys.{key_expansion}
use Rattle.sha256.specs.Hmac.{signed}
use Rattle.sha256.specs.declared.hmac.HmacKey.{HmacKey}
use Rattle.sealing.specs.Sealing.{Image, Undoes}
use Rattle.sealing.specs.Openings.{undone, opens_tried, none_tried}
use Rattle.ccm.specs.Mode.{sealed, unmasked}
use Rattle.ccm.specs.Scheme.{cipher_for, ccm_image, ccm_opened}
use Rattle.ccm.specs.Masks.{masked-bytes}
use Rattle.ccm.specs.Openings.{length-sealed, unmasked-sealed, length-unmasked}

module _ (secret : HmacKey) where
  abbrev tried : Image
  tried nonce b = unmasked (cipher_for secret nonce) b

  small : (n b : List ℕ) → Bytes b → Bytes (tried n b)
  unfolding cipher_for
  small n b h = masked-bytes (key_expansion (signed secret (n ++ (1 ∷ [])))) (take (length b - 16) b) (All-take (λ z. z < 256) (length b - 16) b h)

  pub ccm_undoes : Undoes (ccm_image secret) (ccm_opened secret)
  ccm_undoes = undone (ccm_image secret) tried (λ n c m h. unmasked-sealed (cipher_for secret n) c) (λ n b m h. small n b h)

  module _ (n b : List ℕ) where
    pub opens_fitting : 16 ≤ length b → length b ≤ 80 → sealed (cipher_for secret n) (tried n b) ≡ b → ccm_opened secret n b ≡ Some (tried n b)
    opens_fitting l m e = opens_tried (ccm_image secret) tried n b e (omega (arith, length-unmasked (cipher_for secret n) b l))

    pub none_of_length : (length b < 16) ⊎ (80 < length b) → ccm_opened secret n b ≡ None
    none_of_length h = none_tried (ccm_image secret) tried n b (λ e l.
        let k : length (tried n b) + 16 ≡ length b = sym (length-sealed (cipher_for secret n) (tried n b)) ∙ ap length e in
        ⊎_elim (λ s. omega arith) (λ s. omega arith) h)

    pub none_fitting : (sealed (cipher_for secret n) (tried n b) ≢ b) → ccm_opened secret n b ≡ None
    none_fitting differ = none_tried (ccm_image secret) tried n b (λ e l. differ e)
