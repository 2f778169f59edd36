-- The laws of sealing schemes and of tokens.
use Rattle.std.specs.Prelude.{◌≡◌, ℕ, ◌+◌, ◌<◌, List, length, Ok}
use Rattle.wire.specs.declared.types.TokenPayload.{TokenPayload}
use Rattle.wire.specs.Numbers.{Bytes}
use Rattle.wire.specs.Content.{encode_content}
use Rattle.wire.specs.Laws.{Sound}
use Rattle.sealing.specs.Sealing.{Image, Opening, IsNonce, IsContent, Undoes}
use Rattle.sealing.specs.Tokens.{nonce_of, low_of, sealed_with, token_for, says}

-- under one nonce, no two contents have one image
abbrev pub NoTwoContentsHaveOneImage : Image → Type 0
NoTwoContentsHaveOneImage image = (n c d : List ℕ) → IsNonce n → IsContent c → IsContent d → image n c ≡ image n d → c ≡ d

-- two openings that undo one image open the same
abbrev pub AnImageFixesWhatOpens : Type 0
AnImageFixesWhatOpens = (image : Image) (o o' : Opening) → Undoes image o → Undoes image o' → (n b : List ℕ) → IsNonce n → Bytes b → o n b ≡ o' n b

-- a token that is written of a content says that content, and has the low half of its nonce
pub record SaysItsContent (image : Image) (opened : Opening) (low high : ℕ) (content : TokenPayload) : Type 0 where
  pub said : says opened (token_for image low high content) ≡ Ok content
  pub half : low_of (token_for image low high content) ≡ low
  pub long : length (token_for image low high content) ≡ length (encode_content content) + 32

abbrev pub AWrittenTokenSaysItsContent : Image → Opening → Type 0
AWrittenTokenSaysItsContent image opened =
    (low high : ℕ) (content : TokenPayload) → low < 18446744073709551616 → Sound content → SaysItsContent image opened low high content

-- a token that says a content is the one that is written of that content, under the nonce that ends it
abbrev pub OnlyWhatIsSealedIsRead : Image → Opening → Type 0
OnlyWhatIsSealedIsRead image opened =
    (t : List ℕ) (content : TokenPayload) → Bytes t → says opened t ≡ Ok content → (t ≡ sealed_with image (nonce_of t) content) × Sound content
