-- Schemes that leave the content as it is, and end it with a tag of nonce and content.
use Rattle.std.specs.Prelude.{ℕ, ◌-◌, List, ◌++◌, length, take, Some, None, Option}
use Rattle.answers.specs.Buffers.{fronted}
use Rattle.sealing.specs.declared.TheConstants.{TAG_LEN}
use Rattle.sealing.specs.Sealing.{Image, Opening, open_by}

-- the tag of a nonce and a content
abbrev pub TagOf : Type 0
TagOf = List ℕ → List ℕ → List ℕ

abbrev pub tagged_image : TagOf → Image
tagged_image tag nonce content = content ++ tag nonce content

-- what stands before the tag
abbrev pub untagged : List ℕ → List ℕ
untagged b = take (length b - TAG_LEN) b

abbrev pub tagged_opened : TagOf → Opening
tagged_opened tag = open_by (tagged_image tag) (λ nonce b. untagged b)

-- the working bytes after an open that was not refused: the content in front of what stood there, or all as it was
abbrev pub tagged_left : List ℕ → Option (List ℕ) → List ℕ
tagged_left working (Some content) = fronted content working
tagged_left working None = working
