-- The messages that a server sends, in version 3.0 of PostgreSQL's protocol.
use Rattle.std.specs.Prelude.{◌≡◌, ℕ, ◌+◌, List, [], ◌∷◌, ◌++◌, length, take}
use Rattle.std.specs.List.{flat_map}
use Rattle.std.specs.Int.{w32, to_be_bytes}

-- a message: its tag and its content
abbrev pub Message : Type 0
Message = ℕ × List ℕ

-- the five bytes before a content of that length
abbrev pub head_bytes : ℕ → ℕ → List ℕ
head_bytes tag size = (tag ∷ []) ++ to_be_bytes w32 (size + 4)

abbrev pub message_bytes : Message → List ℕ
message_bytes m = head_bytes m.0 (length m.1) ++ m.1

unfoldable pub all_bytes : List Message → List ℕ
all_bytes messages = flat_map message_bytes messages

-- that many bytes came
abbrev pub Skips : List ℕ → List ℕ → ℕ → Type 0
Skips before after n = (bytes : List ℕ) × (after ≡ before ++ bytes) × (length bytes ≡ n)

-- a content of that size came, and `front` is as much of it as has room
pub record TakesContent (before after : List ℕ) (size room : ℕ) (front : List ℕ) : Type 0 where
  pub content : List ℕ
  pub read : after ≡ before ++ content
  pub sized : length content ≡ size
  pub shown : front ≡ take room content

-- a message of that tag came, and `front` is as much of its content as has room
pub record TakesMessage (before after : List ℕ) (tag room : ℕ) (front : List ℕ) : Type 0 where
  pub content : List ℕ
  pub read : after ≡ before ++ message_bytes (tag, content)
  pub shown : front ≡ take room content
