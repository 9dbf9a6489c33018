-- Digests as texts of 64 lower-case hexadecimal digits.
use Rattle.std.specs.Prelude.{◌≡◌, ℕ, Bool, ◌&&◌, ◌||◌, ◌==◌, nat_le, if◌then◌else◌, List, length, Option, None, Some, option_and_then}
use Rattle.std.specs.List.{list_all}
use Rattle.std.specs.Result.{result_ok}
use Rattle.serde_json.specs.Data.{Data, string}
use Rattle.hex.specs.Hex.{decode_sized, encode_lower, IsBytes}
use Rattle.asks.specs.Fields.{text_at}

-- 0 to 9, or a to f
abbrev pub is_small_digit : ℕ → Bool
is_small_digit b = (nat_le 48 b && nat_le b 57) || (nat_le 97 b && nat_le b 102)

abbrev pub are_digits : List ℕ → Bool
are_digits text = (length text == 64) && list_all is_small_digit text

-- the 32 bytes that 64 such digits write; none if the text is anything else
unfoldable pub digest_of : List ℕ → Option (List ℕ)
digest_of text = if are_digits text then result_ok (decode_sized text 32) else None

-- the digest at a key
abbrev pub digest_at : List ℕ → Data → Option (List ℕ)
digest_at key d = option_and_then digest_of (text_at key d)

-- a digest as a JSON string
abbrev pub digest_data : List ℕ → Data
digest_data digest = string (encode_lower digest)

-- 32 bytes
pub record IsDigest (digest : List ℕ) : Type 0 where
  pub long : length digest ≡ 32
  pub bytes : IsBytes digest

-- If the text is the digits of a digest, it is read as this digest.
abbrev pub IsDigestAgain : List ℕ → Option (List ℕ) → Type 0
IsDigestAgain text read = (digest : List ℕ) → IsDigest digest → text ≡ encode_lower digest → read ≡ Some digest
