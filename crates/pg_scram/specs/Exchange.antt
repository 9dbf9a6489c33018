-- The messages of an exchange by SCRAM-SHA-256 (RFC 5802, RFC 7677), for a client without channel binding.
use Rattle.std.specs.Prelude.{ℕ, ◌+◌, ◌==◌, nat_eq, nat_le, nat_lt, ◌&&◌, Bool, if◌then◌else◌, List, [], ◌∷◌, take, drop, length, Option, None, Some, codes}
use Rattle.std.specs.List.{concat, position, starts_with}
use Rattle.std.specs.Result.{result_ok}
use Rattle.sha2.specs.Sha256.{sha256}
use Rattle.base64.specs.Engines.{standard}
use Rattle.base64.specs.GeneralPurpose.{encode_of, decode_of}
use Rattle.desk_time.specs.Digits.{◌>>=◌}
use Rattle.desk_time.specs.Numbers.{number_in}
use Rattle.pg_scram.specs.Keyed.{hmac, salted, xors}

-- the standard Base64 text of bytes, and the bytes of such a text (RFC 4648, 4)
unfoldable pub base64 : List ℕ → List ℕ
base64 bytes = encode_of standard bytes

unfoldable pub of_base64 : List ℕ → Option (List ℕ)
of_base64 text = result_ok (decode_of standard text)

-- the text after a name and `=`
abbrev pub named : ℕ → List ℕ → Option (List ℕ)
named name [] = None
named name (a ∷ []) = None
named name (a ∷ b ∷ value) = if (a == name) && (b == 61) then Some value else None

-- the text before the first comma, and the text after it
abbrev pub cut : List ℕ → Option (List ℕ × List ℕ)
cut text = position (λ b. b == 44) text >>= λ at. Some (take at text, drop (at + 1) text)

-- an attribute's value, which a comma ends, and the text after the comma
abbrev pub field : ℕ → List ℕ → Option (List ℕ × List ℕ)
field name text = named name text >>= λ value. cut value

abbrev pub before_comma : List ℕ → Option (List ℕ × List ℕ) → List ℕ
before_comma text None = text
before_comma text (Some halves) = halves.0

-- the last attribute that the client reads; extensions may follow it
abbrev pub last_field : ℕ → List ℕ → Option (List ℕ)
last_field name text = named name text >>= λ value. Some (before_comma value (cut value))

-- the nonce of both sides, which begins with the client's and is longer, the salt's text, and the number of rounds
pub record Challenge : Type 0 where
  pub nonce : List ℕ
  pub salt : List ℕ
  pub rounds : ℕ

-- the nonce is the client's with more after it, and there are at least 4,096 rounds, as RFC 7677 asks
abbrev pub is_fit : List ℕ → List ℕ → ℕ → Bool
is_fit nonce both rounds = starts_with nat_eq both nonce && nat_lt (length nonce) (length both) && nat_le 4_096 rounds

-- what the server's first message asks: r=NONCE,s=SALT,i=ROUNDS with up to 1,000,000 rounds
unfoldable pub challenge : List ℕ → List ℕ → Option Challenge
challenge nonce first =
    field 114 first >>= λ one. field 115 one.1 >>= λ two.
    last_field 105 two.1 >>= λ digits. number_in 1_000_000 digits >>= λ rounds.
    if is_fit nonce one.0 rounds then Some (record { nonce = one.0; salt = two.0; rounds = rounds }) else None

-- the client's first message without its header
abbrev pub bare : List ℕ → List ℕ → List ℕ
bare user nonce = concat (codes "n=" ∷ user ∷ codes ",r=" ∷ nonce ∷ [])

-- the client's first message
abbrev pub first_message : List ℕ → List ℕ → List ℕ
first_message user nonce = concat (codes "n,," ∷ bare user nonce ∷ [])

-- the client's last message without its proof
abbrev pub without_proof : List ℕ → List ℕ
without_proof both = concat (codes "c=biws,r=" ∷ both ∷ [])

-- the text that both sides sign
abbrev pub signed : List ℕ → List ℕ → List ℕ → List ℕ → List ℕ
signed user nonce first both = concat (bare user nonce ∷ codes "," ∷ first ∷ codes "," ∷ without_proof both ∷ [])

-- the client's proof under a salted password
abbrev pub proof : List ℕ → List ℕ → List ℕ
proof key text = xors (hmac key (codes "Client Key")) (hmac (sha256 (hmac key (codes "Client Key"))) text)

-- the client's last message
abbrev pub final_message : List ℕ → List ℕ → List ℕ → List ℕ
final_message key text both = concat (without_proof both ∷ codes ",p=" ∷ base64 (proof key text) ∷ [])

-- the server's last message, which only a server can make that knows the password's key
abbrev pub verifier : List ℕ → List ℕ → List ℕ
verifier key text = concat (codes "v=" ∷ base64 (hmac (hmac key (codes "Server Key")) text) ∷ [])

-- the client's last message, and the server's last message that it accepts
pub record Replies : Type 0 where
  pub message : List ℕ
  pub expected : List ℕ

abbrev pub replies_under : List ℕ → List ℕ → List ℕ → Replies
replies_under key text both = record { message = final_message key text both; expected = verifier key text }

-- the same under a login: the user, the password and the client's nonce
unfoldable pub answer_to : List ℕ → List ℕ → List ℕ → List ℕ → Option Replies
answer_to user password nonce first =
    challenge nonce first >>= λ c. of_base64 c.salt >>= λ salt.
    Some (replies_under (salted password salt c.rounds) (signed user nonce first c.nonce) c.nonce)
