-- The messages that a client sends, in version 3.0 of PostgreSQL's protocol.
use Rattle.std.specs.Prelude.{ℕ, ◌+◌, List, [], ◌∷◌, ◌++◌, length, map, codes}
use Rattle.std.specs.List.{concat}
use Rattle.std.specs.Int.{w16, w32, to_be_bytes}

-- a message after its tag: the length of all of this, and the content
abbrev pub sized : List ℕ → List ℕ
sized content = to_be_bytes w32 (length content + 4) ++ content

-- a tag, and the content after its length
abbrev pub message : ℕ → List ℕ → List ℕ
message tag content = (tag ∷ []) ++ to_be_bytes w32 (length content + 4) ++ content

-- a value of a row or of a parameter: its length and its bytes
abbrev pub value_bytes : List ℕ → List ℕ
value_bytes value = to_be_bytes w32 (length value) ++ value

-- Bind: the unnamed portal, a named statement, all parameters and all results in binary
abbrev pub bind_content : List ℕ → List (List ℕ) → List ℕ
bind_content statement values =
    (0 ∷ []) ++ statement ++ (0 ∷ 0 ∷ 1 ∷ 0 ∷ 1 ∷ []) ++ to_be_bytes w16 (length values)
    ++ concat (map value_bytes values) ++ (0 ∷ 1 ∷ 0 ∷ 1 ∷ [])

unfoldable pub bind : List ℕ → List (List ℕ) → List ℕ
bind statement values = message 66 (bind_content statement values)

-- Execute: the unnamed portal, all its rows
abbrev pub execute : List ℕ
execute = 69 ∷ 0 ∷ 0 ∷ 0 ∷ 9 ∷ 0 ∷ 0 ∷ 0 ∷ 0 ∷ 0 ∷ []

-- Sync: the end of a transaction that no BEGIN opened
abbrev pub sync : List ℕ
sync = 83 ∷ 0 ∷ 0 ∷ 0 ∷ 4 ∷ []

-- Parse: a statement under a name, with the types of its parameters
abbrev pub parse_content : List ℕ → List ℕ → List ℕ → List ℕ
parse_content name sql types =
    name ++ (0 ∷ []) ++ sql ++ (0 ∷ []) ++ to_be_bytes w16 (length types) ++ concat (map (to_be_bytes w32) types)

unfoldable pub parse : List ℕ → List ℕ → List ℕ → List ℕ
parse name sql types = message 80 (parse_content name sql types)

-- Query: statements without parameters
unfoldable pub query : List ℕ → List ℕ
query sql = message 81 (sql ++ 0 ∷ [])

-- a setting of the startup message
abbrev pub setting : List ℕ → List ℕ → List ℕ
setting name value = concat (name ∷ (0 ∷ []) ∷ value ∷ (0 ∷ []) ∷ [])

-- StartupMessage: version 3.0, and the settings
unfoldable pub startup : List ℕ → List ℕ
startup settings = sized ((0 ∷ 3 ∷ 0 ∷ 0 ∷ []) ++ settings ++ 0 ∷ [])

-- SASLInitialResponse: the mechanism, and the client's first message
unfoldable pub sasl_first : List ℕ → List ℕ
sasl_first first = message 112 (codes "SCRAM-SHA-256" ++ (0 ∷ []) ++ value_bytes first)

-- SASLResponse: the client's last message
unfoldable pub sasl_last : List ℕ → List ℕ
sasl_last last = message 112 last
