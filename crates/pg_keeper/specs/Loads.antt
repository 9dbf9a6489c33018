-- The request of a load, and the rows that answer it.
use Rattle.std.specs.Prelude.{◌≡◌, ℕ, ◌==◌, false, if◌then◌else◌, List, [], ◌∷◌, ◌++◌, length, map, codes, Option, None, Some}
use Rattle.std.specs.Int.{w32, w64, to_be_bytes}
use Rattle.desk_io.specs.declared.rows.Row.{Row}
use Rattle.desk_net.specs.declared.crossed.Crossed.{Crossed}
use Rattle.pg_wire.specs.Answers.{Told, HasAnswered, silent, told_by, ready}
use Rattle.pg_wire.specs.Backend.{Message, all_bytes}
use Rattle.pg_wire.specs.Crossing.{came, took}
use Rattle.pg_wire.specs.Frontend.{bind, execute, sync}

-- DataRow of a kind, a key and a body, all in binary
abbrev pub row_head : ℕ → ℕ → ℕ → List ℕ
row_head kind key size =
    (0 ∷ 3 ∷ 0 ∷ 0 ∷ 0 ∷ 2 ∷ 0 ∷ kind ∷ 0 ∷ 0 ∷ 0 ∷ 8 ∷ []) ++ to_be_bytes w64 key ++ to_be_bytes w32 size

abbrev pub row_content : ℕ → ℕ → List ℕ → List ℕ
row_content kind key body = row_head kind key (length body) ++ body

-- the statement `a` returns all rows
unfoldable pub load_request : List ℕ
load_request = bind (97 ∷ []) [] ++ execute ++ sync

-- the contents of the messages that are a DataRow
abbrev pub data_in : List Message → List (List ℕ)
data_in [] = []
data_in (m ∷ messages) = if m.0 == 68 then m.1 ∷ data_in messages else data_in messages

-- the other messages
abbrev pub others_in : List Message → List Message
others_in [] = []
others_in (m ∷ messages) = if m.0 == 68 then others_in messages else m ∷ others_in messages

-- the contents that carry these rows
abbrev pub contents_of : List Row → List (List ℕ)
contents_of rows = map (λ (row : Row). row_content row.kind row.key row.body) rows

-- The server sent exactly these rows, reported no error, and was then ready outside a transaction.
pub record HasSent (before after : List ℕ) (rows : List Row) : Type 0 where
  pub messages : List Message
  pub read : after ≡ before ++ (all_bytes messages ++ ready)
  pub sent : data_in messages ≡ contents_of rows
  pub told : Told
  pub says : told_by silent (others_in messages) ≡ Some told
  pub calm : told.failed ≡ false

-- a content of that size came, which carries one more row
pub record TakesRow (before after : List ℕ) (size : ℕ) (old new : List Row) : Type 0 where
  pub content : List ℕ
  pub read : after ≡ before ++ content
  pub sized : length content ≡ size
  pub more : contents_of new ≡ contents_of old ++ content ∷ []

-- The request was sent, and the server sent these rows.
pub record Loads (old new : List Crossed) (rows : List Row) : Type 0 where
  pub asked : took new ≡ took old ++ load_request
  pub sent : HasSent (came old) (came new) rows

-- the query that limits each later statement to five seconds
abbrev pub limit_request : List ℕ
limit_request = 81 ∷ to_be_bytes w32 33 ++ codes "set statement_timeout = 5000" ++ 0 ∷ []

-- The limit was asked for, and the server did it.
pub record Limits (old new : List Crossed) : Type 0 where
  pub asked : took new ≡ took old ++ limit_request
  pub told : Told
  pub answered : HasAnswered (came old) (came new) told
  pub calm : told.failed ≡ false

-- The same over the link that is open, or over one that was opened for it, whose later statements were then limited.
abbrev pub LoadsOver : Option (List Crossed) → Option (List Crossed) → List Row → Type 0
LoadsOver old None rows = ⊥
LoadsOver None (Some new) rows = (opened loaded : List Crossed) × Loads opened loaded rows × Limits loaded new
LoadsOver (Some old) (Some new) rows = Loads old new rows
