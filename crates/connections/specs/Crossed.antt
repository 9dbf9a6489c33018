-- A connection by the record of what crossed its link, which every link has.
use Rattle.std.specs.Prelude.{◌≡◌, ◌⊎◌, ℕ, List, [], ◌∷◌, ◌++◌, Option, None, Some}
use Rattle.desk_http.specs.Received.{came}
use Rattle.desk_io.specs.Over.{Over}
use Rattle.desk_io.specs.Health.{HasFailed}
use Rattle.desk_net.specs.Seen.{LinkSeen}
use Rattle.desk_net.specs.declared.crossed.Crossed.{Crossed}
use Rattle.desk_net.specs.declared.crossed.Crossed.TheVariants.{Came, Took}
use Rattle.connections.specs.Connections.{GoesOn, IsConnection, Kind, Last}
use Rattle.connections.specs.declared.serving.Served.{Served}
use Rattle.connections.specs.declared.serving.Served.TheVariants as served

-- the bytes that writes accepted, one piece after another
abbrev pub taken : List Crossed → List ℕ
taken [] = []
taken (Came piece ∷ entries) = taken entries
taken (Took piece ∷ entries) = piece ++ taken entries

-- One write accepted the piece. Or nothing crossed, and the piece is empty.
abbrev pub TakesPiece : List Crossed → List Crossed → List ℕ → Type 0
TakesPiece old new piece = (new ≡ old ++ Took piece ∷ []) ⊎ ((new ≡ old) × (piece ≡ []))

-- a write accepted a piece with the property; at most this piece crossed
abbrev pub Takes : List Crossed → List Crossed → (List ℕ → Type 0) → Type 0
Takes old new P = (piece : List ℕ) × TakesPiece old new piece × P piece

-- The link accepted a piece with the property, which may refer to whether the link failed. At most this piece
-- crossed the link.
abbrev pub TookTo : Over LinkSeen → (Type 0 → List ℕ → Type 0) → Type 0
TookTo link P = Takes link.before.crossed link.after.crossed (P (HasFailed link.before.health link.after.health))

-- what crossed has the property
abbrev pub Crosses : List Crossed → List Crossed → (List Crossed → Type 0) → Type 0
Crosses old new P = (entries : List Crossed) × (new ≡ old ++ entries) × P entries

-- What crossed the link has the property, which may refer to whether the link failed.
abbrev pub CrossedTo : Over LinkSeen → (Type 0 → List Crossed → Type 0) → Type 0
CrossedTo link P = Crosses link.before.crossed link.after.crossed (P (HasFailed link.before.health link.after.health))

-- the pieces that reads returned
abbrev pub pieces : List Crossed → List (List ℕ)
pieces [] = []
pieces (Came piece ∷ entries) = piece ∷ pieces entries
pieces (Took piece ∷ entries) = pieces entries

-- the last read found the end of the input: it returned no bytes
abbrev pub FoundEnd : List Crossed → Type 0
FoundEnd entries = (earlier : List (List ℕ)) × (pieces entries ≡ earlier ++ [] ∷ [])

-- The property holds if a connection ended without a last request, or within a request. `more` is the request that
-- ended it.
abbrev pub IfNoMore : {X : Type 0} → Served → List X → Type 0 → Type 0
IfNoMore served.Ended [] P = P
IfNoMore served.Cut more P = P
IfNoMore how more P = Unit {0}

module _ {X : Type 0} (k : Kind X) where
  -- Requests after which the connection stays open, all of them answered: those in the bytes that were kept before and
  -- in the bytes that came. The bytes left are kept, and the responses were taken.
  abbrev pub GoesOnBy : (List X → Last → Type 0) → List ℕ → List ℕ → List Crossed → Type 0
  GoesOnBy goes kept left entries = GoesOn k goes (Some (kept ++ came entries)) (Some left) (taken entries)

  -- A connection up to its end, from bytes that were kept before. No byte that came is unread.
  pub record IsConnectionFrom (goes : List X → Last → Type 0) (link : Type 0) (kept : List ℕ) (how : Served) (entries : List Crossed) : Type 0 where
    pub is : IsConnection k goes link (Some (kept ++ came entries)) (Some []) how (taken entries)
    -- without a last request, or within a request, it ended because the input had ended
    pub read_out : IfNoMore how is.more (FoundEnd entries)

  -- one step of a connection, which stays open or ends
  abbrev pub IsStepBy : (List X → Last → Type 0) → Type 0 → List ℕ → List ℕ → Option Served → List Crossed → Type 0
  IsStepBy goes link kept left None entries = GoesOnBy goes kept left entries
  IsStepBy goes link kept left (Some how) entries = IsConnectionFrom goes link kept how entries

  -- A whole connection: its requests are in the bytes that reads returned, and its responses are what writes accepted.
  abbrev pub IsConnectionBy : (List X → Last → Type 0) → Type 0 → Served → List Crossed → Type 0
  IsConnectionBy goes link how entries = IsConnectionFrom goes link [] how entries
