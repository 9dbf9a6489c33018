-- The requests and responses of an HTTP connection up to its end, whoever answers.
use Rattle.std.specs.Prelude.{◌≡◌, ◌⊎◌, ℕ, Bool, true, false, List, [], ◌∷◌, ◌++◌, codes, Option, None, Some, Result, Ok, Err}
use Rattle.std.specs.List.{AllByRecursion}
use Rattle.desk_http.specs.Requests.{BeginsWithRequest, GivesNone, IsUnfinished}
use Rattle.desk_http.specs.Responses.{response}
use Rattle.desk_http.specs.declared.wire.Wire.{Wire}
use Rattle.desk_http.specs.declared.wire.WireFault.TheVariants as fault
use Rattle.connections.specs.declared.answers.Unanswered.{Unanswered}
use Rattle.connections.specs.declared.answers.Unanswered.TheVariants as why
use Rattle.connections.specs.declared.serving.Served.{Served}
use Rattle.connections.specs.declared.serving.Served.TheVariants as served

-- ---- the responses that end a connection

abbrev pub failing : ℕ → List ℕ → List ℕ
failing status name = response status (codes "{\"error\":\"" ++ name ++ codes "\"}")

abbrev pub bad_head_answer : List ℕ
bad_head_answer = failing 400 (codes "BadHead")

abbrev pub too_large_answer : List ℕ
too_large_answer = failing 413 (codes "TooLarge")

abbrev pub no_length_answer : List ℕ
no_length_answer = failing 411 (codes "NoLength")

abbrev pub wrong_method_answer : List ℕ
wrong_method_answer = failing 405 (codes "WrongMethod")

abbrev pub clock_fault_answer : List ℕ
clock_fault_answer = failing 503 (codes "ClockFault")

abbrev pub out_of_memory_answer : List ℕ
out_of_memory_answer = failing 500 (codes "OutOfMemory")

-- ---- bytes

-- the piece is a prefix of the whole
abbrev pub IsFrontOf : List ℕ → List ℕ → Type 0
IsFrontOf whole piece = (more : List ℕ) × (whole ≡ piece ++ more)

-- memory ran out, and nothing was written
abbrev pub FoundNoMemory : List ℕ → Type 0
FoundNoMemory piece = piece ≡ []

-- The text was written whole, or a prefix of it if the link failed.
abbrev pub IsWritten : Type 0 → List ℕ → List ℕ → Type 0
IsWritten rose text piece = (piece ≡ text) ⊎ (rose × IsFrontOf text piece)

-- if the bytes are known, they have the property
abbrev pub OnTold : Option (List ℕ) → (List ℕ → Type 0) → Type 0
OnTold None P = Unit {0}
OnTold (Some bytes) P = P bytes

-- the bytes and those left of them have the property, if they are known; either both are known or neither
abbrev pub OnBoth : Option (List ℕ) → Option (List ℕ) → (List ℕ → List ℕ → Type 0) → Type 0
OnBoth None None P = Unit {0}
OnBoth (Some bytes) (Some left) P = P bytes left
OnBoth _ _ P = ⊥

-- the bytes read since the last request are no whole request
abbrev pub IsMidRequest : Option (List ℕ) → Option (List ℕ) → Type 0
IsMidRequest left unread = OnBoth left unread (λ bytes others. (kept : List ℕ) × (bytes ≡ kept ++ others) × IsUnfinished kept)

-- ---- answered requests

-- how answering ended: each request was answered, the clock failed at a call, or memory ran out in one
pub data Last : Type 0 where
  Answered : Last
  ClockFailed : Last
  RanOut : Last

-- A kind of requests. An answered request is an `X`, with its request and the text of its response. Some requests are
-- calls.
pub record Kind (X : Type 0) : Type 0 where
  pub wire : X → Wire
  pub text : X → List ℕ
  pub calls : Wire → Bool

module _ {X : Type 0} (k : Kind X) where
  -- the responses, one after another
  abbrev pub responses : List X → List ℕ
  responses [] = []
  responses (x ∷ xs) = k.text x ++ responses xs

  -- the bytes are these requests, and then the bytes left
  abbrev pub AreRequests : List ℕ → List X → List ℕ → Type 0
  AreRequests bytes [] left = left ≡ bytes
  AreRequests bytes (x ∷ xs) left = (rest : List ℕ) × BeginsWithRequest bytes (k.wire x) rest × AreRequests rest xs left

  -- the connection stays open after the request
  abbrev pub IsOpen : X → Type 0
  IsOpen x = (k.wire x).last ≡ false

  -- the bytes begin with a request for a call
  abbrev pub AsksCall : List ℕ → Type 0
  AsksCall bytes = (wire : Wire) × (rest : List ℕ) × BeginsWithRequest bytes wire rest × (k.calls wire ≡ true)

  -- no further request was answered
  abbrev pub NoMore : List X → Last → Type 0
  NoMore more last = (more ≡ []) × (last ≡ Answered)

  -- one further request was answered
  abbrev pub OneMore : List X → Last → X → Type 0
  OneMore more last x = (more ≡ x ∷ []) × (last ≡ Answered)

  -- memory ran out: with no further request answered, within a call that the bytes left ask for, or after one further
  -- request
  abbrev pub MayHaveMore : List X → Last → Option (List ℕ) → Type 0
  MayHaveMore more last left = ((more ≡ []) × ((last ≡ Answered) ⊎ OnTold left AsksCall)) ⊎ ((x : X) × OneMore more last x)

  -- How a connection ends on the bytes left after the requests that kept it open. `more` is the request that ended
  -- it, if that was answered. The piece was written after the earlier responses. `link` states that the link failed,
  -- and `rest` is unread at the end.
  abbrev pub EndsConnection : Type 0 → List X → Last → Option (List ℕ) → Option (List ℕ) → Served → List ℕ → Type 0
  EndsConnection link more last left rest served.Ended piece =
      (NoMore more last × OnTold left (λ b. GivesNone b fault.End) × (piece ≡ []))
      ⊎ ((x : X) × OneMore more last x × ((k.wire x).last ≡ true) × (piece ≡ k.text x))
  EndsConnection link more last left rest served.Cut piece = NoMore more last × OnTold left (λ b. GivesNone b fault.Cut) × (piece ≡ [])
  EndsConnection link more last left rest served.BadHead piece = NoMore more last × OnTold left (λ b. GivesNone b fault.BadHead) × IsWritten link bad_head_answer piece
  EndsConnection link more last left rest served.TooLarge piece = NoMore more last × OnTold left (λ b. GivesNone b fault.TooLarge) × IsWritten link too_large_answer piece
  EndsConnection link more last left rest served.NoLength piece = NoMore more last × OnTold left (λ b. GivesNone b fault.NoLength) × IsWritten link no_length_answer piece
  EndsConnection link more last left rest served.WrongMethod piece = NoMore more last × OnTold left (λ b. GivesNone b fault.WrongMethod) × IsWritten link wrong_method_answer piece
  EndsConnection link more last left rest served.ReadFault piece = NoMore more last × link × IsMidRequest left rest × (piece ≡ [])
  EndsConnection link more last left rest served.WriteFault piece = link × ((x : X) × OneMore more last x × IsFrontOf (k.text x) piece)
  EndsConnection link more last left rest served.ClockFault piece = (more ≡ []) × (last ≡ ClockFailed) × OnTold left AsksCall × IsWritten link clock_fault_answer piece
  EndsConnection link more last left rest served.OutOfMemory piece = MayHaveMore more last left × (IsWritten link out_of_memory_answer piece ⊎ FoundNoMemory piece)

  -- A connection: the requests after which it stayed open, and at most one more that ended it. `goes` states how
  -- these are answered. The text contains the responses to the former, and then the piece written at the end.
  pub record IsConnection (goes : List X → Last → Type 0) (link : Type 0) (bytes rest : Option (List ℕ)) (how : Served) (written : List ℕ) : Type 0 where
    pub xs : List X
    pub more : List X
    pub last : Last
    pub left : Option (List ℕ)
    pub piece : List ℕ
    pub requests : OnBoth bytes left (λ b l. AreRequests b (xs ++ more) l)
    pub going : AllByRecursion IsOpen xs
    pub goes_on : goes (xs ++ more) last
    pub says : written ≡ responses xs ++ piece
    pub ends : EndsConnection link more last left rest how piece

  -- requests after which the connection stays open, all of them answered
  pub record GoesOn (goes : List X → Last → Type 0) (bytes left : Option (List ℕ)) (written : List ℕ) : Type 0 where
    pub xs : List X
    pub requests : OnBoth bytes left (λ b l. AreRequests b xs l)
    pub going : AllByRecursion IsOpen xs
    pub goes_on : goes xs Answered
    pub says : written ≡ responses xs

  -- one step of a connection, which stays open or ends
  abbrev pub IsStep : (List X → Last → Type 0) → Type 0 → Option (List ℕ) → Option (List ℕ) → Option (List ℕ) → Option Served → List ℕ → Type 0
  IsStep goes link bytes left rest None written = GoesOn goes bytes left written
  IsStep goes link bytes left rest (Some how) written = IsConnection goes link bytes rest how written

  -- the response to a request, or why there is none
  abbrev pub Answers : (List X → Last → Type 0) → Wire → Result (List ℕ) Unanswered → Type 0
  Answers goes wire (Ok bytes) = (x : X) × (k.wire x ≡ wire) × (bytes ≡ k.text x) × goes (x ∷ []) Answered
  Answers goes wire (Err why.ClockFault) = (k.calls wire ≡ true) × goes [] ClockFailed
  Answers goes wire (Err why.OutOfMemory) = goes [] Answered ⊎ (((k.calls wire ≡ true) × goes [] RanOut) ⊎ ((x : X) × (k.wire x ≡ wire) × goes (x ∷ []) Answered))
