-- The requests in a stream of bytes, and how a stream ends that contains no further one.
use Rattle.std.specs.Prelude.{◌≡◌, ◌≢◌, ◌≤◌, ◌<◌, ◌⊎◌, ℕ, List, [], ◌++◌, length, take, Option, Some, None, Result, Ok, Err, MatchResult}
use Rattle.httparse.specs.Grammar.{RequestHead, print_request, ReadsRequest, HasNoRequest, NeverHasRequest}
use Rattle.desk_net.specs.declared.crossed.Crossed.{Crossed}
use Rattle.desk_http.specs.Heads.{head_limit, asks}
use Rattle.desk_http.specs.Received.{CameIn, EndedIn}
use Rattle.desk_http.specs.declared.wire.Asked.{Asked}
use Rattle.desk_http.specs.declared.wire.Wire.{Wire}
use Rattle.desk_http.specs.declared.wire.WireFault.{WireFault}
use Rattle.desk_http.specs.declared.wire.WireFault.TheVariants.{End, Cut, BadHead, TooLarge, NoLength, WrongMethod, ReadFault, OutOfMemory}

-- The bytes `read` were read from the unread ones, and the others are still unread, if the stream is known.
abbrev pub Splits : Option (List ℕ) → List ℕ → Option (List ℕ) → Type 0
Splits None read None = Unit {0}
Splits (Some before) read (Some now) = before ≡ read ++ now
Splits None read (Some now) = ⊥
Splits (Some before) read None = ⊥

-- nothing is unread, or the stream is unknown
abbrev pub AtEnd : Option (List ℕ) → Type 0
AtEnd None = Unit {0}
AtEnd (Some unread) = unread ≡ []

-- the bytes begin with a head within the limit, and `others` follow
pub record HasHead (bytes : List ℕ) (head : RequestHead) (others : List ℕ) : Type 0 where
  pub reads : ReadsRequest bytes head others
  pub short : length (print_request head) ≤ head_limit

-- the request of a head that was checked and of a body
abbrev pub wire_of : Asked → List ℕ → Wire
wire_of asked body = record {
  get = asked.get;
  path = asked.path;
  actor = asked.actor;
  key = asked.key;
  body = body;
  last = asked.last;
}

-- the bytes begin with a head that asks for `asked`, and `others` follow
abbrev pub Begins : List ℕ → Asked → List ℕ → Type 0
Begins bytes asked others = (head : RequestHead) × HasHead bytes head others × (asks head ≡ Ok asked)

-- the bytes are a request, and then `others`
pub record BeginsWithRequest (bytes : List ℕ) (wire : Wire) (others : List ℕ) : Type 0 where
  pub asked : Asked
  pub begins : Begins bytes asked (wire.body ++ others)
  pub whole : length wire.body ≡ asked.length
  pub wire_is : wire ≡ wire_of asked wire.body

-- the bytes begin with a head that is refused
abbrev pub IsRefused : List ℕ → WireFault → Type 0
IsRefused bytes fault = (head : RequestHead) × (others : List ℕ) × HasHead bytes head others × (asks head ≡ Err fault)

-- there are bytes, fewer than the limit of a head, and they contain no whole head
abbrev pub IsPartOfHead : List ℕ → Type 0
IsPartOfHead bytes = (bytes ≢ []) × HasNoRequest bytes × (length bytes < head_limit)

-- the bytes are a head, and fewer bytes than its body has
abbrev pub IsPartOfBody : List ℕ → Type 0
IsPartOfBody bytes = (asked : Asked) × (body : List ℕ) × Begins bytes asked body × (length body < asked.length)

-- the bytes end before a whole head or before a whole body
abbrev pub IsPart : List ℕ → Type 0
IsPart bytes = IsPartOfHead bytes ⊎ IsPartOfBody bytes

-- there are no bytes, or they end before a whole head or before a whole body
abbrev pub IsUnfinished : List ℕ → Type 0
IsUnfinished bytes = (bytes ≡ []) ⊎ IsPart bytes

-- there are at least as many bytes as the limit of a head, and the first ones contain no whole head
abbrev pub IsTooLong : List ℕ → Type 0
IsTooLong bytes = (head_limit ≤ length bytes) × HasNoRequest (take head_limit bytes)

-- Why the bytes give no request, if no others follow or those don't matter. `ReadFault` and `OutOfMemory` imply
-- nothing about the bytes.
abbrev pub GivesNone : List ℕ → WireFault → Type 0
GivesNone bytes End = bytes ≡ []
GivesNone bytes Cut = IsPart bytes
GivesNone bytes BadHead = NeverHasRequest bytes
GivesNone bytes TooLarge = IsTooLong bytes ⊎ IsRefused bytes TooLarge
GivesNone bytes NoLength = IsRefused bytes NoLength
GivesNone bytes WrongMethod = IsRefused bytes WrongMethod
GivesNone bytes ReadFault = Unit {0}
GivesNone bytes OutOfMemory = Unit {0}

-- What was read between two moments, however it is known. `Split` states that these bytes were read, and `Ended` that
-- the last read found the end of the input.
module _ {S : Type 0} (Split : S → List ℕ → S → Type 0) where
  -- The kept bytes were extended by bytes that were read.
  abbrev pub HasReadBy : S → S → List ℕ → List ℕ → Type 0
  HasReadBy before now kept grown = (read : List ℕ) × (grown ≡ kept ++ read) × Split before read now

  module _ (Ended : S → S → Type 0) where
    -- Why the bytes that were read give no request. At `End` and `Cut` the input has ended. If the link failed, the
    -- bytes are no whole request. `OutOfMemory` implies nothing about them.
    abbrev pub FaultsBy : S → S → List ℕ → WireFault → Type 0
    FaultsBy before now bytes End = GivesNone bytes End × Ended before now
    FaultsBy before now bytes Cut = GivesNone bytes Cut × Ended before now
    FaultsBy before now bytes ReadFault = IsUnfinished bytes
    FaultsBy before now bytes fault = GivesNone bytes fault

    -- why no request was read
    abbrev pub StopsBy : S → S → List ℕ → List ℕ → WireFault → Type 0
    StopsBy before now kept left fault = HasReadBy before now kept left × FaultsBy before now left fault

    -- The first request in the kept bytes and those that were read, after which the other bytes are kept; or why there
    -- is none.
    abbrev pub NextBy : S → S → List ℕ → List ℕ → Result Wire WireFault → Type 0
    NextBy before now kept left result =
        MatchResult result (λ wire. (bytes : List ℕ) × HasReadBy before now kept bytes × BeginsWithRequest bytes wire left) (StopsBy before now kept left)

-- The kept bytes were extended by bytes that were read from the stream, if it is known.
abbrev pub HasRead : Option (List ℕ) → Option (List ℕ) → List ℕ → List ℕ → Type 0
HasRead = HasReadBy Splits

-- why no request was read from the stream
abbrev pub EndsBy : Option (List ℕ) → Option (List ℕ) → List ℕ → List ℕ → WireFault → Type 0
EndsBy = StopsBy Splits (λ _ now. AtEnd now)

-- The next request of the stream. What is said of the bytes read binds if the stream is known.
abbrev pub NextRequest : Option (List ℕ) → Option (List ℕ) → List ℕ → List ℕ → Result Wire WireFault → Type 0
NextRequest = NextBy Splits (λ _ now. AtEnd now)

-- The next request by the record of what crossed the link: nothing did but pieces that reads returned, and their
-- bytes are those that were read. At `End` and `Cut` the last piece is the empty one.
abbrev pub NextCrossed : List Crossed → List Crossed → List ℕ → List ℕ → Result Wire WireFault → Type 0
NextCrossed = NextBy CameIn EndedIn

-- a fault of the link, or out of memory
abbrev pub IsOutside : WireFault → Type 0
IsOutside ReadFault = Unit {0}
IsOutside OutOfMemory = Unit {0}
IsOutside fault = ⊥

-- the kept bytes, and then the unread ones, if the stream is known
abbrev pub unused : List ℕ → Option (List ℕ) → Option (List ℕ)
unused kept None = None
unused kept (Some unread) = Some (kept ++ unread)

-- The bytes are the first request and then `others`, or they give none.
abbrev pub GivesRequest : List ℕ → List ℕ → Result Wire WireFault → Type 0
GivesRequest bytes others result = MatchResult result (λ wire. BeginsWithRequest bytes wire others) (GivesNone bytes)

-- the result is this request or one of these faults, unless the link failed or memory ran out
abbrev pub IsOneOf : (Wire → Type 0) → (WireFault → Type 0) → Result Wire WireFault → Type 0
IsOneOf request faults result = MatchResult result request (λ fault. IsOutside fault ⊎ faults fault)

-- The result for the bytes, which leaves `others`. Each kind of bytes has one result, with an exception: bytes that
-- can't become a head may be refused as soon as this is seen.
pub record AnswersBytes (bytes others : List ℕ) (result : Result Wire WireFault) : Type 0 where
  pub gives : GivesRequest bytes others result
  pub request : (wire : Wire) (rest : List ℕ) → BeginsWithRequest bytes wire rest → IsOneOf (λ w. (w ≡ wire) × (others ≡ rest)) (λ _. ⊥) result
  pub refused : (fault : WireFault) → IsRefused bytes fault → IsOneOf (λ _. ⊥) (λ f. f ≡ fault) result
  pub empty : bytes ≡ [] → IsOneOf (λ _. ⊥) (λ f. f ≡ End) result
  pub in_head : IsPartOfHead bytes → IsOneOf (λ _. ⊥) (λ f. (f ≡ Cut) ⊎ (f ≡ BadHead)) result
  pub in_body : IsPartOfBody bytes → IsOneOf (λ _. ⊥) (λ f. f ≡ Cut) result
  pub too_long : IsTooLong bytes → IsOneOf (λ _. ⊥) (λ f. (f ≡ TooLarge) ⊎ (f ≡ BadHead)) result

-- the result for the unused bytes, and the bytes that it leaves, if the stream is known
abbrev pub AnswersUnused : Option (List ℕ) → Option (List ℕ) → Result Wire WireFault → Type 0
AnswersUnused None None result = Unit {0}
AnswersUnused (Some bytes) (Some others) result = AnswersBytes bytes others result
AnswersUnused _ _ result = ⊥
