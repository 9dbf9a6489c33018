-- How a request is read step by step.
use Rattle.std.specs.Prelude.{◌≡◌, ◌≤◌, ◌<◌, ℕ, List, length, take, drop, Option, Result, MatchResult, Bool, true, false}
use Rattle.httparse.specs.Spans.{IsRequestOf}
use Rattle.httparse.specs.declared.spans.HeaderSpan.{HeaderSpan}
use Rattle.httparse.specs.declared.spans.RequestSpans.{RequestSpans}
use Rattle.desk_net.specs.Seen.{LinkSeen}
use Rattle.desk_net.specs.Streams.{unread}
use Rattle.desk_net.specs.declared.crossed.Crossed.{Crossed}
use Rattle.desk_http.specs.Heads.{head_limit, body_limit}
use Rattle.desk_http.specs.Received.{CameIn, EndedIn}
use Rattle.desk_http.specs.Requests.{Splits, AtEnd, Begins, HasReadBy, StopsBy, NextBy}
use Rattle.desk_http.specs.declared.wire.Asked.{Asked}
use Rattle.desk_http.specs.declared.wire.Wire.{Wire}
use Rattle.desk_http.specs.declared.wire.WireFault.{WireFault}
use Rattle.desk_http.specs.declared.wire.WireFault.TheVariants.{ReadFault, OutOfMemory}

-- what is known of a link's input: the unread bytes, if the stream is known, and the record of what crossed the link
pub record Input : Type 0 where
  pub unread : Option (List ℕ)
  pub crossed : List Crossed

abbrev pub input_of : LinkSeen → Input
input_of link = record { unread = unread link.stream; crossed = link.crossed }

-- these bytes were read, and nothing else crossed the link
pub record IsRead (before : Input) (read : List ℕ) (now : Input) : Type 0 where
  pub stream : Splits before.unread read now.unread
  pub crossed : CameIn before.crossed read now.crossed

-- the last read found the end of the input
pub record FoundEnd (before now : Input) : Type 0 where
  pub stream : AtEnd now.unread
  pub crossed : EndedIn before.crossed now.crossed

-- The kept bytes were extended by bytes that were read.
abbrev pub Grows : Input → Input → List ℕ → List ℕ → Type 0
Grows = HasReadBy IsRead

-- why no request was read
abbrev pub Stops : Input → Input → List ℕ → List ℕ → WireFault → Type 0
Stops = StopsBy IsRead FoundEnd

-- the next request, or why there is none
abbrev pub Nexts : Input → Input → List ℕ → List ℕ → Result Wire WireFault → Type 0
Nexts = NextBy IsRead FoundEnd

-- no byte was read, and the kept bytes are unchanged
abbrev pub ReadsNone : Input → Input → List ℕ → List ℕ → Type 0
ReadsNone before now kept left = (now ≡ before) × (left ≡ kept)

-- at least `count` bytes are kept, or the input has ended
abbrev pub IsUpTo : ℕ → Input → Input → List ℕ → Bool → Type 0
IsUpTo count before now grown true = count ≤ length grown
IsUpTo count before now grown false = (length grown < count) × FoundEnd before now

-- why fewer than `count` bytes are kept: the link failed, or memory ran out
abbrev pub FallsShort : ℕ → List ℕ → WireFault → Type 0
FallsShort count grown ReadFault = length grown < count
FallsShort count grown OutOfMemory = Unit {0}
FallsShort count grown fault = ⊥

-- The places of the parts of a head that was read, within the limit of a head; or why there is none.
abbrev pub ReadsHead : Input → Input → List ℕ → List ℕ → List HeaderSpan → Result RequestSpans WireFault → Type 0
ReadsHead before now kept grown spans result =
    MatchResult result (λ head. Grows before now kept grown × IsRequestOf (take head_limit grown) spans head) (Stops before now kept grown)

-- The kept bytes begin with a head of `start` bytes, which asks for `asked`.
pub record IsBegun (before now : Input) (kept grown : List ℕ) (asked : Asked) (start : ℕ) : Type 0 where
  pub read : Grows before now kept grown
  pub begins : Begins grown asked (drop start grown)
  pub within : start ≤ length grown
  pub short : start ≤ head_limit
  pub few : asked.length ≤ body_limit

-- What a head that was read asks for, and where it ends; or why no request was read.
abbrev pub Begun : Input → Input → List ℕ → List ℕ → Result (Asked × ℕ) WireFault → Type 0
Begun before now kept grown result = MatchResult result (λ p. IsBegun before now kept grown p.0 p.1) (Stops before now kept grown)
