-- A connection answered request by request over a desk that isn't shared.
use Rattle.std.specs.Prelude.{◌≡◌, ℕ, false, List, [], ◌∷◌, map, Option}
use Rattle.connections.specs.Connections.{Answered, ClockFailed, IsConnection, IsStep, Last, RanOut}
use Rattle.connections.specs.Writing.{WroteTo}
use Rattle.connections.specs.declared.serving.Served.{Served}
use Rattle.desk.specs.Keeping.{Counted}
use Rattle.desk.specs.Seen.{DeskAt}
use Rattle.desk.specs.Settled.{MayHaveTicked}
use Rattle.desk_http.specs.Requests.{unused}
use Rattle.desk_io.specs.Health.{HasFailed}
use Rattle.desk_io.specs.Over.{Over}
use Rattle.desk_net.specs.Clocks.{Dial, StandsAt, turned}
use Rattle.desk_net.specs.Seen.{ClockSeen, LinkSeen}
use Rattle.desk_net.specs.Streams.{unread}
use Rattle.desk_state.specs.State.{State}
use Rattle.desk_time.specs.Limits.{IsMoment}
use Rattle.service.specs.Connections.{Exchange, exchange, in_lane}
use Rattle.service.specs.Requested.{requested_by}
use Rattle.service.specs.declared.requested.Requested.{Requested}
use Rattle.service.specs.declared.requested.Requested.TheVariants as requested

-- the property holds if the request is a call
abbrev pub OnCall : Requested → Type 0 → Type 0
OnCall (requested.Call call) P = P
OnCall (requested.Bad fault) P = Unit {0}
OnCall requested.NoRoute P = Unit {0}
OnCall requested.WrongMethod P = Unit {0}

-- the moment at which the clock stands, within the desk's range
abbrev pub IsClockMoment : Option Dial → ℕ → Type 0
IsClockMoment dial at = IsMoment at × StandsAt dial at

-- the clock's dial after a request: a call advances it, and nothing else does
abbrev pub dial_after_one : Requested → Option Dial → Option Dial
dial_after_one (requested.Call call) dial = turned dial
dial_after_one (requested.Bad fault) dial = dial
dial_after_one requested.NoRoute dial = dial
dial_after_one requested.WrongMethod dial = dial

-- nothing was done: the clock's dial and the state are unchanged
abbrev pub NothingCame : Option Dial → Option Dial → State → State → Type 0
NothingCame early late s t = (late ≡ early) × (t ≡ s)

-- the clock returned a moment for a call, and at most the tick to it was made
abbrev pub HasMoment : ℕ → Option Dial → Option Dial → State → State → Type 0
HasMoment lane early late s t = (late ≡ turned early) × ((at : ℕ) × IsClockMoment early at × MayHaveTicked lane at s t)

-- What was done after the last answer: nothing, apart from a clock that failed; or a part of a call, if memory ran
-- out.
abbrev pub Leaves : ℕ → Option Dial → Option Dial → Type 0 → State → State → Last → Type 0
Leaves lane early late clock s t Answered = NothingCame early late s t
Leaves lane early late clock s t ClockFailed = clock × NothingCame early late s t
Leaves lane early late clock s t RanOut = HasMoment lane early late s t

-- Requests lead from state `s` to state `t`, while the clock's dial goes from `early` to `late`. Each begins in the
-- state that the one before left. A call is made at the moment at which the clock then stands. `clock` states that
-- the clock failed.
abbrev pub ComeTo : ℕ → Option Dial → Option Dial → Type 0 → State → State → List Exchange → Last → Type 0
ComeTo lane early late clock s t [] last = Leaves lane early late clock s t last
ComeTo lane early late clock s t (x ∷ xs) last =
    (x.from ≡ s) × OnCall (requested_by x.wire) (IsClockMoment early x.turn.at)
    × ComeTo lane (dial_after_one (requested_by x.wire) early) late clock (exchange false lane x).state t xs last

-- The requests of a lane were answered one after another, under choices that the keeper's counts allow.
pub record GoesAlone (lane : ℕ) (early late : ClockSeen) (before after : ℕ) (s t : State) (xs : List Exchange) (last : Last) : Type 0 where
  pub counted : Counted before (map (λ x. x.turn.choice) xs) after
  pub come : ComeTo lane early.dial late.dial (HasFailed early.health late.health) s t xs last

-- ---- over the models of a link, of the clock and of the desk

abbrev pub GoesOver : ℕ → Over ClockSeen → Over DeskAt → List Exchange → Last → Type 0
GoesOver lane clock desk = GoesAlone lane clock.before clock.after desk.before.kept.faults desk.after.kept.faults desk.before.state desk.after.state

-- one step of a connection, with the bytes unused before it and the bytes left after it
abbrev pub ServesStep : ℕ → Over LinkSeen → Over ClockSeen → Over DeskAt → List ℕ → List ℕ → Option Served → Type 0
ServesStep lane link clock desk kept left result =
    WroteTo link
    (λ failed. IsStep (in_lane false lane) (GoesOver lane clock desk) failed (unused kept (unread link.before.stream)) (unused left (unread link.after.stream)) (unread link.after.stream) result)

-- a whole connection
abbrev pub ServesLink : ℕ → Over LinkSeen → Over ClockSeen → Over DeskAt → Served → Type 0
ServesLink lane link clock desk result =
    WroteTo link (λ failed. IsConnection (in_lane false lane) (GoesOver lane clock desk) failed (unread link.before.stream) (unread link.after.stream) result)
