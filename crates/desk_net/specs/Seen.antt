-- The models of a clock, a link and a door in contracts, and what their calls preserve.
use Rattle.std.specs.Prelude.{ℕ, List, Option}
use Rattle.desk_io.specs.Health.{Health, GoesOn}
use Rattle.desk_net.specs.Clocks.{Dial, DialGoesOn}
use Rattle.desk_net.specs.Doors.{Links, Passed}
use Rattle.desk_net.specs.Streams.{Stream}
use Rattle.desk_net.specs.declared.crossed.Crossed.{Crossed}

-- the model of a clock
pub record ClockSeen : Type 0 where
  -- the moments that it returns and the place of the next one, if they are known
  pub dial : Option Dial
  -- the answers to all calls so far, in order: a moment, or None for a failure
  pub answers : List (Option ℕ)
  pub health : Health

-- the model of a link
pub record LinkSeen : Type 0 where
  -- the whole input, how much of it was read, and what was written, if these are known
  pub stream : Option Stream
  -- what each read returned and each write accepted so far, in order
  pub crossed : List Crossed
  pub health : Health

-- the model of a door
pub record DoorSeen (L : Type 0) : Type 0 where
  -- the links still to come and those given back, if they are known
  pub links : Option (Links L)
  -- the links that it has let in and out so far
  pub passed : Passed L
  -- the port opened last; none before the first
  pub opened_at : Option ℕ
  pub health : Health

-- A clock keeps its moments after each call, and never goes back among them.
pub record ClockGoesOn (old new : ClockSeen) : Type 0 where
  pub dial : DialGoesOn old.dial new.dial
  pub health : GoesOn old.health new.health

abbrev pub LinkGoesOn : LinkSeen → LinkSeen → Type 0
LinkGoesOn old new = GoesOn old.health new.health
