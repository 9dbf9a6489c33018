-- What goes on through one call of a clock goes on through two.
use Rattle.std.proofs.Common.{refl, ◌∙◌, Option, None, Some, arith}
use Rattle.desk_io.proofs.HealthLaws.{stays, goes_on}
use Rattle.desk_net.specs.Clocks.{Dial, DialGoesOn}
use Rattle.desk_net.specs.Seen.{ClockSeen, ClockGoesOn}

dial_stays : (d : Option Dial) → DialGoesOn d d
dial_stays None = tt
dial_stays (Some d) = (refl, omega arith)

dial_on : (old mid new : Option Dial) → DialGoesOn old mid → DialGoesOn mid new → DialGoesOn old new
dial_on None None None one two = tt
dial_on (Some old) (Some mid) (Some new) one two = (two.0 ∙ one.0, let first = one.1 in let then = two.1 in omega (arith, first, then))
dial_on None None (Some new) one two = absurd two
dial_on None (Some mid) new one two = absurd one
dial_on (Some old) None new one two = absurd one
dial_on (Some old) (Some mid) None one two = absurd two

pub clock_stays : (clock : ClockSeen) → ClockGoesOn clock clock
clock_stays clock = record { dial = dial_stays clock.dial; health = stays clock.health }

pub clock_on : (old mid new : ClockSeen) → ClockGoesOn old mid → ClockGoesOn mid new → ClockGoesOn old new
clock_on old mid new one two = record { dial = dial_on old.dial mid.dial new.dial one.dial two.dial; health = goes_on old.health mid.health new.health one.health two.health }
