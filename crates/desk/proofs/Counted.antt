-- An answer judges no more plans than its tick and its call together.
use Rattle.std.proofs.Common.{◌≡◌, ℕ, ◌+◌, ◌≤◌, Bool, true, false, Option, None, Some, ap, arith}
use Rattle.asks.specs.declared.call.Ask.{Ask}
use Rattle.asks.specs.declared.reply.Reply.{Reply}
use Rattle.desk_state.specs.Counting.{most_judged, most_ticked}
use Rattle.desk_state.specs.State.{State}
use Rattle.desk_state.specs.Step.{Stepped, tick_to}
use Rattle.desk.specs.Counted.{most_once_ticked}
use Rattle.desk.specs.Keeping.{adds, unkept_if, ticked_with}

-- a tick that wasn't refused led where a tick leads
kept_by : (b : Bool) (n : ℕ) (s u : State) (t : Stepped) (a : Ask) → None ≡ (unkept_if b n s t).reply → u ≡ (unkept_if b n s t).state → most_judged u a ≤ most_judged t.state a
kept_by true n s u t a none is = absurd (cc)
kept_by false n s u t a none is = let same = ap (λ (x : State). most_judged x a) is in omega (arith, same)

led : (fault : Option ℕ) (lane at : ℕ) (s u : State) (a : Ask) → None ≡ (ticked_with fault lane s at).reply → u ≡ (ticked_with fault lane s at).state
    → most_judged u a ≤ most_judged (tick_to s lane at).state a
led None lane at s u a none is = let same = ap (λ (x : State). most_judged x a) is in omega (arith, same)
led (Some n) lane at s u a none is = kept_by (adds s (tick_to s lane at)) n s u (tick_to s lane at) a none is

once_led : (fault : Option ℕ) (lane at : ℕ) (s u : State) (reply : Option Reply) (a : Ask) → reply ≡ (ticked_with fault lane s at).reply → u ≡ (ticked_with fault lane s at).state
    → most_once_ticked reply u a ≤ most_judged (tick_to s lane at).state a
once_led fault lane at s u None a told is = led fault lane at s u a told is
once_led fault lane at s u (Some reply) a told is = omega arith

-- the tick, and then the call
pub late_counted : (fault : Option ℕ) (lane at : ℕ) (s u : State) (reply : Option Reply) (a : Ask) (first middle last : ℕ) → reply ≡ (ticked_with fault lane s at).reply
    → u ≡ (ticked_with fault lane s at).state → middle ≤ first + most_ticked s at → last ≤ middle + most_once_ticked reply u a
    → last ≤ first + (most_ticked s at + most_judged (tick_to s lane at).state a)
late_counted fault lane at s u reply a first middle last told is one two = let call = once_led fault lane at s u reply a told is in omega (arith, one, two, call)
