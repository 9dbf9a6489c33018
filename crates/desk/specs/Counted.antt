-- How many plans an answer judges at most: as many as its tick and its call together.
use Rattle.std.specs.Prelude.{ℕ, ◌+◌, nat_lt, Bool, true, false, Option, None, Some}
use Rattle.asks.specs.declared.call.Ask.{Ask}
use Rattle.asks.specs.declared.reply.Reply.{Reply}
use Rattle.desk_state.specs.Counting.{most_judged, most_ticked}
use Rattle.desk_state.specs.State.{State}
use Rattle.desk_state.specs.Step.{tick_to}

-- a call after its tick; if the tick was refused, nothing is judged
abbrev pub most_once_ticked : Option Reply → State → Ask → ℕ
most_once_ticked None s a = most_judged s a
most_once_ticked (Some reply) s a = 0

abbrev pub most_if_late : Bool → ℕ → State → ℕ → Ask → ℕ
most_if_late true lane s at a = most_ticked s at + most_judged (tick_to s lane at).state a
most_if_late false lane s at a = most_judged s a

-- a call of a lane at a moment; if the moment is later than the desk's, its tick judges too
abbrev pub most_answered : ℕ → State → ℕ → Ask → ℕ
most_answered lane s at a = most_if_late (nat_lt s.moment at) lane s at a
