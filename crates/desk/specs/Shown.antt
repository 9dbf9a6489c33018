-- Which outcomes can be written as text.
use Rattle.asks.specs.Ranges.{ReplyHasMoment}
use Rattle.desk_state.specs.declared.lanes.Outcome.{Outcome}
use Rattle.desk_state.specs.declared.lanes.Said.{Said}
use Rattle.desk_state.specs.declared.lanes.Said.TheVariants as said

-- a reply whose moments can be shown, or a fault
abbrev pub CanBeSaid : Said → Type 0
CanBeSaid (said.Reply reply) = ReplyHasMoment reply
CanBeSaid (said.Bad fault) = Unit {0}

-- the outcome can be written
abbrev pub IsShown : Outcome → Type 0
IsShown o = CanBeSaid o.said
