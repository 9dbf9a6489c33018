use Rattle.alerts.specs.Ringing.{hung_all}
use Rattle.desk.specs.Seen.{desk_seen}
use Rattle.scripts.proofs.Looping.{AreAnsweredTo}
use Rattle.scripts.proofs.shifts.replies_to.Given as goal

abbrev pub invariant-loop-line : goal.invariant-loop-line
invariant-loop-line g l =
    AreAnsweredTo l.line-index l.lines (desk_seen g.K.Keeper.seen g.B.Bell.seen l.fn.desk) (desk_seen g.K.Keeper.seen g.B.Bell.seen l.desk) (hung_all g.B.Bell.seen l.fn.ringer) (hung_all g.B.Bell.seen l.ringer) l.fn.roster l.roster l.out.items
