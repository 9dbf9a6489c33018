use Rattle.desk.specs.Seen.{desk_seen}
use Rattle.service.proofs.SharedLaws.{opened_since}
use Rattle.service.proofs.shared.Shared.new.Goals as goal

pub invariant_of-result : goal.invariant_of-result
invariant_of-result g c =
    opened_since g.A.Opened.desk (desk_seen g.K.Keeper.seen g.B.Bell.seen c.args.desk) g.A.Opened.clock (g.C.Clock.seen c.args.clock) c.new.result c.requires.desk c.requires.clock
    c.new.ensures c.requires.opened c.requires.none
