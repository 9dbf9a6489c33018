use Rattle.desk.proofs.Merged.{round_begins}
use Rattle.desk.specs.Seen.{desk_seen}
use Rattle.desk.proofs.round.Round.new.Goals as goal

pub invariant_of-result : goal.invariant_of-result
invariant_of-result g c = round_begins g.J.Beginning.began (desk_seen g.K.Keeper.seen g.B.Bell.seen c.args.desk) c.args.lanes.items c.requires.desk c.requires.items c.requires.fresh
