use Rattle.std.proofs.Common.{ap, map, string_bytes}
use Rattle.alerts.specs.Ringing.{hung_all}
use Rattle.commands.proofs.Reading.{between}
use Rattle.commands.proofs.RungLaws.{none_rung, rung_under}
use Rattle.commands.specs.Seen.{lent}
use Rattle.commands.proofs.commands.read_under.Goals as goal

pub returns-in-Ok-clause-rung : goal.returns-in-Ok-clause-rung
returns-in-Ok-clause-rung g c =
    let ended = c.work_on.result.ended in
    let seen = g.S.Shelf.seen in
    rung_under (seen c.args.shelf.now) (seen c.read_sources.new.shelf) c.args.task (map string_bytes c.args.names.now) c.in-Ok.texts (lent g.K.Keeper.seen c.args.provided.keeper ended.keeper) ended.answer ended.board _ _
    c.in-Ok.ensures c.work_on.ensures.rung

pub returns-in-Err-clause-rung : goal.returns-in-Err-clause-rung
returns-in-Err-clause-rung g c =
    let ended = c.unopened-ended in
    none_rung (between (g.S.Shelf.seen c.args.shelf.now) (g.S.Shelf.seen c.read_sources.new.shelf)) c.args.task (map string_bytes c.args.names.now) (lent g.K.Keeper.seen c.args.provided.keeper ended.result.keeper) ended.result.answer ended.result.board _ _ ended.ensures.none (ap (hung_all g.B.Bell.seen) ended.ensures.ringer)
