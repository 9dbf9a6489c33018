use Rattle.std.proofs.Common.{ap, map, string_bytes}
use Rattle.std.specs.Prelude.{Ok}
use Rattle.alerts.specs.Ringing.{hung_all}
use Rattle.commands.proofs.Reading.{between, sources_earlier}
use Rattle.commands.proofs.RungLaws.{none_rung, rung_from}
use Rattle.commands.specs.Seen.{lent}
use Rattle.commands.proofs.commands.on_desk.Goals as goal

pub returns-in-Ok-clause-done : goal.returns-in-Ok-clause-done
returns-in-Ok-clause-done g c =
    let read = c.in-Ok.ensures in
    let under = c.read_under.ensures.works in
    let seen = g.S.Shelf.seen in (
      (seen c.read_files.new.shelf).reads,
      (
        Ok c.in-Ok.tables,
        read.read,
        (
          under.0,
          sources_earlier (seen c.args.shelf.now) (seen c.read_files.new.shelf) (seen c.read_under.new.shelf) read.on.sources read.on.health.later (λ is. (read.on.health.sound is).0) _ under.0 under.1,
          under.2,
        ),
      ),
    )

pub returns-in-Ok-clause-rung : goal.returns-in-Ok-clause-rung
returns-in-Ok-clause-rung g c =
    let ended = c.read_under.result.ended in
    let seen = g.S.Shelf.seen in
    rung_from (seen c.args.shelf.now) (seen c.read_files.new.shelf) (seen c.read_under.new.shelf) c.args.task (map string_bytes c.args.names.now) (lent g.K.Keeper.seen c.args.keeper ended.keeper) ended.answer ended.board _ _
    c.in-Ok.ensures.on.sources c.read_under.ensures.rung

pub returns-in-Err-clause-rung : goal.returns-in-Err-clause-rung
returns-in-Err-clause-rung g c =
    let ended = c.boardless-ended in
    none_rung (between (g.S.Shelf.seen c.args.shelf.now) (g.S.Shelf.seen c.read_files.new.shelf)) c.args.task (map string_bytes c.args.names.now) (lent g.K.Keeper.seen c.args.keeper ended.result.keeper) ended.result.answer ended.result.board _ _ ended.ensures.none (ap (hung_all g.B.Bell.seen) ended.ensures.ringer)
