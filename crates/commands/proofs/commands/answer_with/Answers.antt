use Rattle.std.proofs.Common.{ap, map, string_bytes}
use Rattle.alerts.specs.Ringing.{hung_all}
use Rattle.commands.proofs.Reading.{between}
use Rattle.commands.proofs.RungLaws.{unrung}
use Rattle.commands.specs.Seen.{lent}
use Rattle.words.specs.Words.{command_of}
use Rattle.commands.proofs.commands.answer_with.Goals as goal

-- memory ran out before the command was known
pub returns-in-Err-clause-rung : goal.returns-in-Err-clause-rung
returns-in-Err-clause-rung g c =
    let ended = c.boardless-ended in
    let shelf = g.S.Shelf.seen c.args.shelf.now in
    unrung (between shelf shelf) (command_of (map string_bytes c.args.words.now)) (lent g.K.Keeper.seen c.args.keeper ended.result.keeper) ended.result.answer ended.result.board _ _ ended.ensures.none (ap (hung_all g.B.Bell.seen) ended.ensures.ringer)
