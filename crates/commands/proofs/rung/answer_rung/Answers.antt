use Rattle.std.proofs.Common.{map, ap, string_bytes, subst, ◌∙◌}
use Rattle.alerts.specs.Ringing.{dropped_seen, fresh_from, hung_all}
use Rattle.commands.proofs.Reading.{between}
use Rattle.commands.proofs.RungLaws.{all_stay, none_leaves, nothing_rung}
use Rattle.commands.specs.Bells.{AreRungAfter}
use Rattle.commands.specs.Seen.{lent}
use Rattle.desk_io.specs.Over.{over}
use Rattle.words.specs.Words.{command_of}
use Rattle.commands.proofs.rung.answer_rung.Goals as goal

pub returns-in-Ok-clause-bells : goal.returns-in-Ok-clause-bells
returns-in-Ok-clause-bells g c =
    let said = c.answer_to-ended in
    let heard = g.B.Bell.seen in
    let now = hung_all heard said.result.ended.ringer in
    record {
      hung = now;
      rung = subst (λ before. AreRungAfter (over g.S.Shelf.seen c.args.shelf.now said.new.shelf) (command_of (map string_bytes c.args.words.now)) (lent g.K.Keeper.seen c.args.keeper said.result.ended.keeper) said.result.ended.answer said.result.ended.board before now) c.in-Ok.ensures.ok said.ensures.rung;
      stay = c.finish-bells.ensures.bells;
      leave = c.finish-bells.ensures.dropped;
    }

pub returns-in-Err-clause-bells : goal.returns-in-Err-clause-bells
returns-in-Err-clause-bells g c =
    let heard = g.B.Bell.seen in
    let given = map heard c.args.bells.items in
    record {
      hung = fresh_from 0 given;
      rung = nothing_rung (between (g.S.Shelf.seen c.args.shelf.now) (g.S.Shelf.seen c.args.shelf.now)) (command_of (map string_bytes c.args.words.now)) _ _ (fresh_from 0 given);
      stay = ap (λ v. map heard v.items) c.in-Err.ensures.err ∙ all_stay given 0;
      leave = ap (λ gone. map (dropped_seen heard) gone) c.new-in-Err.ensures.items ∙ none_leaves given 0;
    }
