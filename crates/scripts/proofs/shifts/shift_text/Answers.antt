use Rattle.std.proofs.Common.{[], subst}
use Rattle.std.proofs.lemmas.Result.{IfOk-weaker}
use Rattle.ops_tables.specs.Keys.{AreNew, is_same_actor}
use Rattle.ops_tables.specs.Tables.{TableRows}
use Rattle.scripts.proofs.RosterLaws.{seated_always}
use Rattle.scripts.proofs.RunLaws.{is_seated_run}
use Rattle.scripts.proofs.shifts.shift_text.Goals as goal

pub returns-clause-run : goal.returns-clause-run
returns-clause-run g c = IfOk-weaker c.text_of_shifts.result _ _ (λ v is. is_seated_run _ _ _ _ _ _ _ _ is _ c.now.ensures.board) c.text_of_shifts.ensures.run

pub returns-clause-roster : goal.returns-clause-roster
returns-clause-roster g c =
    seated_always c.args.desk.now.board.state.tables c.args.script.now (subst (λ (t : TableRows). AreNew is_same_actor [] t.actors) c.tables.ensures c.actors.ensures.distinct)
