use Rattle.std.proofs.Common.{List, None, subst}
use Rattle.desk_state.specs.declared.entry.Entry.{Entry}
use Rattle.service.specs.Events.{answers_in}
use Rattle.service.specs.Shared.{AreTakenFrom, ticks_in}
use Rattle.service.proofs.TickLaws.{ticks_taken}
use Rattle.service.proofs.laws.ticks_take_answers.Goals as goal

pub returns : goal.returns
returns c = λ clock desk list is.
    (answers_in list, is.clocked, subst (λ (es : List Entry). AreTakenFrom (answers_in list) (ticks_in es)) is.entries (ticks_taken None list is.follow))
