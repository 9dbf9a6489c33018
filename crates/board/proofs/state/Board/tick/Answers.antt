use Rattle.desk_state.specs.Told.{takes_none}
use Rattle.board.proofs.Kept.{applied_ticks, applied_uses, installed_told}
use Rattle.board.proofs.state.Board.tick.Goals as goal

pub returns-clause-own : goal.returns-clause-own
returns-clause-own g c = applied_ticks _ _ _ _ _ _ _ c.in_ok-prepared.ensures.stepped.state c.install.ensures.reply c.in_ok-prepared.ensures.own

pub returns-clause-told : goal.returns-clause-told
returns-clause-told g c = installed_told takes_none _ _ _ _ _ c.in_ok-prepared.ensures.stepped.state c.install.ensures.notices c.in_ok-prepared.ensures.told

pub returns-clause-used : goal.returns-clause-used
returns-clause-used g c = applied_uses _ _ _ c.in_ok-prepared.ensures.stepped.state c.in_ok-prepared.ensures.used
