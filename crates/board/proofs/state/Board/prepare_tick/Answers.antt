use Rattle.board.proofs.Kept.{tick_ready, tick_reply, later_than, ticked_leads, ticked_told, ticked_uses}
use Rattle.board.proofs.state.Board.prepare_tick.Goals as goal

pub invariant_of-self-2 : goal.invariant_of-self-2
invariant_of-self-2 g c =
    tick_ready _ _ _ _ _ _ _ c.of.ensures c.in_ok-prepared.ensures.same c.self.invariant.0 (later_than _ _ _ c.self.view_is c.requires.later) c.requires.within
    c.in_ok-prepared.ensures.stepped c.in_ok-prepared.ensures.may

pub returns-clause-shown : goal.returns-clause-shown
returns-clause-shown g c = tick_reply _ _ _ _ c.in_ok-prepared.ensures.stepped

pub returns-clause-told : goal.returns-clause-told
returns-clause-told g c =
    ticked_told _ _ _ _ _ _ c.self.view_is c.self.invariant.0 (later_than _ _ _ c.self.view_is c.requires.later) c.requires.within c.in_ok-prepared.ensures.stepped

pub returns-clause-own : goal.returns-clause-own
returns-clause-own g c =
    ticked_leads _ _ _ _ _ _ c.self.view_is c.self.invariant.0 (later_than _ _ _ c.self.view_is c.requires.later) c.requires.within c.in_ok-prepared.ensures.stepped

pub returns-clause-used : goal.returns-clause-used
returns-clause-used g c =
    ticked_uses _ _ _ _ _ _ c.self.view_is c.self.invariant.0 (later_than _ _ _ c.self.view_is c.requires.later) c.requires.within c.in_ok-prepared.ensures.stepped
