use Rattle.board.proofs.Kept.{call_ready, call_reply, prepared_cause, prepared_leads, prepared_told, prepared_uses, prepared_again, prepared_sweeps}
use Rattle.board.proofs.state.Board.prepare_change.Goals as goal

pub invariant_of-self-2 : goal.invariant_of-self-2
invariant_of-self-2 g c =
    call_ready _ _ _ _ _ _ _ c.of.ensures c.in_ok-prepared.ensures.same c.self.invariant.0 c.requires c.in_ok-prepared.ensures.stepped c.in_ok-prepared.ensures.may

pub returns-clause-shown : goal.returns-clause-shown
returns-clause-shown g c = call_reply _ _ _ _ _ c.self.invariant.0 c.requires c.in_ok-prepared.ensures.stepped

pub returns-clause-own : goal.returns-clause-own
returns-clause-own g c = prepared_leads _ _ _ _ _ _ c.self.view_is c.self.invariant.0 c.requires c.in_ok-prepared.ensures.stepped

pub returns-clause-told : goal.returns-clause-told
returns-clause-told g c = prepared_told _ _ _ _ _ _ c.self.view_is c.self.invariant.0 c.requires c.in_ok-prepared.ensures.stepped

pub returns-clause-used : goal.returns-clause-used
returns-clause-used g c = prepared_uses _ _ _ _ _ _ c.self.view_is c.self.invariant.0 c.requires c.in_ok-prepared.ensures.stepped

pub returns-clause-again : goal.returns-clause-again
returns-clause-again g c = prepared_again _ _ _ _ _ _ c.self.view_is c.self.invariant.0 c.requires c.in_ok-prepared.ensures.stepped

pub returns-clause-sweeps : goal.returns-clause-sweeps
returns-clause-sweeps g c = prepared_sweeps _ _ _ _ _ _ c.self.view_is c.self.invariant.0 c.requires c.in_ok-prepared.ensures.stepped

pub returns-clause-cause : goal.returns-clause-cause
returns-clause-cause g c = prepared_cause _ _ _ _ _ _ c.self.view_is c.self.invariant.0 c.in_ok-prepared.ensures.stepped
