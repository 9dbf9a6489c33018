use Rattle.desk_state.proofs.HoldLaws.{board_holds}
use Rattle.board.proofs.Kept.{install_keeps, install_shows, ready_board, ready_is, room_is}
use Rattle.board.proofs.state.Board.install.Goals as goal

pub install-requires-clause-may : goal.install-requires-clause-may
install-requires-clause-may c = (ready_is _ _ c.args.prepared _ (room_is _ _ _ _ _ _ c.self.view_is c.requires) c.self.invariant.1).may

pub install-requires-clause-sound : goal.install-requires-clause-sound
install-requires-clause-sound c = (ready_board _ _ c.args.prepared (ready_is _ _ c.args.prepared _ (room_is _ _ _ _ _ _ c.self.view_is c.requires) c.self.invariant.1)).sound

pub install-requires-clause-holds : goal.install-requires-clause-holds
install-requires-clause-holds c =
    board_holds _ _ (ready_board _ _ c.args.prepared (ready_is _ _ c.args.prepared _ (room_is _ _ _ _ _ _ c.self.view_is c.requires) c.self.invariant.1))

pub invariant_of-self : goal.invariant_of-self
invariant_of-self c = install_keeps _ _ _ c.args.prepared _ (room_is _ _ _ _ _ _ c.self.view_is c.requires) c.self.invariant.1 c.install.ensures.state

pub returns-clause-state : goal.returns-clause-state
returns-clause-state c = install_shows _ _ _ _ _ c.args.prepared _ _ c.self.view_is c.install.ensures.state c.install.ensures.listed
