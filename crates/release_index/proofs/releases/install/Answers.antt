use Rattle.std.proofs.Common.{subst}
use Rattle.release_index.specs.Changes.{MayChange}
use Rattle.release_index.proofs.HeldLaws.{installed}
use Rattle.release_index.proofs.releases.install.Goals as goal

pub change_list-requires-clause-may : goal.change_list-requires-clause-may
change_list-requires-clause-may c = subst (λ o. MayChange o c.args.held.now.list) c.requires.change c.requires.ready.may

pub returns-clause-held : goal.returns-clause-held
returns-clause-held c =
    installed c.args.settings c.args.ready.now c.args.on _ _ _ _ c.args.held.now.list c.change_list.new.held.list c.args.stations.now.keys c.args.tails.now.keys c.args.dues.now.keys c.turn.new.index.keys c.turn-2.new.index.keys
    c.turn-3.new.index.keys c.requires.change c.as_slice.ensures.rising c.requires.ready c.requires.held c.turn.ensures c.turn-2.ensures c.turn-3.ensures c.change_list.ensures
