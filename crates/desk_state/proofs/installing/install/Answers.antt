use Rattle.std.proofs.Common.{ap}
use Rattle.desk_state.specs.Contents.{state_of}
use Rattle.desk_state.specs.State.{State}
use Rattle.desk_state.proofs.InstallLaws.{newest_after}
use Rattle.desk_state.proofs.installing.install.Goals as goal

pub keep-requires-clause-newest : goal.keep-requires-clause-newest
keep-requires-clause-newest c =
    newest_after (state_of c.args.holdings.now) c.change.new.holdings.replies.list c.args.event.effect.sweep c.args.event.kept (ap (λ (s : State). s.kept) c.change.ensures.state) c.requires.bounds c.requires.kept
