use Rattle.std.proofs.Common.{◌≡◌, drop}
use Rattle.relief.specs.Handovers.{after_all}
use Rattle.relief.specs.Roster.{first_roster}
use Rattle.relief.proofs.roster.Roster.replayed.Given as goal

abbrev pub invariant-loop-handover : goal.invariant-loop-handover
invariant-loop-handover l =
    after_all l.tables l.roster (drop l.handover-index l.handovers) ≡ after_all l.tables (first_roster l.tables) l.handovers
