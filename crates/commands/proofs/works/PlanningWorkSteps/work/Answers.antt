use Rattle.std.proofs.Common.{ℕ, ◌≤◌, ◌∙◌, List, ap, subst}
use Rattle.scripts.specs.Below.{lines_of, DeskAt, desk_at}
use Rattle.desk_io.specs.Over.{Over, over}
use Rattle.scripts.proofs.PlannedPlaces.{planned_lower}
use Rattle.scripts.proofs.PlannedTelling.{part_lower}
use Rattle.scripts.specs.PlannedRuns.{planned_items}
use Rattle.commands.proofs.Opened.{ends_map}
use Rattle.commands.specs.Faults.{Outcome}
use Rattle.commands.specs.Sources.{first_of}
use Rattle.commands.specs.Working.{RunsPlanned, since}
use Rattle.commands.proofs.works.PlanningWorkSteps.work.Goals as goal

planned_since : (script : List ℕ) (desk : Over DeskAt) (answer : Outcome) → RunsPlanned script desk answer → (less : ℕ) → less ≤ desk.before.kept.faults → RunsPlanned script (since less desk) answer
planned_since script desk answer runs less under = ends_map answer runs
    (λ text is. planned_lower less desk.before.kept desk.after.kept desk.before.state script desk.after.state text under is)
    (λ part. part_lower less desk.before.kept desk.after.kept desk.before.state (planned_items (lines_of script)) desk.after.state under part)

pub returns-clause-does : goal.returns-clause-does
returns-clause-does g c = λ less under.
    let ran = c.plan in
    let desk = over (desk_at g.K.Keeper.seen) c.args.desk.now ran.new.desk in
    let is = c.first_of.ensures ∙ ap first_of c.as_slice.ensures in
    subst (λ (script : List ℕ). RunsPlanned script (since less desk) ran.result) is (planned_since c.first_of.result.now desk ran.result ran.ensures.run less under)
