use Rattle.std.proofs.Common.{ℕ, ◌≤◌, ◌∙◌, List, ap, subst}
use Rattle.scripts.specs.Below.{items_of, lines_of, DeskAt, desk_at}
use Rattle.desk_io.specs.Over.{Over, over}
use Rattle.commands.proofs.Opened.{ends_map, items_lower, run_lower}
use Rattle.commands.specs.Faults.{Outcome}
use Rattle.commands.specs.Sources.{first_of}
use Rattle.commands.specs.Working.{Runs, since}
use Rattle.commands.proofs.works.RunningWorkSteps.work.Goals as goal

runs_since : (script : List ℕ) (desk : Over DeskAt) (answer : Outcome) → Runs script desk answer → (less : ℕ) → less ≤ desk.before.kept.faults → Runs script (since less desk) answer
runs_since script desk answer runs less under = ends_map answer runs
    (λ text run. run_lower less desk.before.kept desk.after.kept desk.before.state (items_of (lines_of script)) desk.after.state text under run)
    (λ part. items_lower less desk.before.kept desk.after.kept desk.before.state (items_of (lines_of script)) desk.after.state under part)

pub returns-clause-does : goal.returns-clause-does
returns-clause-does g c = λ less under.
    let ran = c.run in
    let desk = over (desk_at g.K.Keeper.seen) c.args.desk.now ran.new.desk in
    let is = c.first_of.ensures ∙ ap first_of c.as_slice.ensures in
    subst (λ (script : List ℕ). Runs script (since less desk) ran.result) is (runs_since c.first_of.result.now desk ran.result ran.ensures.run less under)
