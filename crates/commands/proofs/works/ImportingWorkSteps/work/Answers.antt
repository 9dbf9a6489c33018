use Rattle.std.proofs.Common.{ℕ, ◌≤◌, List}
use Rattle.scripts.specs.Below.{items_of_lines, DeskAt, desk_at}
use Rattle.desk_io.specs.Over.{Over, over}
use Rattle.imports.specs.Records.{Line}
use Rattle.commands.proofs.Opened.{ends_map, items_lower, run_lower}
use Rattle.commands.specs.Faults.{Outcome}
use Rattle.commands.specs.Working.{Imports, since}
use Rattle.commands.proofs.works.ImportingWorkSteps.work.Goals as goal

imports_since : (lines : List Line) (desk : Over DeskAt) (answer : Outcome) → Imports lines desk answer → (less : ℕ) → less ≤ desk.before.kept.faults → Imports lines (since less desk) answer
imports_since lines desk answer runs less under = ends_map answer runs
    (λ text run. run_lower less desk.before.kept desk.after.kept desk.before.state (items_of_lines lines) desk.after.state text under run)
    (λ part. items_lower less desk.before.kept desk.after.kept desk.before.state (items_of_lines lines) desk.after.state under part)

pub returns-clause-does : goal.returns-clause-does
returns-clause-does g c = λ less under.
    let ran = c.import_lines in
    imports_since c.args.self.lines.items (over (desk_at g.K.Keeper.seen) c.args.desk.now ran.new.desk) ran.result ran.ensures.imports less under
