-- What the desk says to a line and can be written as text, and what the line files.
use Rattle.std.specs.Prelude.{◌≡◌, Bool, false, List, IfOk}
use Rattle.asks.specs.Forms.{CallHasForms}
use Rattle.desk.specs.Shown.{CanBeSaid}
use Rattle.desk_json.specs.PlannedLines.{PlannedHasForms}
use Rattle.desk_json.specs.declared.planned.PlannedLine.{PlannedLine}
use Rattle.desk_json.specs.declared.planned.PlannedLine.TheVariants.{Asked, File, Check, Turn}
use Rattle.redispatch.specs.Filed.{final_plan}
use Rattle.redispatch.specs.declared.planned.Filed.{Filed}
use Rattle.scripts.specs.PlannedRuns.{PlannedItem, filed_if, is_done}
use Rattle.scripts.specs.declared.planned_said.Came.{Came}
use Rattle.scripts.specs.declared.planned_said.Came.TheVariants.{Says, Makes}
use Rattle.scripts.specs.declared.planned_said.LineSaid.{LineSaid}
use Rattle.scripts.specs.declared.planned_said.LineSaid.TheVariants as line

abbrev pub CanBeSaidOfLine : LineSaid → Type 0
CanBeSaidOfLine (line.Said says) = CanBeSaid says
CanBeSaidOfLine (line.Refused why) = Unit {0}

-- what is said can be written, and a call that is to be made is well-formed
abbrev pub CanBeDone : Came → Type 0
CanBeDone (Says says) = CanBeSaidOfLine says
CanBeDone (Makes call) = CallHasForms call

abbrev pub is_done_came : Came → Bool
is_done_came (Says says) = is_done says
is_done_came (Makes call) = false

-- a line that files a plan, and that the desk accepts, files it
abbrev pub IsFiledBy : PlannedLine → Came → List Filed → List Filed → Type 0
IsFiledBy (Asked at call) came old new = new ≡ old
IsFiledBy (File at actor key release leg plan) came old new = new ≡ filed_if (is_done_came came) (final_plan release leg plan) old
IsFiledBy (Check at actor key release) came old new = new ≡ old
IsFiledBy (Turn at actor key number release) came old new = new ≡ old

-- a line whose fields have their forms, or a malformed one
abbrev pub IsLineFormed : PlannedItem → Type 0
IsLineFormed i = IfOk i PlannedHasForms
