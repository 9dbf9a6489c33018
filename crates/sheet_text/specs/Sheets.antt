-- The sheet of a plan in words, what fails first, and the heading over the sheet of a revision.
use Rattle.std.specs.Prelude.{ℕ, List, [], ◌∷◌, ◌++◌, codes, filter}
use Rattle.std.specs.List.{concat}
use Rattle.plan.specs.declared.flights.Plan.{Plan}
use Rattle.sheet.specs.Lines.{fails, holds}
use Rattle.sheet.specs.declared.lines.Line.{Line}
use Rattle.sheet_text.specs.Text.{lines_text, moment_text, two_numbers}
use Rattle.sheet_text.specs.declared.sheets.Which.{Which}
use Rattle.sheet_text.specs.declared.sheets.Which.TheVariants.{Active, Pending}

-- the lines in words: those that fail, then those that hold, each group in the order of findings
unfoldable pub failing_first : List Line → List ℕ
failing_first lines = lines_text (filter fails lines) ++ lines_text (filter holds lines)

abbrev pub which_text : Which → List ℕ
which_text Active = codes " ACTIVE "
which_text Pending = codes " PENDING "

-- the numbers of a release and of its revision
abbrev pub numbers_text : ℕ → ℕ → List ℕ
numbers_text release revision = two_numbers (codes "RELEASE ") release (codes " REVISION ") revision

-- the moment of a sheet, at the end of a line
abbrev pub moment_line : ℕ → List ℕ
moment_line at = concat (codes "AT " ∷ moment_text at ∷ codes "\n" ∷ [])

abbrev pub flight_and_tail : Plan → ℕ → List ℕ
flight_and_tail plan at = concat (plan.flight ∷ codes " " ∷ plan.tail ∷ codes " " ∷ moment_line at ∷ [])

-- The heading over the sheet of a revision: which of the release's revisions it is, its flight and its aircraft, and
-- the moment of the sheet.
unfoldable pub heading : ℕ → ℕ → Which → Plan → ℕ → List ℕ
heading release revision which plan at =
    concat (numbers_text release revision ∷ which_text which ∷ flight_and_tail plan at ∷ [])
