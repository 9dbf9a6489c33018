-- The text of `weather`: each report of a file, read at the moment at the start of its line.
use Rattle.std.specs.Prelude.{ℕ, ◌==◌, if◌then◌else◌, List, [], ◌∷◌, ◌++◌, take, drop, slice_index, Option, None, Some, Result, Ok, Err, codes, decimal}
use Rattle.std.specs.List.{concat}
use Rattle.desk_time.specs.Digits.{◌>>=◌}
use Rattle.desk_time.specs.Moments.{minute_of}
use Rattle.codes.specs.declared.fault.BadReport.{BadReport}
use Rattle.facts.specs.Lines.{line_of}
use Rattle.facts.specs.Reading.{read_of}
use Rattle.facts.specs.declared.report.Read.{Read}
use Rattle.desk_json.specs.Replies.{why_name}
use Rattle.scripts.specs.Below.{lines_of}

-- the moment at the start of a line, and the text after the blank that follows the moment
abbrev pub stamped : List ℕ → Option (ℕ × List ℕ)
stamped line = if slice_index line 17 == 32 then (minute_of (take 17 line) >>= λ at. Some (at, drop 18 line)) else None

abbrev pub fault_line : ℕ → List ℕ → List ℕ
fault_line group why = concat (codes "bad " ∷ decimal group ∷ codes " " ∷ why ∷ codes "\n" ∷ [])

-- the weather line of a report, or the line of its fault; the report has no id
abbrev pub shown_reading : ℕ → Result Read BadReport → List ℕ
shown_reading at (Err bad) = fault_line bad.group (why_name bad.why)
shown_reading at (Ok read) = line_of (record { id = 0; received = at; text = []; read = read })

abbrev pub shown_report : Option (ℕ × List ℕ) → List ℕ
shown_report None = fault_line 0 (codes "Missing")
shown_report (Some report) = shown_reading report.0 (read_of report.1 report.0)

abbrev pub shown_lines : List (List ℕ) → List ℕ
shown_lines [] = []
shown_lines (line ∷ lines) = shown_report (stamped line) ++ shown_lines lines

-- a line for each nonempty line of the file
unfoldable pub weather_text : List ℕ → List ℕ
weather_text bytes = shown_lines (lines_of bytes)
