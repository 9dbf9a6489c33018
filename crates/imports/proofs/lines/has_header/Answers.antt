use Rattle.std.proofs.Common.{◌∙◌, ap, [], Some}
use Rattle.csv_text.specs.Records.{GivesNext}
use Rattle.imports.specs.Lines.{is_header}
use Rattle.imports.proofs.LineLaws.{begins, header_told}
use Rattle.imports.proofs.lines.has_header.Goals as goal

pub returns-in-Some : goal.returns-in-Some
returns-in-Some c = λ text h.
    let given : GivesNext 6 text [] (Some c.in-Some.header) c.next.new.self = rw c.in-Some.is at (c.in_ok-next.ensures.given text [] h) in
    begins text given.0 c.next.new.self c.is_header.result given.1 (c.is_header.ensures ∙ ap is_header (c.as_slice.ensures ∙ given.2) ∙ header_told given.0)
