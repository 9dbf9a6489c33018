use Rattle.std.proofs.Common.{◌∙◌, ap, arith, ◌+◌, length, [], Some, map}
use Rattle.std.proofs.lemmas.List.{length-map}
use Rattle.csv_text.specs.Records.{GivesNext}
use Rattle.table_files.specs.Reading.{are_same}
use Rattle.table_files.proofs.Steps.{begins}
use Rattle.table_files.proofs.Told.{header_told}
use Rattle.table_files.proofs.reading.has_header.Goals as goal

pub returns-in-Some : goal.returns-in-Some
returns-in-Some c = λ text h.
    let columns = map (λ c. c.now) c.args.columns.now in
    let most = length c.args.columns.now + 1 in
    let given : GivesNext most text [] (Some c.in-Some.header) c.next.new.self = rw c.in-Some.is at (c.in_ok-next.ensures.given text [] h) in
    begins text given.0 columns c.next.new.self c.is_header.result given.1
    (c.is_header.ensures ∙ ap (λ fields. are_same fields columns) (c.as_slice.ensures ∙ given.2) ∙ header_told most given.0 columns (omega (arith, length-map c.args.columns.now (λ c. c.now))))
