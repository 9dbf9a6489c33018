use Rattle.std.proofs.Common.{subst, ℕ, List, []}
use Rattle.std.specs.Prelude.{IfOk}
use Rattle.csv_text.specs.Records.{HasGiven}
use Rattle.table_files.specs.Reading.{Begins}
use Rattle.candidate_files.proofs.records.has_columns.Goals as goal

pub returns : goal.returns
returns c =
    subst (λ names. IfOk c.has_header.result (λ good. (text : List ℕ) → HasGiven text [] c.args.reader.now → Begins text names good c.has_header.new.reader))
    c.columns.ensures c.has_header.ensures
