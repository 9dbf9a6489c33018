use Rattle.std.proofs.Common.{sym, subst, [], Ok}
use Rattle.std.proofs.lemmas.Result.{IfOk-weaker}
use Rattle.ops_tables.specs.Shown.{shown}
use Rattle.table_files.specs.Filling.{Gives}
use Rattle.table_files.specs.Passes.{rows_read, keyed}
use Rattle.table_files.specs.Reading.{rows_of, under_header}
use Rattle.table_files.proofs.Passes.{gives}
use Rattle.table_files.proofs.reading.read_rows.Goals as goal

pub returns-in-Ok : goal.returns-in-Ok
returns-in-Ok g c =
    let same = g.R.Row.is_same_key in
    let limit = g.R.Row.limit in
    let table = g.R.FileRow.table in
    let t = shown c.args.loaded.now in
    let text = c.args.text in
    let read : Gives text (under_header table.columns (λ records. Ok (rows_read limit table t 0 records))) (Ok c.in-Ok.read) = rw c.in-Ok.is at c.in_ok-read.ensures.value in
    let all : Gives text (rows_of same limit table t) (keyed same [] c.in-Ok.read.rows c.in-Ok.read.stop) = gives same limit table t text (Ok c.in-Ok.read) read in
    IfOk-weaker c.tested.result _ _ (λ made is. subst (Gives text (rows_of same limit table t)) (sym is) all) c.tested.ensures
