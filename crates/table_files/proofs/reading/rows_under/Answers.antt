use Rattle.std.proofs.Common.{◌≡◌, ◌<◌, [], ◌∷◌, ◌++◌, length, Ok, Err, Some, None, arith, length-append}
use Rattle.std.proofs.lemmas.List.Elements.{All-push}
use Rattle.csv_text.specs.Records.{AreRecordsOf}
use Rattle.ops_tables.specs.Shown.{shown}
use Rattle.table_files.specs.Passes.{rows_read, GivesRow}
use Rattle.table_files.proofs.Passes.{ReadsOn, one_more, last, none, at_end}
use Rattle.table_files.proofs.Steps.{one_more as one_seen, no_more, one_tells}
use Rattle.table_files.proofs.reading.rows_under.Goals as goal

pub returns-in-None-clause-value : goal.returns-in-None-clause-value
returns-in-None-clause-value g c = λ text earlier h.
    let limit = g.R.Row.limit in
    let table = g.R.FileRow.table in
    let t = shown c.args.loaded.now in
    let rows = c.loop-rows.rows.items in
    let a = c.loop-rows.invariant.after text earlier h in
    let all : AreRecordsOf text (earlier ++ a.seen) = rw c.in-None.is at (c.in_ok-next_row.ensures.value text (earlier ++ a.seen) a.given) in
    no_more text earlier (rows_read limit table t 0) (ReadsOn limit table t rows) (record { rows = rows; stop = None }) c.loop-rows.reader a all (at_end limit table t rows)

pub returns-in-Some-Err-clause-value : goal.returns-in-Some-Err-clause-value
returns-in-Some-Err-clause-value g c = λ text earlier h.
    let limit = g.R.Row.limit in
    let table = g.R.FileRow.table in
    let t = shown c.args.loaded.now in
    let rows = c.loop-rows.rows.items in
    let count = c.len-count.result in
    let counted : count ≡ length rows = omega (arith, c.len-count.ensures, c.loop-rows.rows.ok.0) in
    let reason = c.in-Some-Err.why in
    let a = c.loop-rows.invariant.after text earlier h in
    let given : GivesRow limit table count text (earlier ++ a.seen) (Some (Err reason)) c.next_row.new.reader =
    rw (c.in-Some-Err.is, c.in-Some-Err.field-0-is) at (c.in_ok-next_row.ensures.value text (earlier ++ a.seen) a.given) in
    one_tells text earlier (rows_read limit table t 0) (ReadsOn limit table t rows) c.stopped.result c.loop-rows.reader c.next_row.new.reader given.0 a given.1
    (λ others. none limit table t rows count reason given.0 others c.stopped.result counted given.2 c.stopped.ensures)

pub returns-then-not-linked-clause-value : goal.returns-then-not-linked-clause-value
returns-then-not-linked-clause-value g c = λ text earlier h.
    let limit = g.R.Row.limit in
    let table = g.R.FileRow.table in
    let t = shown c.args.loaded.now in
    let rows = c.loop-rows.rows.items in
    let count = c.len-count.result in
    let counted : count ≡ length rows = omega (arith, c.len-count.ensures, c.loop-rows.rows.ok.0) in
    let row = c.in-Some-Ok.row in
    let a = c.loop-rows.invariant.after text earlier h in
    let given : GivesRow limit table count text (earlier ++ a.seen) (Some (Ok row)) c.next_row.new.reader =
    rw (c.in-Some-Ok.is, c.in-Some-Ok.field-0-is) at (c.in_ok-next_row.ensures.value text (earlier ++ a.seen) a.given) in
    let made = c.stopped-then-not-linked in
    one_tells text earlier (rows_read limit table t 0) (ReadsOn limit table t rows) made.result c.loop-rows.reader c.next_row.new.reader given.0 a given.1
    (λ others. last limit table t rows count row given.0 others c.push.new.self.items made.result counted given.2 c.if-not-linked.ensures c.in_ok-push-in-Some-Ok.ensures.items made.ensures)

pub loop-rows-preserved : goal.loop-rows-preserved
loop-rows-preserved g c =
    let limit = g.R.Row.limit in
    let table = g.R.FileRow.table in
    let t = shown c.args.loaded.now in
    let rows = c.loop-rows.rows.items in
    let count = c.len-count.result in
    let counted : count ≡ length rows = omega (arith, c.len-count.ensures, c.loop-rows.rows.ok.0) in
    let row = c.in-Some-Ok.row in
    let room : count < limit = rw (c.in-Some-Ok.is, c.in-Some-Ok.field-0-is) at c.in_ok-next_row.ensures.room in
    let fits : g.R.Row.Fits row = rw (c.in-Some-Ok.is, c.in-Some-Ok.field-0-is) at c.in_ok-next_row.ensures.fits in
    rw c.in_ok-push-in-Some-Ok.ensures.items (record {
      after = λ text earlier h.
          let a = c.loop-rows.invariant.after text earlier h in
          let given : GivesRow limit table count text (earlier ++ a.seen) (Some (Ok row)) c.next_row.new.reader =
          rw (c.in-Some-Ok.is, c.in-Some-Ok.field-0-is) at (c.in_ok-next_row.ensures.value text (earlier ++ a.seen) a.given) in
          one_seen text earlier (rows_read limit table t 0) (ReadsOn limit table t rows) (ReadsOn limit table t (rows ++ row ∷ [])) c.loop-rows.reader c.next_row.new.reader given.0 a given.1
          (λ others. one_more limit table t rows count row given.0 others counted given.2 c.if-not-linked.ensures);
      within = omega (arith, room, counted, length-append rows (row ∷ []));
      fits = All-push g.R.Row.Fits rows row c.loop-rows.invariant.fits fits;
    })
