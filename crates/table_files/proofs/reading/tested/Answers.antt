use Rattle.std.proofs.Common.{◌≡◌, ◌∙◌, ◌+◌, sym, ap, subst, [], Ok, Err}
use Rattle.ops_tables.specs.Keys.{AreNew}
use Rattle.ops_tables.specs.Order.{IsFirstDoubled}
use Rattle.table_files.specs.Passes.{keyed, ended}
use Rattle.table_files.specs.declared.faults.TableWhy.TheVariants as why
use Rattle.table_files.proofs.Passes.{all_new, first_doubled}
use Rattle.table_files.proofs.reading.tested.Goals as goal

pub returns-in-Err : goal.returns-in-Err
returns-in-Err g c =
    let same = g.R.Row.is_same_key in
    let read = c.read.inside in
    let first : IsFirstDoubled same read.rows.items c.in-Err.place = rw c.in-Err.is at c.in_ok-place.ensures in
    subst (λ r. Err (record { line = c.in-Err.place + 2; why = why.Doubled }) ≡ keyed same [] r.rows r.stop) c.read.view_is
    (sym (first_doubled same read.rows.items c.in-Err.place read.stop first))

pub returns-in-None : goal.returns-in-None
returns-in-None g c =
    let same = g.R.Row.is_same_key in
    let read = c.read.inside in
    let rows : c.in-Ok.rows ≡ read.rows.items = rw c.in-Ok.is at c.in_ok-place.ensures in
    let new : AreNew same [] read.rows.items = subst (AreNew same []) rows c.are_distinct.ensures in
    subst (λ r. Ok c.in-Ok.rows ≡ keyed same [] r.rows r.stop) c.read.view_is
    (ap Ok rows ∙ sym (all_new same [] read.rows.items read.stop new ∙ ap (ended read.rows.items) c.in-None.is))

pub returns-in-Some : goal.returns-in-Some
returns-in-Some g c =
    let same = g.R.Row.is_same_key in
    let read = c.read.inside in
    let rows : c.in-Ok.rows ≡ read.rows.items = rw c.in-Ok.is at c.in_ok-place.ensures in
    let new : AreNew same [] read.rows.items = subst (AreNew same []) rows c.are_distinct.ensures in
    subst (λ r. Err c.in-Some.bad ≡ keyed same [] r.rows r.stop) c.read.view_is
    (sym (all_new same [] read.rows.items read.stop new ∙ ap (ended read.rows.items) c.in-Some.is))
