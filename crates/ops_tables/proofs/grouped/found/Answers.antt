use Rattle.std.proofs.Common.{◌∙◌, ap, sym, subst, find, bytes_eq, IfSome}
use Rattle.ops_tables.specs.Grouped.{rows_at, group_name}
use Rattle.ops_tables.proofs.Found.{find-filter, of_found, some_lent}
use Rattle.ops_tables.proofs.grouped.found.Goals as goal

pub returns-clause-value : goal.returns-clause-value
returns-clause-value g c =
    let first = c.args.first.now in
    let second = c.args.second.now in
    let third = c.args.third.now in
    let test = g.R.Keyed.is_of first second third in
    c.found_in.ensures ∙ ap (find test) (c.at.ensures.value ∙ ap (λ s. rows_at g.R.Row.name s c.args.rows.now) c.group_name.ensures)
    ∙ find-filter test (λ r. bytes_eq (g.R.Row.name r) (group_name first second third)) (λ r h. g.met.R.Keyed.in_group first second third r h) c.args.rows.now

pub returns-clause-fits : goal.returns-clause-fits
returns-clause-fits g c =
    let test = g.R.Keyed.is_of c.args.first.now c.args.second.now c.args.third.now in
    some_lent g.R.Row.Fits c.found_in.result
    (subst (λ o. IfSome o g.R.Row.Fits) (sym c.found_in.ensures) (of_found g.R.Row.Fits test c.at.result c.at.ensures.fits))
