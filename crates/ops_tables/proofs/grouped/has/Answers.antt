use Rattle.std.proofs.Common.{◌∙◌, ap, sym, is_some}
use Rattle.ops_tables.proofs.Found.{some_copied, found_any}
use Rattle.ops_tables.proofs.grouped.has.Goals as goal

pub returns : goal.returns
returns g c =
    c.is_some.ensures ∙ sym (some_copied c.found.result) ∙ ap is_some c.found.ensures.value
    ∙ found_any (g.R.Keyed.is_of c.args.first.now c.args.second.now c.args.third.now) c.args.rows.now
