use Rattle.std.proofs.Common.{◌∙◌, ap, List, bytes_eq}
use Rattle.std.proofs.lemmas.List.Elements.{All-filter, All-same}
use Rattle.ops_tables.specs.Grouped.{rows_at}
use Rattle.ops_tables.proofs.grouped.Grouped.at.Goals as goal

pub returns-clause-fits : goal.returns-clause-fits
returns-clause-fits g c =
    let rows = c.self.inside.rows.items in
    All-same g.R.Row.Fits c.group_in.result (rows_at g.R.Row.name c.args.name.now rows)
    (c.group_in.ensures ∙ ap (λ (xs : List _). rows_at g.R.Row.name c.args.name.now xs) c.deref.ensures.value)
    (All-filter (λ r. bytes_eq (g.R.Row.name r) c.args.name.now) g.R.Row.Fits rows c.self.invariant.allowed.fits)
