use Rattle.std.proofs.Common.{◌∙◌, ap, subst}
use Rattle.records.specs.Checks.{AreRowsOf}
use Rattle.records.specs.Reading.{version_if}
use Rattle.records.proofs.checking.fitted_in.Goals as goal

pub fitted-requires : goal.fitted-requires
fitted-requires c =
    subst (λ version. AreRowsOf version c.args.rows.now c.in_ok-records.records.items) (c.version_if.ensures ∙ ap version_if c.requires) c.in_ok-records.ensures
