use Rattle.std.proofs.Common.{not, ap, ◌∙◌}
use Rattle.plan.specs.AlternateNeeds.{is_marginal}
use Rattle.sheet.proofs.LineLaws.{beyond_margin}
use Rattle.sheet.proofs.lines.WeatherAt.is_beyond.Goals as goal

pub returns : goal.returns
returns c =
    let there = c.args.self.now in
    ap not (c.is_marginal.ensures ∙ ap (λ pairs. is_marginal there.weather pairs c.args.margin) c.as_slice.ensures)
    ∙ beyond_margin there.weather there.minima c.args.margin
