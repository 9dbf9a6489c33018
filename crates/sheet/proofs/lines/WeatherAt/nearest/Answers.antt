use Rattle.std.proofs.Common.{ap, sym, subst, ◌∙◌}
use Rattle.sheet.specs.Nearest.{nearest_of, is_nothing, IsNearest}
use Rattle.sheet.proofs.NearestLaws.{nearest_is, nearest_met}
use Rattle.sheet.proofs.lines.WeatherAt.nearest.Goals as goal

pub returns-clause-least : goal.returns-clause-least
returns-clause-least c =
    let there = c.args.self.now in
    let is = c.nearest_of.ensures ∙ ap (nearest_of there.weather) c.as_slice.ensures in
    subst (IsNearest there.weather there.minima) (sym is) (nearest_is there.weather there.minima)

pub returns-clause-met : goal.returns-clause-met
returns-clause-met c =
    let there = c.args.self.now in
    let is = c.nearest_of.ensures ∙ ap (nearest_of there.weather) c.as_slice.ensures in
    ap is_nothing is ∙ nearest_met there.weather there.minima
