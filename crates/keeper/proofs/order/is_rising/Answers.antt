use Rattle.std.proofs.Common.{sym, ◌∙◌}
use Rattle.keeper.proofs.SortLaws.{rising_apart}
use Rattle.keeper.proofs.order.is_rising.Goals as goal

pub returns-clause-apart : goal.returns-clause-apart
returns-clause-apart c up = rising_apart c.args.rows.now (sym c.rises.ensures ∙ up)
