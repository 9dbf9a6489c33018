use Rattle.service.specs.Pages.{limits_text}
use Rattle.service.proofs.PageLaws.{four_on}
use Rattle.service.proofs.pages.push_limits.Goals as goal

pub returns : goal.returns
unfolding limits_text
returns c = four_on _ _ _ _ _ _ _ _ _ c.in_ok-push_gauge.ensures c.in_ok-push_gauge-2.ensures c.in_ok-push_gauge-3.ensures c.in_ok-push_gauge-4.ensures
