use Rattle.service.specs.Pages.{desk_text}
use Rattle.service.proofs.PageLaws.{four_on}
use Rattle.service.proofs.pages.push_desk.Goals as goal

pub returns : goal.returns
unfolding desk_text
returns c = four_on _ _ _ _ _ _ _ _ _ c.in_ok-push_gauge.ensures c.in_ok-push_gauge-2.ensures c.in_ok-push_kept.ensures c.in_ok-push_gauge-3.ensures
