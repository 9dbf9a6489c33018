use Rattle.service.specs.Pages.{done_text}
use Rattle.service.proofs.PageLaws.{two_on}
use Rattle.service.proofs.pages.push_done.Goals as goal

pub returns : goal.returns
unfolding done_text
returns c = two_on _ _ _ _ _ c.in_ok-push_counter.ensures c.in_ok-push_gauge.ensures
