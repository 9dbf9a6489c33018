use Rattle.std.proofs.Common.{◌≡◌, ap, length, sym, ◌∙◌, subst}
use Rattle.service.specs.Events.{keeps, state_at}
use Rattle.service.specs.Pages.{gauges_of}
use Rattle.service.specs.Shared.{parts_seen}
use Rattle.service.proofs.SharedLaws.{state_there}
use Rattle.service.proofs.shared.Shared.gauges.Goals as goal

pub returns-clause-gauges : goal.returns-clause-gauges
returns-clause-gauges g c =
    let inside = c.self.inside in
    let seen = parts_seen g.K.Keeper.seen g.B.Bell.seen g.C.Clock.seen inside.desk inside.clock inside.events in
    let there = state_there g.A.Opened.desk g.A.Opened.clock seen c.self.invariant in
    subst (λ s. c.gauges_of.result ≡ gauges_of (state_at g.A.Opened.desk.opening s.events (length s.events)) (keeps s.events)) c.self.view_is
    (c.gauges_of.ensures.gauges
    ∙ ap (λ kept. gauges_of inside.desk.board.state kept) c.keeps.ensures
    ∙ ap (λ s. gauges_of s (keeps inside.events)) (sym there))
