use Rattle.std.proofs.Common.{refl, subst}
use Rattle.turn_lock.specs.Elements.{Continues}
use Rattle.service.specs.Events.{lane_of}
use Rattle.service.specs.Shared.{parts_seen}
use Rattle.service.specs.Turns.{ComesOnce}
use Rattle.service.proofs.SharedLaws.{steady_clock, told_nothing, turn_comes, turn_continues, turn_keeps}
use Rattle.service.proofs.shared.Shared.answer.Goals as goal

pub invariant_of-self : goal.invariant_of-self
invariant_of-self g c =
    let inside = c.self.inside in
    let done = c.answer_over-answered.new in
    let old = parts_seen g.K.Keeper.seen g.B.Bell.seen g.C.Clock.seen inside.desk inside.clock inside.events in
    let new = parts_seen g.K.Keeper.seen g.B.Bell.seen g.C.Clock.seen done.desk done.clock done.events in
    turn_keeps g.A.Opened.desk g.A.Opened.clock c.args.lane c.args.call.now old new c.answer_over-answered.result c.self.invariant
    record { before = c.now.ensures.board; after = c.now-2.ensures.board; desk = c.answer_over-answered.ensures.desk; clock = c.answer_over-answered.ensures.clock } c.answer_over-answered.ensures.still
    c.answer_over-answered.ensures.goes

pub returns-then-len-ge-MOST-clause-comes : goal.returns-then-len-ge-MOST-clause-comes
returns-then-len-ge-MOST-clause-comes g c = told_nothing g.A.Opened.clock.dial c.args.lane c.args.self.now.events c.args.self.now.events refl

pub returns-clause-comes : goal.returns-clause-comes
returns-clause-comes g c =
    let inside = c.self.inside in
    let done = c.answer_over-answered.new in
    let old = parts_seen g.K.Keeper.seen g.B.Bell.seen g.C.Clock.seen inside.desk inside.clock inside.events in
    let new = parts_seen g.K.Keeper.seen g.B.Bell.seen g.C.Clock.seen done.desk done.clock done.events in
    let comes = turn_comes g.A.Opened.desk g.A.Opened.clock c.args.lane c.args.call.now old new c.answer_over-answered.result c.self.invariant c.answer_over-answered.ensures.goes in
    subst (λ s. ComesOnce g.A.Opened.desk.opening g.A.Opened.clock.dial c.args.lane s.events done.events c.args.call.now c.answer_over-answered.result) c.self.view_is comes

pub returns-clause-list : goal.returns-clause-list
returns-clause-list g c =
    let inside = c.self.inside in
    let done = c.answer_over-answered.new in
    let old = parts_seen g.K.Keeper.seen g.B.Bell.seen g.C.Clock.seen inside.desk inside.clock inside.events in
    let new = parts_seen g.K.Keeper.seen g.B.Bell.seen g.C.Clock.seen done.desk done.clock done.events in
    let goes = turn_continues c.args.lane c.args.call.now old new c.answer_over-answered.result c.answer_over-answered.ensures.goes in
    subst (λ s. Continues lane_of c.args.lane s.events done.events) c.self.view_is goes

pub returns-clause-steady : goal.returns-clause-steady
returns-clause-steady g c =
    let inside = c.self.inside in
    let done = c.answer_over-answered.new in
    let old = parts_seen g.K.Keeper.seen g.B.Bell.seen g.C.Clock.seen inside.desk inside.clock inside.events in
    let new = parts_seen g.K.Keeper.seen g.B.Bell.seen g.C.Clock.seen done.desk done.clock done.events in
    steady_clock g.A.Opened.desk g.A.Opened.clock c.args.lane c.args.call.now old new c.answer_over-answered.result c.self.invariant c.answer_over-answered.ensures.goes

pub returns-clause-since : goal.returns-clause-since
returns-clause-since g c = invariant_of-self g c
