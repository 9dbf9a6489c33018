use Rattle.std.proofs.Common.{rules, ◌≡◌, ◌++◌, inl, sym, ap, ◌∙◌, subst}
use Rattle.turn_lock.proofs.ElementLaws.{prefix_trans}
use Rattle.turn_lock.specs.Elements.{elements_of}
use Rattle.turn_lock.specs.Passes.{pass_seen, turn_taken}
use Rattle.service.specs.Events.{lane_of}
use Rattle.service.specs.Shared.{seen_by}
use Rattle.service.specs.Looks.{LooksOnce}
use Rattle.service.proofs.SharedLaws.{looks_for_pass}
use Rattle.service.proofs.turn_answers.look_in_turn.Goals as goal

pub returns-clause-seen : goal.returns-clause-seen
returns-clause-seen g c =
    let grown = c.look-looked.ensures.list in
    let taken : c.value.result.now.events ≡ turn_taken c.take-turn.result = search rules in
    let seen : pass_seen c.give.result ≡ c.look-looked.new.self.events = search rules in
    prefix_trans (pass_seen c.args.pass) (turn_taken c.take-turn.result) (pass_seen c.give.result) c.take-turn.ensures.seen
    (grown.0, sym (seen ∙ (grown.1 ∙ ap (λ l. l ++ grown.0) taken)))

pub returns-clause-comes : goal.returns-clause-comes
returns-clause-comes g c =
    let taken : c.value.result.now.events ≡ turn_taken c.take-turn.result = search rules in
    let seen : pass_seen c.give.result ≡ c.look-looked.new.self.events = search rules in
    let own : elements_of lane_of c.args.lane (turn_taken c.take-turn.result) ≡ elements_of lane_of c.args.lane (pass_seen c.args.pass) = c.take-turn.ensures.own c.args.lane (inl (sym c.requires.lane)) in
    looks_for_pass g.A.Opened.desk.opening g.A.Opened.clock.dial c.args.lane (pass_seen c.args.pass) (turn_taken c.take-turn.result) (pass_seen c.give.result) c.look-looked.result
    c.take-turn.ensures.seen own
    (subst (λ l. LooksOnce g.A.Opened.desk.opening g.A.Opened.clock.dial c.args.lane (turn_taken c.take-turn.result) l c.look-looked.result) (sym seen)
    (subst (λ l. LooksOnce g.A.Opened.desk.opening g.A.Opened.clock.dial c.args.lane l c.look-looked.new.self.events c.look-looked.result) taken c.look-looked.ensures.comes))

pub returns-clause-shared : goal.returns-clause-shared
returns-clause-shared g c =
    let seen : pass_seen c.give.result ≡ c.look-looked.new.self.events = search rules in record {
      shared = seen_by g.K.Keeper.seen g.B.Bell.seen g.C.Clock.seen c.look-looked.new.self;
      since = c.look-looked.ensures.since;
      is = seen;
    }
