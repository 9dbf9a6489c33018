use Rattle.std.proofs.Common.{◌≡◌, ◌==◌, sym, ap, ◌∙◌, subst, length, map, false}
use Rattle.alerts.specs.Ringing.{dropped_seen, hung_all}
use Rattle.relief.proofs.HeardLaws.{waiting_kept, waiting_stay}
use Rattle.relief.proofs.seated.Seated.finish.Goals as goal

pub returns-clause-bells : goal.returns-clause-bells
returns-clause-bells g c =
    let seen = g.B.Bell.seen in
    waiting_stay seen (hung_all seen c.self.inside.ringer) c.self.inside.bells.items c.args.self c.self.view_is
    (subst (λ bells. (length bells == 0) ≡ false) c.as_slice.ensures.value (sym c.is_empty.ensures ∙ c.if-is_empty.false))

pub returns-clause-dropped : goal.returns-clause-dropped
returns-clause-dropped g c =
    let seen = g.B.Bell.seen in
    ap (map (dropped_seen seen)) c.new.ensures.items
    ∙ waiting_kept seen (hung_all seen c.self.inside.ringer) c.self.inside.bells.items c.args.self c.self.view_is
    (subst (λ bells. (length bells == 0) ≡ false) c.as_slice.ensures.value (sym c.is_empty.ensures ∙ c.if-is_empty.false))
