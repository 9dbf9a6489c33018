use Rattle.std.proofs.Common.{◌≡◌, ◌↔◌, true, sym, subst, ◌∙◌}
use Rattle.rules.specs.Touches.{Names}
use Rattle.rules.proofs.FrameLaws.{reads_named}
use Rattle.rules.proofs.TouchLaws.{ignores_station, ignores_report, named_exactly}
use Rattle.rules.proofs.touches.names_station.Goals as goal

pub returns-clause-named : goal.returns-clause-named
returns-clause-named c =
    subst (λ b. (b ≡ true) ↔ Names c.args.plan.now c.args.phase c.args.station) (sym c.is_named.ensures) (named_exactly c.args.plan.now c.args.phase c.args.station)

pub returns-clause-reads : goal.returns-clause-reads
returns-clause-reads c = reads_named c.args.plan.now c.args.phase

pub returns-clause-frame : goal.returns-clause-frame
returns-clause-frame c = λ e. ignores_station c.args.plan.now c.args.phase c.args.station (sym c.is_named.ensures ∙ e)

pub returns-clause-admitted : goal.returns-clause-admitted
returns-clause-admitted c = λ e. ignores_report c.args.plan.now c.args.phase c.args.station (sym c.is_named.ensures ∙ e)
