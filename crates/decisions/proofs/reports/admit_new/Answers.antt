use Rattle.std.proofs.Common.{ℕ, sym, subst}
use Rattle.desk_state.specs.declared.effect.Effect.{Effect}
use Rattle.facts.specs.Reading.{IsRead, report_of}
use Rattle.decisions.specs.Reads.{AdmitsRead}
use Rattle.decisions.proofs.reports.admit_new.Goals as goal

pub returns-clause-read : goal.returns-clause-read
returns-clause-read c =
    subst (λ (e : Effect). AdmitsRead e) (sym c.admit.ensures)
    (subst (λ (m : ℕ). IsRead (report_of c.counters-id.result.next_report m c.args.received)) (sym c.moment.ensures) (c.requires c.counters-id.result.next_report))
