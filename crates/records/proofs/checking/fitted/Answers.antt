use Rattle.std.proofs.Common.{◌∙◌, sym, ap}
use Rattle.records.specs.Faults.{fit}
use Rattle.records.proofs.CheckLaws.{misfit_fault}
use Rattle.records.proofs.checking.fitted.Goals as goal

pub returns-in-Err : goal.returns-in-Err
returns-in-Err c =
    misfit_fault c.args.rows.now c.args.records.items c.in-Err.fault c.fault_at.result c.requires (ap fit (sym c.deref.ensures.value) ∙ sym c.in_ok-check.ensures.value ∙ c.in-Err.is) c.fault_at.ensures
