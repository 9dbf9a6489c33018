use Rattle.std.proofs.Common.{arith}
use Rattle.records.specs.Checks.{AreRowsOf, IsFaultOf}
use Rattle.records.proofs.CheckLaws.{stops_in, goes_on, passed_on}
use Rattle.records.proofs.checking.read_rows.Goals as goal

pub returns-in_err-found : goal.returns-in_err-found
returns-in_err-found c =
    passed_on c.from_residual.result c.in_err-found.field-0.0 (λ records. AreRowsOf c.args.version c.args.rows.now records.items) (IsFaultOf c.args.rows.now) c.from_residual.ensures.0 c.from_residual.ensures.1
    (stops_in c.args.version c.args.rows.now c.loop-row.records.items c.loop-row.row-index c.row-item.result c.in_err-found.field-0.0 c.requires c.loop-row.invariant (omega arith) c.row-item.is c.in_err-found.ensures)

pub loop-row-preserved : goal.loop-row-preserved
loop-row-preserved c =
    goes_on c.args.version c.args.rows.now c.loop-row.records.items c.push.new.records.items c.loop-row.row-index c.row-item.result c.in_ok-found.found c.loop-row.invariant (omega arith) c.row-item.is c.in_ok-found.ensures c.in_ok-push.ensures
