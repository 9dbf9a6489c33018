use Rattle.std.proofs.Common.{sym, subst, length}
use Rattle.records.specs.Checks.{Names}
use Rattle.records.specs.Faults.{IsWithin}
use Rattle.records.proofs.CheckLaws.{row_named, pair_named}
use Rattle.records.proofs.checking.fault_at.Goals as goal

pub returns-in-Bad : goal.returns-in-Bad
returns-in-Bad c =
    let within = subst (IsWithin (length c.args.rows.now)) c.in-Bad.is c.requires in
    subst (λ fault. Names c.args.rows.now fault c.bad_row.result) (sym c.in-Bad.is)
    (row_named c.args.rows.now c.in-Bad.place c.in-Bad.why c.index-rows-place.result c.bad_row.result within c.index-rows-place.is c.bad_row.ensures)

pub returns-in-Pair : goal.returns-in-Pair
returns-in-Pair c =
    let within = subst (IsWithin (length c.args.rows.now)) c.in-Pair.is c.requires in
    subst (λ fault. Names c.args.rows.now fault c.pair_fault.result) (sym c.in-Pair.is)
    (pair_named c.args.rows.now c.in-Pair.one c.in-Pair.two c.index-rows-one.result c.index-rows-two.result c.pair_fault.result within.0 within.1 c.index-rows-one.is c.index-rows-two.is c.pair_fault.ensures)
