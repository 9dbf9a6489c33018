use denote.Param.{param}
use denote.Param.Send.{IsSend, param_send}
use Rattle.std.proofs.Common.{subst, sym}
use Rattle.desk.specs.Seen.{desk_at, desk_seen, DeskGoesOn, DeskSeen}
use Rattle.desk_io.specs.Over.{over}
use Rattle.desk_net.specs.Seen.{ClockGoesOn, ClockSeen}
use Rattle.service.proofs.StayingLaws.{staying_so}
use Rattle.service.specs.Staying.{IsStaying}
use Rattle.service.proofs.Crossing.{Shared_send}
use Rattle.service.specs.Shared.{seen_by}
use Rattle.service.specs.contracts.shared.Shared as Shared
use Rattle.service.proofs.staying.stay_from.Goals as goal

pub stay-value-requires-send-T : goal.stay-value-requires-send-T
stay-value-requires-send-T g c κs within =
    let keeper : IsSend (param 1 g.row.K) = c.type_bounds.send-K in
    let bell : IsSend (param 2 g.row.B) = c.type_bounds.send-B in
    let clock : IsSend (param 3 g.row.C) = c.type_bounds.send-C in
    let opened : IsSend (param 6 g.row.A) = c.type_bounds.send-A in
    let r : IsSend (Shared.the_row (param 1 g.row.K) (param 2 g.row.B) (param 3 g.row.C) (param 6 g.row.A) g.K.Keeper g.B.Bell g.C.Clock g.A.Opened) =
    Shared_send (param 1 g.row.K) (param 2 g.row.B) (param 3 g.row.C) (param 6 g.row.A) keeper bell clock opened g.K.Keeper g.B.Bell g.C.Clock g.A.Opened in
    record {
      owned = r.owned;
      leaving = (param_send 1 (Shared.the_row (param 1 g.row.K) (param 2 g.row.B) (param 3 g.row.C) (param 6 g.row.A) g.K.Keeper g.B.Bell g.C.Clock g.A.Opened) r).leaving;
    }

pub returns-clause-stays : goal.returns-clause-stays
returns-clause-stays g c =
    let link = g.D.Link.Link.seen in
    let keeper = g.K.Keeper.seen in
    let clock = g.C.Clock.seen in
    let value = c.stay-value.result.value in
    let door = over g.D.Door.seen c.args.door c.stay-value.result.door in
    let stayed = staying_so _ link door g.A.Opened.desk (desk_seen keeper g.B.Bell.seen c.args.desk) g.A.Opened.clock (clock c.args.clock) (seen_by keeper g.B.Bell.seen clock value) c.args.port c.args.workers
    c.stay-value.result.end c.requires.desk c.requires.clock c.requires.opened c.into_parts-desk.ensures.since c.stay-value.ensures.stayed in
    subst (λ p. IsStaying _ link door (over clock c.args.clock p.1) (over (desk_at keeper) c.args.desk p.0) c.args.port c.args.workers c.stay-value.result.end) (sym c.into_parts-desk.ensures.parts) stayed

pub returns-clause-desk : goal.returns-clause-desk
returns-clause-desk g c =
    let seen = desk_seen g.K.Keeper.seen g.B.Bell.seen in
    subst (λ p. DeskGoesOn (seen c.args.desk) (seen p.0)) (sym c.into_parts-desk.ensures.parts)
    (subst (λ (d : DeskSeen). DeskGoesOn d (seen c.stay-value.result.value.desk)) (sym c.requires.desk) c.into_parts-desk.ensures.since.desk_on)

pub returns-clause-clock : goal.returns-clause-clock
returns-clause-clock g c =
    let seen = g.C.Clock.seen in
    subst (λ p. ClockGoesOn (seen c.args.clock) (seen p.1)) (sym c.into_parts-desk.ensures.parts)
    (subst (λ (k : ClockSeen). ClockGoesOn k (seen c.stay-value.result.value.clock)) (sym c.requires.clock) c.into_parts-desk.ensures.since.clock_on)
