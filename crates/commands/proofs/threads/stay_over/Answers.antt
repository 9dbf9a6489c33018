use Rattle.std.proofs.Common.{ap, sym, ◌∙◌, Err, ◌≤◌, ℕ}
use Rattle.alerts.specs.Ringing.{hung_all}
use Rattle.scripts.specs.Below.{Shown, DeskAt, desk_at}
use Rattle.commands.proofs.Opened.{keeper_worked, not_opened, opened_fresh, worked}
use Rattle.commands.proofs.RungLaws.{rung_over}
use Rattle.commands.specs.Seen.{service, Service}
use Rattle.commands.specs.Working.{Stays, since}
use Rattle.desk_io.specs.Over.{Over, over}
use Rattle.service.proofs.StayingLaws.{staying_from}
use Rattle.commands.specs.Faults.{Outcome}
use Rattle.commands.proofs.threads.stay_over.Goals as goal

stays_since : {L : Type 0} (service : Service L) (port : ℕ) (desk : Over DeskAt) (answer : Outcome) → Stays service port desk answer → (less : ℕ) → less ≤ desk.before.kept.faults → Stays service port (since less desk) answer
stays_since service port desk answer stays less under = record {
  end = stays.end;
  stays = staying_from service.door_type service.link service.door service.clock desk port 33 stays.end less under stays.stays;
  says = stays.says;
  clock = stays.clock;
  door = stays.door;
}

pub stay-answer-requires-clause-opened : goal.stay-answer-requires-clause-opened
stay-answer-requires-clause-opened g c κs within =
    let opened = c.in-Ok.ensures.opened in ap (λ (b : Shown). b.state) opened.shows ∙ sym (ap (λ (b : Shown). b.opening) opened.shows)

pub stay-answer-requires-clause-none : goal.stay-answer-requires-clause-none
stay-answer-requires-clause-none g c κs within = opened_fresh _ c.args.provided.tables c.in-Ok.desk.board c.in-Ok.ensures.opened c.now.ensures.board

pub returns-in-Ok-clause-opens : goal.returns-in-Ok-clause-opens
returns-in-Ok-clause-opens g c =
    let opened = c.in-Ok.ensures in
    let work = c.stay-answer in
    let left = c.left-ended in
    let served = service g.C.Clock.seen g.D.Door.seen g.D.Link.Link.seen c.args.clock work.result.clock c.args.door work.result.door in
    worked g.K.Keeper.seen g.B.Bell.seen c.args.provided.tables (Stays served c.args.port) c.args.provided.keeper
    c.in-Ok.desk work.result.desk work.result.answer left.result left.ensures.answer left.ensures.board left.ensures.keeper
    opened.opened opened.on opened.kept work.ensures.desk
    (stays_since served c.args.port (over (desk_at g.K.Keeper.seen) c.in-Ok.desk work.result.desk) work.result.answer work.ensures.stays) left.ensures.holds

pub returns-in-Ok-clause-rung : goal.returns-in-Ok-clause-rung
returns-in-Ok-clause-rung g c =
    let opened = c.in-Ok.ensures in
    let work = c.stay-answer in
    let left = c.left-ended in
    let heard = g.B.Bell.seen in
    rung_over g.K.Keeper.seen heard _ c.args.provided.tables c.in-Ok.desk work.result.desk left.result (hung_all heard c.args.provided.ringer) left.ensures.board (ap (hung_all heard) left.ensures.ringer)
    (ap (hung_all heard) opened.ringer) opened.opened work.ensures.desk left.ensures.holds

pub returns-in-Ok-clause-keeper : goal.returns-in-Ok-clause-keeper
returns-in-Ok-clause-keeper g c =
    keeper_worked g.K.Keeper.seen c.args.provided.keeper c.in-Ok.desk.keeper c.stay-answer.result.desk.keeper c.left-ended.result.keeper c.left-ended.ensures.keeper c.in-Ok.ensures.on c.stay-answer.ensures.desk.keeper

pub returns-in-Err-clause-opens : goal.returns-in-Err-clause-opens
returns-in-Err-clause-opens g c =
    let opened = c.in-Err.ensures in
    let ended = c.boardless-ended in
    not_opened g.K.Keeper.seen c.args.provided.tables (Stays (service g.C.Clock.seen g.D.Door.seen g.D.Link.Link.seen c.args.clock c.args.clock c.args.door c.args.door) c.args.port) c.args.provided.keeper c.in-Err.field-0.keeper c.in-Err.field-0.why ended.result (ended.ensures.answer ∙ ap (λ f. Err f) c.from.ensures) ended.ensures.none
    ended.ensures.keeper opened.why opened.left opened.same opened.failed opened.unentered
