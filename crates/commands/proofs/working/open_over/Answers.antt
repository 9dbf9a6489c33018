use Rattle.std.proofs.Common.{ap, ◌∙◌, Err, subst, sym}
use Rattle.alerts.specs.Ringing.{hung_all}
use Rattle.commands.proofs.Opened.{asked_after, asked_nothing, does_by, goes_by, keeper_worked, not_opened, worked}
use Rattle.commands.proofs.RungLaws.{rung_over}
use Rattle.scripts.proofs.Below.{opened_tables}
use Rattle.commands.specs.Seen.{lent}
use Rattle.commands.proofs.working.open_over.Goals as goal

pub work-answer-requires : goal.work-answer-requires
work-answer-requires g c =
    subst (λ tables. g.W.Work.ready tables c.args.work) (sym (opened_tables (g.K.Keeper.seen c.args.provided.keeper).rows c.args.provided.tables c.in-Ok.desk.board c.in-Ok.ensures.opened)) c.requires.ready

pub returns-in-Ok-clause-asked : goal.returns-in-Ok-clause-asked
returns-in-Ok-clause-asked g c =
    let seen = g.K.Keeper.seen in
    let work = c.work-answer in
    let left = c.left in
    asked_after seen c.args.provided.tables (g.W.Work.asks c.args.work) c.args.provided.keeper c.in-Ok.desk.keeper work.new.desk.keeper work.new.desk.board left.result left.ensures.board left.ensures.keeper c.in-Ok.ensures.asked
    (subst (λ own. g.W.Work.asks c.args.work (own c.in-Ok.desk.keeper) (own work.new.desk.keeper)) c.requires.seen work.ensures.asks)

pub returns-in-Err-clause-asked : goal.returns-in-Err-clause-asked
returns-in-Err-clause-asked g c =
    asked_nothing c.args.provided.tables (g.W.Work.asks c.args.work) (lent g.K.Keeper.seen c.args.provided.keeper c.boardless.result.keeper) c.boardless.result c.boardless.ensures.none

pub returns-in-Ok-clause-opens : goal.returns-in-Ok-clause-opens
returns-in-Ok-clause-opens g c =
    let opened = c.in-Ok.ensures in
    let work = c.work-answer in
    let left = c.left in
    let seen = g.K.Keeper.seen in
    let does = g.W.Work.does c.args.work in
    worked seen g.B.Bell.seen c.args.provided.tables does c.args.provided.keeper c.in-Ok.desk work.new.desk work.result left.result
    left.ensures.answer left.ensures.board left.ensures.keeper opened.opened opened.on opened.kept
    (goes_by seen g.W.Work.seen g.B.Bell.seen g.W.Work.heard c.in-Ok.desk work.new.desk c.requires.seen c.requires.heard work.ensures.on)
    (does_by seen g.W.Work.seen c.in-Ok.desk work.new.desk does work.result c.requires.seen work.ensures.does) left.ensures.holds

pub returns-in-Ok-clause-rung : goal.returns-in-Ok-clause-rung
returns-in-Ok-clause-rung g c =
    let opened = c.in-Ok.ensures in
    let work = c.work-answer in
    let left = c.left in
    let seen = g.K.Keeper.seen in
    let heard = g.B.Bell.seen in
    rung_over seen heard _ c.args.provided.tables c.in-Ok.desk work.new.desk left.result (hung_all heard c.args.provided.ringer) left.ensures.board (ap (hung_all heard) left.ensures.ringer)
    (ap (hung_all heard) opened.ringer) opened.opened
    (goes_by seen g.W.Work.seen heard g.W.Work.heard c.in-Ok.desk work.new.desk c.requires.seen c.requires.heard work.ensures.on) left.ensures.holds

pub returns-in-Ok-clause-keeper : goal.returns-in-Ok-clause-keeper
returns-in-Ok-clause-keeper g c =
    let seen = g.K.Keeper.seen in
    let work = c.work-answer in
    let goes = goes_by seen g.W.Work.seen g.B.Bell.seen g.W.Work.heard c.in-Ok.desk work.new.desk c.requires.seen c.requires.heard work.ensures.on in
    keeper_worked seen c.args.provided.keeper c.in-Ok.desk.keeper work.new.desk.keeper c.left.result.keeper c.left.ensures.keeper c.in-Ok.ensures.on goes.keeper

pub returns-in-Err-clause-opens : goal.returns-in-Err-clause-opens
returns-in-Err-clause-opens g c =
    let opened = c.in-Err.ensures in
    let provided = c.args.provided in
    not_opened g.K.Keeper.seen provided.tables (g.W.Work.does c.args.work) provided.keeper c.in-Err.field-0.keeper c.in-Err.field-0.why c.boardless.result
    (c.boardless.ensures.answer ∙ ap (λ f. Err f) c.from.ensures) c.boardless.ensures.none c.boardless.ensures.keeper opened.why opened.left opened.same opened.failed opened.unentered
