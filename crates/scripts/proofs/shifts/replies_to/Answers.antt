use Rattle.std.proofs.Common.{◌≡◌, ℕ, List, get_or, refl, sym, subst}
use Rattle.desk.proofs.InPart.{on_err}
use Rattle.desk.proofs.SeenLaws.{desk_on}
use Rattle.desk.specs.Seen.{desk_seen}
use Rattle.scripts.proofs.Looping.{begins, ends, goes_on, heard_so_far, stops, stops_at}
use Rattle.scripts.proofs.shifts.replies_to.Goals as goal

pub loop-line-init : goal.loop-line-init
loop-line-init g c = begins _ _ _ _ _ c.requires c.new-out.ensures.items

pub returns-in_err-reply-clause-err : goal.returns-in_err-reply-clause-err
returns-in_err-reply-clause-err g c =
    let is = subst (λ (x : List ℕ). x ≡ get_or c.args.lines.now c.loop-line.line-index x) (sym c.bytes.ensures) c.line-item.is in
    on_err c.from_residual.result
    (stops_at _ c.bytes.result.now _ _ _ (desk_seen g.K.Keeper.seen g.B.Bell.seen c.answer_passed.new.desk) _ _ _ _ _ c.loop-line-test.true is c.loop-line.invariant c.in_err-reply.ensures.err)

pub returns-in_err-reply-clause-hears : goal.returns-in_err-reply-clause-hears
returns-in_err-reply-clause-hears g c = c.in_err-reply.ensures.hears _ (heard_so_far _ _ _ _ _ _ _ _ _ c.loop-line.invariant)

pub returns-in_err-push_line-clause-hears : goal.returns-in_err-push_line-clause-hears
returns-in_err-push_line-clause-hears g c = c.in_ok-reply.ensures.hears _ (heard_so_far _ _ _ _ _ _ _ _ _ c.loop-line.invariant)

pub returns-in_err-push_line-clause-err : goal.returns-in_err-push_line-clause-err
returns-in_err-push_line-clause-err g c =
    let made = c.in_ok-reply.ensures in
    let is = subst (λ (x : List ℕ). x ≡ get_or c.args.lines.now c.loop-line.line-index x) (sym c.bytes.ensures) c.line-item.is in
    on_err c.from_residual-in_err-push_line.result
    (stops _ _ _ _ _ _ _ _ _
    (goes_on _ c.bytes.result.now _ _ _ _ _ _ _ _ _ _ _ _ _ c.loop-line-test.true is c.loop-line.invariant made.answered made.roster made.desks made.on c.now.ensures.board c.now-in-loop-line.ensures.board refl))

pub returns-in_err-reply-clause-on : goal.returns-in_err-reply-clause-on
returns-in_err-reply-clause-on g c = desk_on _ _ _ c.loop-line.invariant.on c.in_err-reply.ensures.on

pub returns-in_err-push_line-clause-on : goal.returns-in_err-push_line-clause-on
returns-in_err-push_line-clause-on g c = desk_on _ _ _ c.loop-line.invariant.on c.in_ok-reply.ensures.on

pub loop-line-preserved : goal.loop-line-preserved
loop-line-preserved g c =
    let made = c.in_ok-reply.ensures in
    let is = subst (λ (x : List ℕ). x ≡ get_or c.args.lines.now c.loop-line.line-index x) (sym c.bytes.ensures) c.line-item.is in
    goes_on _ c.bytes.result.now _ _ _ _ _ _ _ _ _ _ _ _ _ c.loop-line-test.true is c.loop-line.invariant made.answered made.roster made.desks made.on c.now.ensures.board c.now-in-loop-line.ensures.board
    c.in_ok-push_line.ensures

pub returns-clause-replied : goal.returns-clause-replied
returns-clause-replied g c = ends _ _ _ _ _ _ _ _ _ c.loop-line-test.false c.loop-line.invariant

pub returns-clause-hears : goal.returns-clause-hears
returns-clause-hears g c = heard_so_far _ _ _ _ _ _ _ _ _ c.loop-line.invariant
