use Rattle.std.proofs.Common.{◌≡◌, ◌∙◌, ap, inl, inr, map, string_bytes, subst, sym}
use Rattle.std.specs.Prelude.{Err}
use Rattle.words.specs.declared.task.DeskTask.TheVariants.{Advise}
use Rattle.commands.proofs.InputLaws.{is_refusal}
use Rattle.commands.proofs.Opened.{asked_to_open, opens_with}
use Rattle.commands.specs.Answers.{IsRefusal}
use Rattle.commands.specs.Faults.{OnInput}
use Rattle.commands.specs.Inputs.{AreStated, IsFirstBad}
use Rattle.commands.specs.Seen.{lent}
use Rattle.commands.specs.Working.{Advises, AdvisesFiles}
use Rattle.commands.proofs.commands.advise.Goals as goal

pub open_over-requires-clause-ready : goal.open_over-requires-clause-ready
open_over-requires-clause-ready g c = let input = c.in-Ok.ensures in (input.plan, input.states.plan_is.valid, input.are)

pub returns-in-Ok-clause-works : goal.returns-in-Ok-clause-works
returns-in-Ok-clause-works g c =
    let over = c.open_over in
    let work = c.in-Ok.advising in
    let tables = c.args.provided.tables in
    let texts = c.args.texts.now in
    let keeper = lent g.K.Keeper.seen c.args.provided.keeper over.result.keeper in
    let is = subst (λ x. AreStated tables x work.plan work.candidates) c.as_slice.ensures c.in-Ok.ensures.states in
    inl (
      (work.plan, work.candidates, is),
      over.ensures.keeper,
      asked_to_open tables (Advises work.plan work.candidates) keeper over.result.board over.result.answer over.ensures.opens over.ensures.asked,
      opens_with tables (Advises work.plan work.candidates) (AdvisesFiles tables texts) keeper over.result.board over.result.answer (λ desk advises. (work.plan, work.candidates, is, advises)) over.ensures.opens,
    )

pub returns-in-Err-clause-works : goal.returns-in-Err-clause-works
returns-in-Err-clause-works g c =
    let said = c.unopened.ensures in
    let tables = c.args.provided.tables in
    let names = map string_bytes c.args.names.now in
    let is = subst (λ x. OnInput (IsFirstBad tables names x) c.in-Err.fault) c.as_slice.ensures c.in-Err.ensures.states in
    inr (
      subst (λ answer. IsRefusal Advise tables names c.args.texts.now answer) (sym said.answer) (is_refusal tables names c.args.texts.now c.in-Err.fault is),
      record { none = said.none; same = said.keeper },
    )
