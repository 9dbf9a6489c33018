use Rattle.std.proofs.Common.{◌≡◌, ◌∙◌, Some, ap, inl, inr, map, string_bytes, subst, sym}
use Rattle.desk_json.specs.Plans.{plan_in}
use Rattle.words.specs.declared.task.DeskTask.TheVariants.{Check}
use Rattle.commands.proofs.InputLaws.{unread_refusal}
use Rattle.commands.proofs.Opened.{asked_to_open, opens_with}
use Rattle.commands.specs.Answers.{IsRefusal}
use Rattle.commands.specs.Seen.{lent}
use Rattle.commands.specs.Sources.{first_of}
use Rattle.commands.specs.Working.{Checks, ChecksFile}
use Rattle.commands.proofs.commands.check.Goals as goal

pub returns-in-Ok-clause-works : goal.returns-in-Ok-clause-works
returns-in-Ok-clause-works g c =
    let over = c.open_over in
    let plan = c.in-Ok.checking.plan in
    let tables = c.args.provided.tables in
    let keeper = lent g.K.Keeper.seen c.args.provided.keeper over.result.keeper in
    let read = c.first_of.ensures ∙ ap first_of c.as_slice.ensures in
    let is = subst (λ x. plan_in x ≡ Some plan) read c.in-Ok.ensures.reads in
    inl (
      (plan, is),
      over.ensures.keeper,
      asked_to_open tables (Checks plan) keeper over.result.board over.result.answer over.ensures.opens over.ensures.asked,
      opens_with tables (Checks plan) (ChecksFile (first_of c.args.texts.now)) keeper over.result.board over.result.answer (λ desk checks. (plan, is, checks)) over.ensures.opens,
    )

pub returns-in-Err-clause-works : goal.returns-in-Err-clause-works
returns-in-Err-clause-works g c =
    let said = c.unopened.ensures in
    let tables = c.args.provided.tables in
    let names = map string_bytes c.args.names.now in
    let read = c.first_of.ensures ∙ ap first_of c.as_slice.ensures in
    inr (
      subst (λ answer. IsRefusal Check tables names c.args.texts.now answer) (sym said.answer)
          (unread_refusal tables names c.args.texts.now c.first_name.result.now c.first_of.result.now c.in-Err.fault c.first_name.ensures read c.in-Err.ensures.reads),
      record { none = said.none; same = said.keeper },
    )
