use Rattle.std.proofs.Common.{◌≡◌, ◌∙◌, ℕ, List, None, Some, ap, inl, inr, map, string_bytes, subst, sym}
use Rattle.std.specs.Prelude.{Err}
use Rattle.imports.specs.Lines.{IsImport}
use Rattle.ops_tables.specs.Tables.{TableRows}
use Rattle.words.specs.declared.task.DeskTask.TheVariants.{Import}
use Rattle.commands.proofs.Opened.{opens_with}
use Rattle.commands.specs.Answers.{IsRefusal}
use Rattle.commands.specs.Seen.{lent}
use Rattle.commands.specs.Sources.{first_of}
use Rattle.commands.specs.Working.{Imports, ImportsFile, SaysLines, headerless}
use Rattle.commands.specs.declared.fault.Fault.{Fault}
use Rattle.commands.specs.declared.fault.Fault.TheVariants.{BadTable, OutOfMemory}
use Rattle.commands.proofs.commands.import.Goals as goal

is_refusal : (tables : TableRows) (name file : List ℕ) (names texts : List (List ℕ)) (fault : Fault) → name ≡ first_of names → file ≡ first_of texts → SaysLines name file (Err fault) → IsRefusal Import tables names texts (Err fault)
is_refusal tables name file names texts (BadTable bad) named read is = (subst (λ x. IsImport x None) read is.0, is.1 ∙ ap headerless named)
is_refusal tables name file names texts OutOfMemory named read is = tt
is_refusal tables name file names texts other named read is = absurd is

pub returns-in-Ok-clause-works : goal.returns-in-Ok-clause-works
returns-in-Ok-clause-works g c =
    let over = c.open_over in
    let lines = c.in-Ok.lines.items in
    let read = c.first_of.ensures ∙ ap first_of c.as_slice.ensures in
    let is = subst (λ x. IsImport x (Some lines)) read c.in-Ok.ensures.lines in
    inl (
      (lines, is),
      over.ensures.keeper,
      tt,
      opens_with c.args.provided.tables (Imports lines) (ImportsFile (first_of c.args.texts.now)) (lent g.K.Keeper.seen c.args.provided.keeper over.result.keeper) over.result.board over.result.answer
          (λ desk imports. (lines, is, imports)) over.ensures.opens,
    )

pub returns-in-Err-clause-works : goal.returns-in-Err-clause-works
returns-in-Err-clause-works g c =
    let said = c.unopened.ensures in
    let read = c.first_of.ensures ∙ ap first_of c.as_slice.ensures in
    inr (
      subst (λ answer. IsRefusal Import c.args.provided.tables (map string_bytes c.args.names.now) c.args.texts.now answer) (sym said.answer) (is_refusal c.args.provided.tables c.first_name.result.now c.first_of.result.now (map string_bytes c.args.names.now) c.args.texts.now c.in-Err.fault c.first_name.ensures read c.in-Err.ensures.lines),
      record { none = said.none; same = said.keeper },
    )
