use Rattle.std.proofs.Common.{arith, ◌≡◌, ◌∙◌, ap, ap₂, refl, subst, inl, inr, Result, Ok, Err, IfErr, [], map, string_bytes}
use Rattle.std.proofs.lemmas.List.{length-map}
use Rattle.std.proofs.lemmas.Result.{IfOk-weaker}
use Rattle.clap.specs.Simple.{subcommand_of}
use Rattle.clap.specs.Words.{FailsBy, kind_of, fault_of, is_simple, is_simple_and_free}
use Rattle.clap.specs.declared.error.Error.{Error}
use Rattle.clap.specs.declared.error.kind.ErrorKind.TheVariants as kind
use Rattle.words.specs.Names.{asked_in}
use Rattle.words.proofs.Walks.{simple, simple_app, none_fail, asked_found}
use Rattle.words.proofs.reading.read.Goals as goal

memory_alone : {T : Type 0} (r : Result T Error) → FailsBy [] r → IfErr r (λ e. kind_of e ≡ kind.OutOfMemory)
memory_alone (Ok x) h = tt
memory_alone (Err e) h = elim h [ inl m ↦ m | inr none ↦ absurd none ]

pub returns-clause-asked : goal.returns-clause-asked
returns-clause-asked c =
    let app = c.in_ok-desk.ensures in
    let words = map string_bytes c.args.words.now in
    IfOk-weaker c.try_get_matches_from.result _ _
    (λ m has. ap asked_in ((has (ap is_simple app ∙ simple_app)).1 ∙ ap₂ subcommand_of app (refl {a = words})) ∙ asked_found words c.requires)
    c.try_get_matches_from.ensures.matches

pub returns-clause-fails : goal.returns-clause-fails
returns-clause-fails c =
    let app = c.in_ok-desk.ensures in
    let none = ap₂ fault_of app (refl {a = map string_bytes c.args.words.now}) ∙ none_fail _ (omega (arith, length-map c.args.words.now string_bytes, c.if-prove.false)) c.requires in
    memory_alone c.try_get_matches_from.result (subst (λ k. FailsBy k c.try_get_matches_from.result) none (c.try_get_matches_from.ensures.kinds (ap is_simple_and_free app ∙ simple)))
