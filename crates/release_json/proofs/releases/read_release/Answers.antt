use Rattle.std.proofs.Common.{◌∙◌, sym, subst, Option, IfSome}
use Rattle.std.proofs.lemmas.Option.{IfSome_then}
use Rattle.std.proofs.lemmas.Result.{IfOk-weaker}
use Rattle.serde_json.specs.View.{view}
use Rattle.plan.specs.declared.release.Release.{Release}
use Rattle.release_text.specs.Valid.{HoursAreSigned}
use Rattle.release_json.specs.Kept.{IsKept}
use Rattle.release_json.specs.Releases.{release_of}
use Rattle.release_json.specs.Versions.{SaysRelease}
use Rattle.release_json.proofs.KeptLaws.{hours_signed}
use Rattle.release_json.proofs.ReleaseForms.{release_kept, release_says}
use Rattle.release_json.proofs.ReleaseLaws.{release_at_again}
use Rattle.release_json.proofs.releases.read_release.Goals as goal

pub returns-clause-kept : goal.returns-clause-kept
returns-clause-kept c =
    IfOk-weaker c.valid_release.result _ _ (λ r is. subst (λ (o : Option Release). IfSome o IsKept) (sym is) (release_kept c.args.version c.args.id (view c.args.value.now))) c.valid_release.ensures

pub returns-clause-signed : goal.returns-clause-signed
returns-clause-signed c =
    let d = view c.args.value.now in
    let signed = IfSome_then (release_of c.args.version c.args.id d) (release_kept c.args.version c.args.id d) (λ r kept. hours_signed r kept.valid) in
    IfOk-weaker c.valid_release.result _ _ (λ r is. subst (λ (o : Option Release). IfSome o HoursAreSigned) (sym is) signed) c.valid_release.ensures

pub returns-clause-says : goal.returns-clause-says
returns-clause-says c =
    IfOk-weaker c.valid_release.result _ _ (λ r is. subst (λ (o : Option Release). IfSome o (SaysRelease c.args.version)) (sym is) (release_says c.args.version c.args.id (view c.args.value.now))) c.valid_release.ensures

pub returns-clause-again : goal.returns-clause-again
returns-clause-again c =
    IfOk-weaker c.valid_release.result _ _ (λ read is r kept says same written. is ∙ release_at_again c.args.version c.args.id (view c.args.value.now) r kept says same written) c.valid_release.ensures
