-- The JSON of a valid release is read as it.
use Rattle.std.proofs.Common.{◌≡◌, ℕ, ◌≤◌, Bool, true, false, List, [], ◌++◌, Option, None, Some, IfSome, IsUtf8, codes, decimal, refl, sym, ap, ◌∙◌, arith, nat_lt}
use Rattle.std.specs.List.{list_all}
use Rattle.std.specs.Str.Lossy.{utf8_lossy}
use Rattle.std.proofs.lemmas.Bool.{and_parts}
use Rattle.std.proofs.lemmas.Bool.Decides.{nat_tests}
use Rattle.std.proofs.lemmas.Fmt.{IsAscii-decimal}
use Rattle.std.proofs.lemmas.Str.{IsUtf8-append, IsUtf8-from_ascii, utf8_lossy-IsUtf8, is_utf8-from_IsUtf8}
use Rattle.json.proofs.Printed.Utf8.{IsUtf8-are_ascii}
use Rattle.serde_json.specs.Data.{Data}
use Rattle.desk_time.specs.Moments.{shown}
use Rattle.ops_tables.specs.Forms.{in_person, is_person}
use Rattle.plan.specs.Texts.{HasMoment, phase_text, again_text}
use Rattle.plan.specs.declared.release.Attached.{Attached}
use Rattle.plan.specs.declared.release.Phase.{Phase}
use Rattle.plan.specs.declared.release.Phase.TheVariants.{Drafted, Ready, Flying, Stopped, Completed, Cancelled}
use Rattle.plan.specs.declared.release.Release.{Release}
use Rattle.plan.specs.declared.release.Revision.{Revision}
use Rattle.plan.specs.declared.release.Signature.{Signature}
use Rattle.asks.proofs.Again.{small_again, id_again, moment_again, plan_again, each_again}
use Rattle.asks.proofs.Texts.{passing_utf8, moment_utf8}
use Rattle.asks.proofs.DigestLaws.{digest_again}
use Rattle.asks.specs.Forms.{IsHours, IsAttached, IsSignature, IsRevision, IsFormed}
use Rattle.release_json.specs.Kept.{IsKept}
use Rattle.release_text.specs.Valid.{IsPhased, HasLegs}
use Rattle.release_json.specs.Phases.{IsPhase, phase_of}
use Rattle.release_json.specs.Releases.{person, attached_with, attached_of, signature_in, hours_in, revision_in, release_in, release_of}
use Rattle.release_json.specs.Rows.{attached_data, signature_data, hours_data, revision_data, release_data}
use Rattle.release_json.specs.Versions.{SaysRelease}
use Rattle.release_json.specs.declared.version.Version.{Version}
use Rattle.release_json.specs.declared.version.Version.TheVariants.{First, Second}
use Rattle.release_json.proofs.KeptLaws.{test_from_valid}
use Rattle.release_json.proofs.PhaseLaws.{phase_again}
use Rattle.release_json.proofs.ReleaseForms.{SaysRevision}

-- ---- texts

ascii : (b : ℕ) → in_person b ≡ true → nat_lt b 128 ≡ true
ascii b is = grind (arith, nat_tests, is)

pub person_utf8 : (t : List ℕ) → is_person t ≡ true → IsUtf8 t
unfolding is_person
person_utf8 t is = passing_utf8 in_person ascii t ((and_parts _ (list_all in_person t) is).1)

pub person_again : (t : List ℕ) → is_person t ≡ true → person (utf8_lossy t) ≡ Some t
person_again t is = rw (utf8_lossy-IsUtf8 t (person_utf8 t is), is) refl

decimal_utf8 : (n : ℕ) → n ≤ 4_294_967_295 → IsUtf8 (decimal n)
decimal_utf8 n few = IsUtf8-from_ascii (decimal n) (IsAscii-decimal n (omega arith))

again_utf8 : (again : Bool) → IsUtf8 (again_text again ++ [])
again_utf8 true = IsUtf8-are_ascii _ refl
again_utf8 false = IsUtf8-are_ascii _ refl

pub phase_utf8 : (p : Phase) → IsPhase p → IsUtf8 (phase_text p)
unfolding phase_text
phase_utf8 Drafted is = IsUtf8-are_ascii _ refl
phase_utf8 Ready is = IsUtf8-are_ascii _ refl
phase_utf8 (Flying leg) is = IsUtf8-append (codes "FLYING ") (decimal leg) (IsUtf8-are_ascii _ refl) (decimal_utf8 leg is)
phase_utf8 (Stopped next since again) is =
    IsUtf8-append (codes "STOPPED ") (decimal next ++ (codes " " ++ (shown since ++ (again_text again ++ [])))) (IsUtf8-are_ascii _ refl)
    (IsUtf8-append (decimal next) (codes " " ++ (shown since ++ (again_text again ++ []))) (decimal_utf8 next is.0)
    (IsUtf8-append (codes " ") (shown since ++ (again_text again ++ [])) (IsUtf8-are_ascii _ refl)
    (IsUtf8-append (shown since) (again_text again ++ []) (moment_utf8 since (omega (arith, is.1))) (again_utf8 again))))
phase_utf8 (Completed at) is = IsUtf8-append (codes "COMPLETED ") (shown at) (IsUtf8-are_ascii _ refl) (moment_utf8 at (omega (arith, is)))
phase_utf8 (Cancelled at) is = IsUtf8-append (codes "CANCELLED ") (shown at) (IsUtf8-are_ascii _ refl) (moment_utf8 at (omega (arith, is)))

text_again : (report : ℕ) (t : List ℕ) → IsUtf8 t → attached_with report (utf8_lossy t) ≡ Some (record { report = report; text = t })
text_again report t is = rw (utf8_lossy-IsUtf8 t is, is_utf8-from_IsUtf8 t is) refl

pub phase_text_again : (p : Phase) → IsPhase p → phase_of (utf8_lossy (phase_text p)) ≡ Some p
phase_text_again p is = ap phase_of (utf8_lossy-IsUtf8 (phase_text p) (phase_utf8 p is)) ∙ phase_again p is

-- ---- revisions

attached_again : (a : Attached) → IsAttached a → attached_of (attached_data a) ≡ Some a
attached_again a is = rw (id_again a.report is.report, text_again a.report a.text is.text) refl

signature_again : (s : Option Signature) → IfSome s IsSignature → signature_in (signature_data s) ≡ Some s
unfolding signature_in signature_data
signature_again None is = refl
signature_again (Some s) is = rw (person_again s.actor is.actor, moment_again s.at is.at, digest_again s.digest is.digest) refl

hours_again : (hours : Option ℕ) → IfSome hours IsHours → hours_in (hours_data hours) ≡ Some hours
unfolding hours_in hours_data
hours_again None is = refl
hours_again (Some hours) is = rw (small_again hours 100_000 is) refl

-- without its captain's hours
old_again : (v : Option Revision) → IfSome v IsRevision → IfSome v (SaysRevision First) → revision_in First (revision_data First v) ≡ Some v
unfolding revision_in revision_data
old_again None is says = refl
old_again (Some v) is says =
    rw (
      id_again v.number is.number,
      plan_again v.plan is.plan,
      signature_again v.dispatcher is.dispatcher,
      signature_again v.captain is.captain,
      each_again IsAttached attached_of attached_data attached_again v.attached is.attached,
    ) (ap (λ (hours : Option ℕ). Some (Some (record v { hours = hours }))) (sym says))

-- with its captain's hours
new_again : (v : Option Revision) → IfSome v IsRevision → revision_in Second (revision_data Second v) ≡ Some v
unfolding revision_in revision_data
new_again None is = refl
new_again (Some v) is =
    rw (
      id_again v.number is.number,
      hours_again v.hours is.hours,
      plan_again v.plan is.plan,
      signature_again v.dispatcher is.dispatcher,
      signature_again v.captain is.captain,
      each_again IsAttached attached_of attached_data attached_again v.attached is.attached,
    ) refl

revision_again : (version : Version) (v : Option Revision) → IfSome v IsRevision → IfSome v (SaysRevision version) → revision_in version (revision_data version v) ≡ Some v
revision_again First v is says = old_again v is says
revision_again Second v is says = new_again v is

any_revision : (v : Option Revision) → IfSome v (SaysRevision Second)
any_revision None = tt
any_revision (Some v) = tt

each_says : (version : Version) (r : Release) → SaysRelease version r → IfSome r.pending (SaysRevision version) × IfSome r.active (SaysRevision version)
each_says First r says = (says.pending, says.active)
each_says Second r says = (any_revision r.pending, any_revision r.active)

-- ---- releases

phase_of_kept : (p : Phase) (pending active : Option Revision) → HasMoment p → IsPhased p pending active → IfSome active IsRevision → IfSome active (HasLegs p) → IsPhase p
phase_of_kept Drafted pending active moment phased formed legs = tt
phase_of_kept Ready pending active moment phased formed legs = tt
phase_of_kept (Flying leg) pending None moment phased formed legs = absurd phased
phase_of_kept (Flying leg) pending (Some v) moment phased formed legs = omega (arith, formed.plan.few, legs.fits.1)
phase_of_kept (Stopped next since again) pending None moment phased formed legs = absurd phased
phase_of_kept (Stopped next since again) pending (Some v) moment phased formed legs = (omega (arith, formed.plan.few, legs.fits.1), moment)
phase_of_kept (Completed at) pending active moment phased formed legs = moment
phase_of_kept (Cancelled at) pending active moment phased formed legs = moment

pub phase_kept : (r : Release) → IsKept r → IsPhase r.phase
phase_kept r is = phase_of_kept r.phase r.pending r.active is.formed.moment is.valid.phased is.formed.active is.valid.active_legs

in_again : (version : Version) (r : Release) → IsFormed r → IsPhase r.phase → SaysRelease version r → release_in version r.id (release_data version r) ≡ Some r
unfolding release_in release_data
in_again version r is phase says =
    let each = each_says version r says in
    rw (
      person_again r.holder is.holder,
      phase_text_again r.phase phase,
      revision_again version r.pending is.pending each.0,
      revision_again version r.active is.active each.1,
    ) refl

-- the release that is written is read
pub release_again : (version : Version) (r : Release) → IsKept r → SaysRelease version r → release_of version r.id (release_data version r) ≡ Some r
unfolding release_of
release_again version r is says = rw (in_again version r is.formed (phase_kept r is) says, test_from_valid r is.valid) refl

pub release_at_again : (version : Version) (id : ℕ) (d : Data) (r : Release) → IsKept r → SaysRelease version r → r.id ≡ id → d ≡ release_data version r → release_of version id d ≡ Some r
release_at_again version id d r is says same written = rw (written, ← same) (release_again version r is says)
