-- The fields of a release that is read have their forms, and it is valid.
use Rattle.std.proofs.Common.{◌≡◌, ℕ, true, List, Option, None, Some, IfSome, codes, refl, is_some, nat_le}
use Rattle.std.specs.Prelude.{option_and_then}
use Rattle.std.specs.List.{AllByRecursion}
use Rattle.std.specs.Str.{is_utf8}
use Rattle.std.proofs.lemmas.Bool.{leb-true}
use Rattle.std.proofs.lemmas.Str.{IsUtf8-from_is_utf8}
use Rattle.serde_json.specs.Data.{Data}
use Rattle.serde_json.specs.Find.{get, as_null, as_number, as_u64}
use Rattle.ops_tables.specs.Forms.{is_person}
use Rattle.plan.specs.Texts.{HasMoment}
use Rattle.desk_time.specs.Limits.{IsMoment}
use Rattle.desk_time.specs.Moments.{up_to}
use Rattle.plan.specs.declared.release.Phase.{Phase}
use Rattle.plan.specs.declared.release.Phase.TheVariants.{Drafted, Ready, Flying, Stopped, Completed, Cancelled}
use Rattle.plan.specs.declared.release.Release.{Release}
use Rattle.plan.specs.declared.release.Revision.{Revision}
use Rattle.plan.specs.declared.release.Signature.{Signature}
use Rattle.asks.specs.Forms.{IsId, IsHours, HasForms, IsAttached, IsSignature, IsRevision, IsFormed}
use Rattle.asks.specs.Digests.{digest_at, IsDigest}
use Rattle.asks.specs.Fields.{text_at, id_at, moment_at, list_at, has_members}
use Rattle.asks.specs.Plans.{plan_of}
use Rattle.release_json.specs.Kept.{IsKept, is_valid}
use Rattle.release_json.specs.Phases.{IsPhase, phase_of}
use Rattle.release_json.specs.Plans.{MayHavePlan, HasPlans}
use Rattle.release_json.specs.Releases.{bool_at, person, person_at, attached_with, attached_of, attached_at, signature_of, signature_in, signature_at, signatures_of, hours_of, hours_in, hours_at, head_of, plan_at, revision_of, revision_in, revision_at, revisions_of, phase_at, release_with, release_in, release_of}
use Rattle.release_json.specs.Rows.{SignedAtMoment, RevisionHasMoments, ReleaseHasMoments}
use Rattle.release_json.specs.Versions.{members_of, SaysRelease}
use Rattle.release_json.specs.declared.version.Version.{Version}
use Rattle.release_json.specs.declared.version.Version.TheVariants.{First, Second}
use Rattle.release_json.specs.declared.revisions.Head.{Head}
use Rattle.release_json.specs.declared.revisions.Signatures.{Signatures}
use Rattle.release_json.specs.declared.releases.Revisions.{Revisions}
use Rattle.desk_time.proofs.Chains.{bind_if, bind_any, then_if, under, either}
use Rattle.release_json.proofs.KeptLaws.{valid_from_test}
use Rattle.release_json.proofs.PhaseLaws.{phase_formed}
use Rattle.asks.proofs.PlanForms.{id_formed, moment_formed, each_formed, plan_formed, plan_from_forms}
use Rattle.std.proofs.lemmas.Option.{IfSome_then}
use Rattle.asks.proofs.DoneForms.{digest_is}

-- ---- fields

abbrev pub IsPerson : List ℕ → Type 0
IsPerson t = is_person t ≡ true

pub person_formed : (t : List ℕ) → IfSome (person t) IsPerson
person_formed t = under (is_person t) (Some t) IsPerson (λ is. is)

pub person_at_formed : (key : List ℕ) (d : Data) → IfSome (person_at key d) IsPerson
person_at_formed key d = then_if person (text_at key d) IsPerson person_formed

-- ---- revisions

with_formed : (report : ℕ) (text : List ℕ) → IsId report → IfSome (attached_with report text) IsAttached
with_formed report text is = under (is_utf8 text) _ IsAttached (λ good. record { report = is; text = IsUtf8-from_is_utf8 text good })

attached_formed : (d : Data) → IfSome (attached_of d) IsAttached
attached_formed d =
    bind_if (id_at (codes "report") d) _ IsId IsAttached (id_formed (codes "report") d) (λ report is.
    bind_any (text_at (codes "text") d) _ IsAttached (λ text. under (has_members 2 d) (attached_with report text) IsAttached (λ exact. with_formed report text is)))

all_formed : (d : Data) → IfSome (attached_at d) (AllByRecursion IsAttached)
all_formed d = bind_any (list_at (codes "attached") d) _ (AllByRecursion IsAttached) (λ ds. each_formed IsAttached attached_of attached_formed ds)

signature_formed : (d : Data) → IfSome (signature_of d) IsSignature
signature_formed d =
    bind_if (person_at (codes "actor") d) _ IsPerson IsSignature (person_at_formed (codes "actor") d) (λ actor is_actor.
    bind_if (moment_at (codes "at") d) _ IsMoment IsSignature (moment_formed (codes "at") d) (λ at is_at.
    bind_if (digest_at (codes "digest") d) _ IsDigest IsSignature (digest_is (codes "digest") d) (λ digest is_digest.
    under (has_members 3 d) _ IsSignature (λ exact. record { actor = is_actor; at = is_at; digest = is_digest }))))

abbrev MayBeSignature : Option Signature → Type 0
MayBeSignature s = IfSome s IsSignature

signature_in_formed : (d : Data) → IfSome (signature_in d) MayBeSignature
unfolding signature_in
signature_in_formed d = either (is_some (as_null d)) _ _ MayBeSignature tt (bind_if (signature_of d) _ IsSignature MayBeSignature (signature_formed d) (λ s is. is))

signature_at_formed : (key : List ℕ) (d : Data) → IfSome (signature_at key d) MayBeSignature
signature_at_formed key d = then_if signature_in (get key d) MayBeSignature signature_in_formed

record AreSignatures (s : Signatures) : Type 0 where
  first : MayBeSignature s.dispatcher
  second : MayBeSignature s.captain

signatures_formed : (d : Data) → IfSome (signatures_of d) AreSignatures
signatures_formed d =
    bind_if (signature_at (codes "dispatcher") d) _ MayBeSignature AreSignatures (signature_at_formed (codes "dispatcher") d) (λ dispatcher one.
    bind_if (signature_at (codes "captain") d) _ MayBeSignature AreSignatures (signature_at_formed (codes "captain") d) (λ captain two. record { first = one; second = two }))

abbrev MayBeHours : Option ℕ → Type 0
MayBeHours hours = IfSome hours IsHours

hours_formed : (d : Data) → IfSome (hours_of d) IsHours
hours_formed d =
    then_if (up_to 100_000) (option_and_then as_u64 (as_number d)) IsHours (λ n. under (nat_le n 100_000) (Some n) IsHours (leb-true n 100_000))

hours_in_formed : (d : Data) → IfSome (hours_in d) MayBeHours
unfolding hours_in
hours_in_formed d = either (is_some (as_null d)) _ _ MayBeHours tt (bind_if (hours_of d) _ IsHours MayBeHours (hours_formed d) (λ hours is. is))

-- hours that rows of a version can say
abbrev pub MaySayHours : Version → Option ℕ → Type 0
MaySayHours First hours = hours ≡ None
MaySayHours Second hours = Unit {0}

-- a revision that rows of a version can say
abbrev pub SaysRevision : Version → Revision → Type 0
SaysRevision version v = MaySayHours version v.hours

-- what is read of a captain's hours in rows of a version
record AreHours (version : Version) (hours : Option ℕ) : Type 0 where
  few : MayBeHours hours
  says : MaySayHours version hours

hours_at_formed : (version : Version) (d : Data) → IfSome (hours_at version d) (AreHours version)
hours_at_formed First d = record { few = tt; says = refl }
hours_at_formed Second d =
    IfSome_then (option_and_then hours_in (get (codes "hours") d)) (then_if hours_in (get (codes "hours") d) MayBeHours hours_in_formed) (λ hours few. record { few = few; says = tt })

record IsHead (version : Version) (h : Head) : Type 0 where
  number : IsId h.number
  hours : AreHours version h.hours

head_formed : (version : Version) (d : Data) → IfSome (head_of version d) (IsHead version)
head_formed version d =
    bind_if (id_at (codes "number") d) _ IsId (IsHead version) (id_formed (codes "number") d) (λ number is.
    bind_any (bool_at (codes "prepared") d) _ (IsHead version) (λ prepared.
    bind_if (hours_at version d) _ (AreHours version) (IsHead version) (hours_at_formed version d) (λ hours are.
    under (has_members (members_of version) d) _ (IsHead version) (λ exact. record { number = is; hours = are }))))

plan_at_formed : (d : Data) → IfSome (plan_at d) HasForms
plan_at_formed d = then_if plan_of (get (codes "plan") d) HasForms plan_formed

-- a revision that is read in rows of a version
record IsRead (version : Version) (v : Revision) : Type 0 where
  formed : IsRevision v
  says : SaysRevision version v

revision_formed : (version : Version) (d : Data) → IfSome (revision_of version d) (IsRead version)
revision_formed version d =
    bind_if (head_of version d) _ (IsHead version) (IsRead version) (head_formed version d) (λ h is_head.
    bind_if (plan_at d) _ HasForms (IsRead version) (plan_at_formed d) (λ plan is_plan.
    bind_if (signatures_of d) _ AreSignatures (IsRead version) (signatures_formed d) (λ s are.
    bind_if (attached_at d) _ (AllByRecursion IsAttached) (IsRead version) (all_formed d) (λ attached all. record {
      formed = record { number = is_head.number; plan = is_plan; attached = all; dispatcher = are.first; captain = are.second; hours = is_head.hours.few };
      says = is_head.hours.says;
    }))))

abbrev MayBeRevision : Version → Option Revision → Type 0
MayBeRevision version v = IfSome v (IsRead version)

revision_in_formed : (version : Version) (d : Data) → IfSome (revision_in version d) (MayBeRevision version)
unfolding revision_in
revision_in_formed version d =
    either (is_some (as_null d)) _ _ (MayBeRevision version) tt (bind_if (revision_of version d) _ (IsRead version) (MayBeRevision version) (revision_formed version d) (λ v is. is))

revision_at_formed : (version : Version) (key : List ℕ) (d : Data) → IfSome (revision_at version key d) (MayBeRevision version)
revision_at_formed version key d = then_if (revision_in version) (get key d) (MayBeRevision version) (revision_in_formed version)

record AreRevisions (version : Version) (v : Revisions) : Type 0 where
  later : MayBeRevision version v.pending
  earlier : MayBeRevision version v.active

revisions_formed : (version : Version) (d : Data) → IfSome (revisions_of version d) (AreRevisions version)
revisions_formed version d =
    bind_if (revision_at version (codes "pending") d) _ (MayBeRevision version) (AreRevisions version) (revision_at_formed version (codes "pending") d) (λ pending one.
    bind_if (revision_at version (codes "active") d) _ (MayBeRevision version) (AreRevisions version) (revision_at_formed version (codes "active") d) (λ active two. record { later = one; earlier = two }))

-- ---- releases

phase_at_formed : (d : Data) → IfSome (phase_at d) IsPhase
phase_at_formed d = then_if phase_of (text_at (codes "phase") d) IsPhase phase_formed

pub moment_of_phase : (p : Phase) → IsPhase p → HasMoment p
moment_of_phase Drafted is = tt
moment_of_phase Ready is = tt
moment_of_phase (Flying leg) is = tt
moment_of_phase (Stopped next since again) is = is.1
moment_of_phase (Completed at) is = is
moment_of_phase (Cancelled at) is = is

each_formed_of : (version : Version) (v : Option Revision) → MayBeRevision version v → IfSome v IsRevision
each_formed_of version v is = IfSome_then v is (λ w read. read.formed)

each_says : (version : Version) (v : Option Revision) → MayBeRevision version v → IfSome v (SaysRevision version)
each_says version v is = IfSome_then v is (λ w read. read.says)

pub release_formed : (version : Version) (id : ℕ) (d : Data) → IfSome (release_in version id d) IsFormed
unfolding release_in
release_formed version id d =
    bind_if (person_at (codes "holder") d) _ IsPerson IsFormed (person_at_formed (codes "holder") d) (λ holder is_holder.
    bind_if (phase_at d) _ IsPhase IsFormed (phase_at_formed d) (λ phase is_phase.
    bind_if (revisions_of version d) _ (AreRevisions version) IsFormed (revisions_formed version d) (λ v are.
    under (has_members 4 d) _ IsFormed (λ exact. record {
      holder = is_holder;
      moment = moment_of_phase phase is_phase;
      pending = each_formed_of version v.pending are.later;
      active = each_formed_of version v.active are.earlier;
    }))))

both_say : (version : Version) (r : Release) → IfSome r.pending (SaysRevision version) → IfSome r.active (SaysRevision version) → SaysRelease version r
both_say First r pending active = record { pending = pending; active = active }
both_say Second r pending active = tt

in_says : (version : Version) (id : ℕ) (d : Data) → IfSome (release_in version id d) (SaysRelease version)
unfolding release_in
in_says version id d =
    bind_any (person_at (codes "holder") d) _ (SaysRelease version) (λ holder.
    bind_any (phase_at d) _ (SaysRelease version) (λ phase.
    bind_if (revisions_of version d) _ (AreRevisions version) (SaysRelease version) (revisions_formed version d) (λ v are.
    under (has_members 4 d) _ (SaysRelease version) (λ exact. both_say version (release_with id holder phase v) (each_says version v.pending are.later) (each_says version v.active are.earlier)))))

-- what is read in rows of a version is said by these whole
pub release_says : (version : Version) (id : ℕ) (d : Data) → IfSome (release_of version id d) (SaysRelease version)
unfolding release_of
release_says version id d =
    bind_if (release_in version id d) _ (SaysRelease version) (SaysRelease version) (in_says version id d) (λ r says. under (is_valid r) (Some r) (SaysRelease version) (λ is. says))

may_have_plan : (v : Option Revision) → IfSome v IsRevision → MayHavePlan v
may_have_plan None is = tt
may_have_plan (Some v) is = plan_from_forms v.plan is.plan

has_plans : (r : Release) → IsFormed r → HasPlans r
has_plans r is = record { pending = may_have_plan r.pending is.pending; active = may_have_plan r.active is.active }

-- each plan of what is read is one whose text can be made
pub release_plans : (version : Version) (id : ℕ) (d : Data) → IfSome (release_in version id d) HasPlans
release_plans version id d = IfSome_then (release_in version id d) (release_formed version id d) has_plans

-- only valid releases are read
pub release_kept : (version : Version) (id : ℕ) (d : Data) → IfSome (release_of version id d) IsKept
unfolding release_of
release_kept version id d =
    bind_if (release_in version id d) _ IsFormed IsKept (release_formed version id d) (λ r formed. under (is_valid r) (Some r) IsKept (λ is. record { formed = formed; valid = valid_from_test r is }))

abbrev IsNamed : ℕ → Release → Type 0
IsNamed id r = r.id ≡ id

in_named : (version : Version) (id : ℕ) (d : Data) → IfSome (release_in version id d) (IsNamed id)
unfolding release_in
in_named version id d =
    bind_any (person_at (codes "holder") d) _ (IsNamed id) (λ holder. bind_any (phase_at d) _ (IsNamed id) (λ phase. bind_any (revisions_of version d) _ (IsNamed id) (λ v. under (has_members 4 d) _ (IsNamed id) (λ exact. refl))))

-- what is read has the id that was asked for
pub release_named : (version : Version) (id : ℕ) (d : Data) → IfSome (release_of version id d) (IsNamed id)
unfolding release_of
release_named version id d = bind_if (release_in version id d) _ (IsNamed id) (IsNamed id) (in_named version id d) (λ r same. under (is_valid r) (Some r) (IsNamed id) (λ is. same))

signed_at : (s : Option Signature) → IfSome s IsSignature → SignedAtMoment s
signed_at None is = tt
signed_at (Some s) is = is.at

revision_moments : (v : Option Revision) → IfSome v IsRevision → IfSome v RevisionHasMoments
revision_moments None is = tt
revision_moments (Some v) is = record { is_plan = plan_from_forms v.plan is.plan; dispatcher = signed_at v.dispatcher is.dispatcher; captain = signed_at v.captain is.captain }

-- the moments of a release whose fields have their forms can be shown
pub moments_formed : (r : Release) → IsFormed r → ReleaseHasMoments r
moments_formed r is = record { moment = is.moment; pending = revision_moments r.pending is.pending; active = revision_moments r.active is.active }
