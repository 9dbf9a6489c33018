-- What is read of a call has its forms.
use Rattle.std.proofs.Common.{ℕ, ◌≤◌, List, IfSome, IfOk, Result, Ok, Err, Option, None, Some, codes}
use Rattle.std.specs.Prelude.{is_some, option_and_then}
use Rattle.serde_json.specs.Data.{Data}
use Rattle.serde_json.specs.Find.{get, as_object}
use Rattle.desk_time.specs.Limits.{IsMoment}
use Rattle.asks.specs.declared.call.Ask.{Ask}
use Rattle.asks.specs.declared.call.Ask.TheVariants.{Prepare, Cancel, Purge, ViewRelease}
use Rattle.asks.specs.declared.bad_call.BadCall.{BadCall}
use Rattle.asks.specs.declared.call.Call.{Call}
use Rattle.asks.specs.Plain.{HasText}
use Rattle.asks.specs.Digests.{digest_at, IsDigest}
use Rattle.asks.specs.Plans.{plan_of}
use Rattle.asks.specs.Fields.{text_at, id_at, amount_at, short_at, station_at, moment_at}
use Rattle.asks.specs.Forms.{IsAmount, IsId, IsShort, HasForms, AskHasForms, CallHasForms}
use Rattle.desk_time.proofs.Chains.{then_if, under}
use Rattle.asks.proofs.PlanForms.{IsAirport, number_formed, id_formed, amount_formed, station_formed, moment_formed, plan_formed}
use Rattle.asks.proofs.DoneForms.{digest_is}
use Rattle.compact_json.specs.Kept as kept
use Rattle.asks.proofs.DocumentTexts.{data_has_text}
use Rattle.asks.proofs.ValueTexts.{found_has_text, text_formed, short_formed}
use Rattle.desk_json.specs.declared.asked.Signed.{Signed}
use Rattle.desk_json.specs.declared.asked.Flown.{Flown}
use Rattle.desk_json.specs.declared.keys.AskKind.{AskKind}
use Rattle.desk_json.specs.declared.keys.AskKind.TheVariants as kind
use Rattle.desk_json.specs.declared.keys.Object.TheVariants as object
use Rattle.desk_json.specs.declared.bad_call.CallFault.{CallFault}
use Rattle.desk_json.specs.Canonical.{LineHasForms}
use Rattle.desk_json.specs.Keys.{and_then, found, only_keys}
use Rattle.desk_json.specs.Faults.{plan_at, release_of, signed_of, flown_of, ask_of_kind, ask_by, kind_of, ask_or_fault, if_object, object_at, request_at, call_by, call_in, line_fields, line_in, Answers}
use Rattle.desk_json.proofs.Results.{told, answered, formed, formed_after}

-- ---- asks

pub plan_at_formed : (d : Data) → IfSome (plan_at (codes "plan") d) HasForms
plan_at_formed d = then_if plan_of (get (codes "plan") d) HasForms plan_formed

pub id_then : {B : Type 0} (key : List ℕ) (d : Data) (f : ℕ → Result B BadCall) (Q : B → Type 0) → ((n : ℕ) → IsId n → IfOk (told (f n)) Q) → IfOk (told (and_then (found key d (id_at key d)) f)) Q
id_then key d f Q next = formed key d (id_at key d) f IsId Q (id_formed key d) next

pub short_then : {B : Type 0} (key : List ℕ) (d : Data) (f : List ℕ → Result B BadCall) (Q : B → Type 0) → HasText d → ((t : List ℕ) → IsShort t → IfOk (told (f t)) Q) → IfOk (told (and_then (found key d (short_at key d)) f)) Q
short_then key d f Q has next = formed key d (short_at key d) f IsShort Q (short_formed key d has) next

pub moment_then : {B : Type 0} (key : List ℕ) (d : Data) (f : ℕ → Result B BadCall) (Q : B → Type 0) → ((m : ℕ) → IsMoment m → IfOk (told (f m)) Q) → IfOk (told (and_then (found key d (moment_at key d)) f)) Q
moment_then key d f Q next = formed key d (moment_at key d) f IsMoment Q (moment_formed key d) next

-- an ask that names a release alone
release_formed : (d : Data) (make : ℕ → Ask) → ((release : ℕ) → IsId release → AskHasForms (make release)) → IfOk (told (and_then (release_of d) (λ release. Ok (make release)))) AskHasForms
release_formed d make forms = id_then (codes "release") d _ AskHasForms forms

record IsSigned (s : Signed) : Type 0 where
  release : IsId s.release
  revision : IsId s.revision
  digest : IsDigest s.digest

signed_formed : (d : Data) → IfOk (told (signed_of d)) IsSigned
signed_formed d =
    formed (codes "digest") d (digest_at (codes "digest") d) _ IsDigest IsSigned (digest_is (codes "digest") d) (λ digest is_digest.
    id_then (codes "release") d _ IsSigned (λ release is_release.
    id_then (codes "revision") d _ IsSigned (λ revision is_revision. record { release = is_release; revision = is_revision; digest = is_digest })))

record IsFlown (f : Flown) : Type 0 where
  release : IsId f.release
  leg : IsAmount f.leg

flown_formed : (d : Data) → IfOk (told (flown_of d)) IsFlown
flown_formed d =
    formed (codes "leg") d (amount_at (codes "leg") d) _ IsAmount IsFlown (amount_formed (codes "leg") d) (λ leg is_leg.
    id_then (codes "release") d _ IsFlown (λ release is_release. record { release = is_release; leg = is_leg }))

kind_formed : (k : AskKind) (d : Data) → HasText d → IfOk (told (ask_of_kind k d)) AskHasForms
kind_formed kind.Admit d has = formed (codes "text") d (text_at (codes "text") d) _ _ AskHasForms (text_formed (codes "text") d has) (λ text is. is)
kind_formed kind.Defer d has =
    moment_then (codes "found") d _ AskHasForms (λ found is_found.
    short_then (codes "item") d _ AskHasForms has (λ item is_item.
    short_then (codes "tail") d _ AskHasForms has (λ tail is_tail. (is_tail, is_item, is_found))))
kind_formed kind.Clear d has = id_then (codes "deferral") d _ AskHasForms (λ deferral is. is)
kind_formed kind.Draft d has = formed (codes "plan") d (plan_at (codes "plan") d) _ HasForms AskHasForms (plan_at_formed d) (λ plan is. is)
kind_formed kind.Prepare d has = release_formed d (λ release. Prepare release) (λ release is. is)
kind_formed kind.Sign d has = formed_after (signed_of d) _ IsSigned AskHasForms (signed_formed d) (λ s is. (is.release, is.revision, is.digest))
kind_formed kind.Concur d has = formed_after (signed_of d) _ IsSigned AskHasForms (signed_formed d) (λ s is. (is.release, is.revision, is.digest))
kind_formed kind.Amend d has =
    formed (codes "plan") d (plan_at (codes "plan") d) _ HasForms AskHasForms (plan_at_formed d) (λ plan is_plan.
    id_then (codes "release") d _ AskHasForms (λ release is_id. (is_id, is_plan)))
kind_formed kind.Cancel d has = release_formed d (λ release. Cancel release) (λ release is. is)
kind_formed kind.Depart d has = formed_after (flown_of d) _ IsFlown AskHasForms (flown_formed d) (λ f is. (is.release, is.leg))
kind_formed kind.Arrive d has = formed_after (flown_of d) _ IsFlown AskHasForms (flown_formed d) (λ f is. (is.release, is.leg))
kind_formed kind.Acknowledge d has =
    id_then (codes "release") d _ AskHasForms (λ release is_release. id_then (codes "version") d _ AskHasForms (λ version is_version. (is_release, is_version)))
kind_formed kind.Purge d has = release_formed d (λ release. Purge release) (λ release is. is)
kind_formed kind.Sweep d has = moment_then (codes "before") d _ AskHasForms (λ before is. is)
kind_formed kind.Board d has = tt
kind_formed kind.Alerts d has = tt
kind_formed kind.Release d has = release_formed d (λ release. ViewRelease release) (λ release is. is)
kind_formed kind.Weather d has = formed (codes "station") d (station_at (codes "station") d) _ IsAirport AskHasForms (station_formed (codes "station") d) (λ station is. is)
kind_formed kind.Deferred d has = short_then (codes "tail") d _ AskHasForms has (λ tail is. is)

-- ---- calls

-- after a step of which nothing is known
pub then_any : {A B : Type 0} (r : Result A BadCall) (f : A → Result B BadCall) (Q : B → Type 0) → ((x : A) → IfOk (told (f x)) Q) → IfOk (told (and_then r f)) Q
then_any (Err b) f Q next = tt
then_any (Ok x) f Q next = next x

by_formed : (k : Option AskKind) (d : Data) → HasText d → IfOk (told (ask_by k d)) AskHasForms
by_formed None d has = tt
by_formed (Some k) d has = then_any (only_keys (object.Asked k) d) _ AskHasForms (λ only. kind_formed k d has)

ask_formed : (d : Data) → HasText d → IfOk (told (ask_or_fault d)) AskHasForms
ask_formed d has = then_any (found (codes "do") d (text_at (codes "do") d)) _ AskHasForms (λ name. by_formed (kind_of name) d has)

pub object_formed : (o : Option Data) → IfSome o HasText → IfSome (option_and_then if_object o) HasText
object_formed None has = tt
object_formed (Some d) has = under (is_some (as_object d)) (Some d) HasText (λ is. has)

pub by_call_formed : (actor : List ℕ) (ask d : Data) → HasText ask → HasText d → IsShort actor → IfOk (told (call_by actor ask d)) CallHasForms
by_call_formed actor ask d has_ask has is_actor =
    short_then (codes "key") d _ CallHasForms has (λ key is_key.
    formed (codes "number") d (request_at (codes "number") d) _ (λ n. n ≤ 1_000_000_000_000) CallHasForms (number_formed (codes "number") 1_000_000_000_000 d) (λ number is_number.
    formed_after (ask_or_fault ask) _ AskHasForms CallHasForms (ask_formed ask has_ask) (λ asked is_ask.
    record { actor = is_actor; key = is_key; number = is_number; ask = is_ask })))

-- what stands before the key and the number
pub front_formed : {A : Type 0} (d : Data) (f : List ℕ → Data → Result A BadCall) (Q : A → Type 0) → HasText d → ((actor : List ℕ) (ask : Data) → IsShort actor → HasText ask → IfOk (told (f actor ask)) Q)
    → IfOk (told (and_then (found (codes "actor") d (short_at (codes "actor") d)) (λ actor. and_then (found (codes "ask") d (object_at (codes "ask") d)) (λ ask. f actor ask)))) Q
front_formed d f Q has next =
    short_then (codes "actor") d _ Q has (λ actor is_actor.
    formed (codes "ask") d (object_at (codes "ask") d) _ HasText Q (object_formed (get (codes "ask") d) (found_has_text (codes "ask") d has)) (λ ask has_ask. next actor ask is_actor has_ask))

call_formed : (d : Data) → HasText d → IfOk (told (call_in d)) CallHasForms
call_formed d has =
    then_any (only_keys object.Call d) _ CallHasForms (λ only.
    front_formed d (λ actor ask. call_by actor ask d) CallHasForms has (λ actor ask is_actor has_ask. by_call_formed actor ask d has_ask has is_actor))

pub line_fields_formed : (d : Data) → HasText d → IfOk (told (line_fields d)) LineHasForms
line_fields_formed d has =
    front_formed d _ LineHasForms has (λ actor ask is_actor has_ask.
    moment_then (codes "at") d _ LineHasForms (λ at is_at.
    formed_after (call_by actor ask d) _ CallHasForms LineHasForms (by_call_formed actor ask d has_ask has is_actor) (λ call is. (is_at, is))))

line_formed : (d : Data) → HasText d → IfOk (told (line_in d)) LineHasForms
line_formed d has = then_any (only_keys object.Line d) _ LineHasForms (λ only. line_fields_formed d has)

-- ---- what is answered of boxes

pub call_forms : (bytes : List ℕ) (r : Result Call CallFault) → Answers (call_in (kept.data_of bytes)) r → IfOk r CallHasForms
call_forms bytes r is = answered (λ (x : Result Call CallFault). IfOk x CallHasForms) (call_in (kept.data_of bytes)) r tt (call_formed (kept.data_of bytes) (data_has_text bytes)) is

pub line_forms : (bytes : List ℕ) (r : Result (ℕ × Call) CallFault) → Answers (line_in (kept.data_of bytes)) r → IfOk r LineHasForms
line_forms bytes r is = answered (λ (x : Result (ℕ × Call) CallFault). IfOk x LineHasForms) (line_in (kept.data_of bytes)) r tt (line_formed (kept.data_of bytes) (data_has_text bytes)) is
