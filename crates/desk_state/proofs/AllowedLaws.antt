-- Each ask changes no more than it may.
use Rattle.std.proofs.Common.{◌≡◌, ◌⊎◌, ℕ, ◌+◌, ◌<◌, ◌&&◌, ltb, IfSome, Bool, true, false, List, Option, None, Some, Result, Ok, Err, inl, inr, refl, ap, subst, sym, cond, eqb, eq-eqb, ◌≢◌, ◌||◌, [], ◌∷◌, length, is_some, is_none, arith}
use Rattle.std.specs.Prelude.{nat_le, nat_lt, find}
use Rattle.std.specs.Option.{option_map}
use Rattle.std.proofs.lemmas.Bool.{leb-true, leb-false, ltb-true, ltb-false, eqb-true, or_cases, or_right, and_parts}
use Rattle.std.specs.Str.{bytes_eq}
use Rattle.std.specs.List.{list_any}
use Rattle.codes.specs.Groups.{groups_of, canonical}
use Rattle.ops_tables.specs.Rows.{Actor}
use Rattle.ops_tables.specs.declared.rows.TypeRow.{TypeRow}
use Rattle.ops_tables.specs.declared.rows.MelRow.{MelRow}
use Rattle.ops_tables.specs.Tables.{actor_of, type_of, item_of, has_airport, is_captain_role}
use Rattle.deferrals.specs.Held.{has_id}
use Rattle.facts.specs.Same.{is_same, same_id, minute_of_read, station_of_read, minute_of_report}
use Rattle.facts.specs.declared.report.Report.{Report}
use Rattle.facts.specs.Reading.{read_of}
use Rattle.facts.specs.declared.report.Read.{Read}
use Rattle.codes.specs.declared.fault.BadReport.{BadReport}
use Rattle.alerts.specs.declared.alert.Alert.{Alert}
use Rattle.desk_io.specs.Station.{Station}
use Rattle.plan.specs.Change.{change_fault}
use Rattle.plan.specs.Check.{plan_fault}
use Rattle.release_text.specs.Revisions.{revision_digest}
use Rattle.release_text.specs.Weather.{newer_than}
use Rattle.release_index.specs.Below.{Grounds}
use Rattle.desk_state.proofs.Each.{found_each}
use Rattle.desk_state.proofs.Passed.{some_given, not_so, so, no_plan_fault}
use Rattle.desk_state.specs.Sound.{Sound, MayStand}
use Rattle.release_text.specs.Valid.{IsPhased, IsThere}
use Rattle.alerts.proofs.Laws.{follows}
use Rattle.ops_tables.specs.declared.rows.Role.{Role}
use Rattle.ops_tables.specs.declared.rows.Role.TheVariants.{D, C, F, M, S}
use Rattle.desk_state.specs.Texts.{newest, revision_number}
use Rattle.plan.specs.declared.findings.Finding.{Finding}
use Rattle.plan.specs.declared.release.Phase.{Phase}
use Rattle.plan.specs.declared.release.Phase.TheVariants.{Drafted, Ready, Flying, Stopped, Completed, Cancelled}
use Rattle.plan.specs.declared.release.Signature.{Signature}
use Rattle.plan.specs.declared.flights.Plan.{Plan}
use Rattle.plan.specs.declared.release.Release.{Release}
use Rattle.plan.specs.declared.release.Revision.{Revision}
use Rattle.asks.specs.declared.call.Ask.{Ask}
use Rattle.asks.specs.declared.call.Ask.TheVariants as ask
use Rattle.asks.specs.declared.call.Call.{Call}
use Rattle.asks.specs.declared.reply.Refusal.{Refusal}
use Rattle.asks.specs.declared.reply.Done.{Done as DoneType}
use Rattle.asks.specs.declared.reply.Done.TheVariants as done
use Rattle.asks.specs.declared.reply.Reply.{Reply}
use Rattle.asks.specs.declared.kept.KeptReply.{KeptReply}
use Rattle.asks.specs.declared.reply.Reply.TheVariants.{Done, Seen, Refused}
use Rattle.asks.specs.declared.reply.Refusal.TheVariants.{NumberReused}
use Rattle.asks.specs.Canonical.{ask_digest}
use Rattle.desk_state.specs.Requests.{kept_at, floor_at}
use Rattle.desk_state.specs.declared.effect.Effect.{Effect}
use Rattle.desk_state.specs.declared.effect.Decision.{Decision}
use Rattle.desk_state.specs.declared.effect.Decision.TheVariants.{Show, Do}
use Rattle.desk_state.specs.State.{State, grounds_of, failing_in, failing_of, release_at, alert_at, judged, is_full, is_sweep}
use Rattle.desk_state.specs.Chain.{◌>>-◌, unless}
use Rattle.desk_state.specs.People.{not_his_role}
use Rattle.plan.specs.Phases.{is_flying}
use Rattle.desk_state.specs.Decide as d
use Rattle.desk_state.specs.Decide.{decide}
use Rattle.desk_state.specs.Hours.{captain_hours}
use Rattle.desk_state.specs.Allowed.{MaySign, GainsDispatcher, GainsCaptain, GainsWeather, BothAre, IsPreparing, IsSigning, IsReleased, IsConcurring, HasNotEnded, IsCancelling, IsNextRevision, IsAmending, HasMore, HasNoMore, has_text, IsNextLeg, IsCaptainOf, FliesAs, FliesBy, IsDeparting, IsStopping, IsCompleting, IsInVersion, IsAcknowledging, OfHeld, IsListed, IsEffectOf, admits, defers, clears, drafts, prepares, signs, concurs, amends, cancels, departs, stops, completes, acknowledges, purges, sweeps, HasEndedAt, AskedOf, IsShownTo, IsAnswer, IsUnused, DecisionOf, IsSweeping, IsFull}
use Rattle.desk_io.proofs.Bytes.{same_bytes}

given : {A : Type 0} (s : State) (actor : List ℕ) (a : Ask) (m : Result A Refusal) (f : A → Result Decision Refusal) → ((x : A) → m ≡ Ok x → AskedOf s actor a (f x)) → AskedOf s actor a (m >>- f)
given s actor a (Err x) f goes = tt
given s actor a (Ok x) f goes = goes x refl

-- a test that refuses, and what its passing says
known : (s : State) (actor : List ℕ) (a : Ask) (o : Option Refusal) (rest : Result Decision Refusal) → (o ≡ None → AskedOf s actor a rest) → AskedOf s actor a (unless o rest)
known s actor a None rest goes = goes refl
known s actor a (Some x) rest goes = tt

his : (person actor : List ℕ) → d.not_yours person actor ≡ None → person ≡ actor
his person actor e = same_bytes person actor (so (bytes_eq person actor) _ e)

-- What the tests say that a call passes.

numbered : (v : Revision) (number : ℕ) → d.misnumbered v number ≡ None → v.number ≡ number
numbered v number e = eqb-true v.number number (so (eqb v.number number) _ e)

none_fail : (fs : List Finding) → d.failing fs ≡ None → fs ≡ []
none_fail [] e = refl
none_fail (f ∷ fs) e = absurd (cc)

unsigned_is : (o : Option Signature) → d.signed o ≡ None → o ≡ None
unsigned_is None e = refl
unsigned_is (Some signature) e = absurd (cc)

signed_is : (o : Option Signature) → d.unsigned o ≡ None → o ≢ None
signed_is None e = absurd (cc)
signed_is (Some signature) e = λ same. absurd (cc)

same_text : (v : Revision) (digest : List ℕ) → d.mistaken_text v digest ≡ None → revision_digest v ≡ digest
same_text v digest e = same_bytes (revision_digest v) digest (so (bytes_eq (revision_digest v) digest) _ e)

none_newer : (o : Option ℕ) → d.newer_weather o ≡ None → o ≡ None
none_newer None e = refl
none_newer (Some report) e = absurd (cc)

allowed : (b : Bool) (phase : Phase) → d.out_of_phase b phase ≡ None → b ≡ true
allowed b phase e = so b _ e

not_ended : (phase : Phase) → d.may_change phase ≡ true → HasNotEnded phase
not_ended Drafted e at = (λ same. absurd (cc), λ same. absurd (cc))
not_ended Ready e at = (λ same. absurd (cc), λ same. absurd (cc))
not_ended (Flying leg) e at = (λ same. absurd (cc), λ same. absurd (cc))
not_ended (Stopped next since again) e at = (λ same. absurd (cc), λ same. absurd (cc))
not_ended (Completed since) e at = absurd (cc)
not_ended (Cancelled since) e at = absurd (cc)

next_leg : (phase : Phase) (leg : ℕ) → d.may_depart phase leg ≡ true → IsNextLeg phase leg
next_leg Drafted leg e = absurd (cc)
next_leg Ready leg e = eqb-true leg 1 e
next_leg (Flying n) leg e = absurd (cc)
next_leg (Stopped next since again) leg e = eqb-true leg next e
next_leg (Completed at) leg e = absurd (cc)
next_leg (Cancelled at) leg e = absurd (cc)

in_flight : (phase : Phase) (leg : ℕ) → is_flying phase leg ≡ true → phase ≡ Flying leg
in_flight Drafted leg e = absurd (cc)
in_flight Ready leg e = absurd (cc)
in_flight (Flying n) leg e = ap (λ k. Flying k) (sym (eqb-true leg n e))
in_flight (Stopped next since again) leg e = absurd (cc)
in_flight (Completed at) leg e = absurd (cc)
in_flight (Cancelled at) leg e = absurd (cc)

-- an active release that fails nothing now
passes_by : (o : Option (List Finding)) → d.failing_any o ≡ None → (o ≡ None → ⊥) → o ≡ Some []
passes_by None e active = absurd (active refl)
passes_by (Some []) e active = refl
passes_by (Some (f ∷ fs)) e active = absurd (cc)

released : (phase : Phase) → IsReleased phase (d.once_signed phase)
released Drafted = refl
released Ready = refl
released (Flying leg) = refl
released (Stopped next since again) = refl
released (Completed at) = refl
released (Cancelled at) = refl

good_change : (plan : Plan) (v : Revision) (phase : Phase) → d.bad_change plan (Some v) phase ≡ None → change_fault plan v.plan phase ≡ None
good_change plan v phase e = no_plan_fault (change_fault plan v.plan phase) e

there_is : (o : Option MelRow) → is_none o ≡ false → is_some o ≡ true
there_is None e = absurd (cc)
there_is (Some row) e = refl

may_sign : (s : State) (q : Release) (v : Revision) (number : ℕ) (digest : List ℕ) → d.unprepared v ≡ None → d.misnumbered v number ≡ None → d.mistaken_text v digest ≡ None
    → d.outdated s q v ≡ None → d.fails s q v ≡ None → MaySign s number digest q v
may_sign s q v number digest ready named on latest passes = record {
  numbered = numbered v number named;
  prepared = so v.prepared _ ready;
  text = same_text v digest on;
  newest_weather = none_newer (newer_than s.reports v.plan q.phase v.attached) latest;
  passes = none_fail _ passes;
}

both_are : (R : Revision → Revision → Type 0) (p : Option Revision) (v w : Revision) → p ≡ Some v → R v w → BothAre R p (Some w)
both_are R p v w e is = subst (λ (o : Option Revision). BothAre R o (Some w)) (sym e) is

of_held : (R : Release → Release → Type 0) (o : Option Release) (q r : Release) → o ≡ Some q → R q r → OfHeld R o r
of_held R o q r e is = subst (λ (p : Option Release). OfHeld R p r) (sym e) is

preparing : (s : State) (q : Release) (v : Revision) (actor : List ℕ) → q.pending ≡ Some v → q.holder ≡ actor → IsPreparing s actor q (d.prepared s q v)
preparing s q v actor e own = record {
  own = own;
  same = record { id = refl; holder = refl };
  phase = refl;
  active = refl;
  pending = both_are (GainsWeather s q) q.pending v (d.with_weather s q.phase v) e
      (record { number = refl; plan = refl; prepared = refl; attached = refl; dispatcher = refl; captain = refl; hours = refl });
}

signing : (s : State) (q : Release) (v : Revision) (actor : List ℕ) (number : ℕ) (digest : List ℕ) → q.pending ≡ Some v → q.holder ≡ actor → MaySign s number digest q v → v.dispatcher ≡ None
    → IsSigning s actor number digest q (d.with_dispatcher q v (d.signed_by actor s.moment digest))
signing s q v actor number digest e own may unsigned = record {
  own = own;
  same = record { id = refl; holder = refl };
  phase = refl;
  active = refl;
  pending = both_are (GainsDispatcher s actor number digest q) q.pending v (record v { dispatcher = Some (d.signed_by actor s.moment digest) }) e
      (record { may = may; unsigned = unsigned; same = record { number = refl; plan = refl; prepared = refl; attached = refl }; dispatcher = (refl, refl, refl); captain = refl; hours = refl });
}

concurring : (s : State) (q : Release) (v : Revision) (actor : List ℕ) (number : ℕ) (digest : List ℕ) → q.pending ≡ Some v → v.plan.captain ≡ actor → MaySign s number digest q v
    → v.dispatcher ≢ None → IsConcurring s actor number digest q (d.made_active q v (d.signed_by actor s.moment digest) (captain_hours s.tables v.plan))
concurring s q v actor number digest e own may signed = record {
  same = record { id = refl; holder = refl };
  phase = released q.phase;
  active = both_are (GainsCaptain s actor number digest q) q.pending v (d.with_captain v (d.signed_by actor s.moment digest) (captain_hours s.tables v.plan)) e
      (record { may = may; signed = signed; own = own; same = record { number = refl; plan = refl; prepared = refl; attached = refl }; dispatcher = refl; captain = (refl, refl, refl); hours = refl });
  pending = refl;
}

next_revision : (s : State) (plan : Plan) (phase : Phase) (pending active : Option Revision) → (newest pending active ≡ None → ⊥) → plan_fault s.tables plan ≡ None
    → d.bad_change plan (newest pending active) phase ≡ None
    → IsNextRevision s plan phase pending active (Some (d.fresh_revision (revision_number (newest pending active) + 1) plan)) (revision_number (newest pending active) + 1)
next_revision s plan phase (Some v) active there passes follows = (record { passes = passes; follows = good_change plan v phase follows }, refl, (refl, refl, refl, refl, refl, refl, refl))
next_revision s plan phase None (Some v) there passes follows = (record { passes = passes; follows = good_change plan v phase follows }, refl, (refl, refl, refl, refl, refl, refl, refl))
next_revision s plan phase None None there passes follows = absurd (there refl)

amending : (s : State) (q : Release) (plan : Plan) (actor : List ℕ) → (newest q.pending q.active ≡ None → ⊥) → q.holder ≡ actor → HasNotEnded q.phase
    → plan_fault s.tables plan ≡ None → d.bad_change plan (newest q.pending q.active) q.phase ≡ None
    → IsAmending s actor plan (revision_number (newest q.pending q.active) + 1) q (d.amended q plan)
amending s q plan actor there own once passes follows = record {
  own = own;
  once = once;
  same = record { id = refl; holder = refl };
  phase = refl;
  active = refl;
  pending = next_revision s plan q.phase q.pending q.active there passes follows;
}

cancelling : (s : State) (q : Release) (actor : List ℕ) → q.holder ≡ actor → HasNotEnded q.phase → IsCancelling s actor q (d.cancelled q s.moment)
cancelling s q actor own once = record { own = own; once = once; same = record { id = refl; holder = refl }; phase = refl; active = refl; pending = refl }

captain_is : (actor holder : List ℕ) (active : Option Revision) → IsThere active → d.captain_or active holder ≡ actor → IsCaptainOf actor active
captain_is actor holder None there e = absurd there
captain_is actor holder (Some v) there e = e

pub flies_as : (role : Role) (actor : List ℕ) (q : Release) → IsThere q.active → cond (is_captain_role role) (d.captain_or q.active q.holder) q.holder ≡ actor → FliesAs role actor q
flies_as D actor q there e = e
flies_as C actor q there e = captain_is actor q.holder q.active there e
flies_as F actor q there e = e
flies_as M actor q there e = e
flies_as S actor q there e = e

flies_by : (o : Option Actor) (actor : List ℕ) (q : Release) → IsThere q.active → d.not_yours (d.flies_by o q) actor ≡ None → FliesBy o actor q
flies_by None actor q there e = his q.holder actor e
flies_by (Some person) actor q there e = flies_as person.role actor q there (his (d.flies_by (Some person) q) actor e)

departing : (s : State) (q : Release) (actor : List ℕ) (leg : ℕ) → FliesBy (actor_of s.tables actor) actor q → IsNextLeg q.phase leg → failing_of (grounds_of s) q ≡ Some []
    → IsDeparting s actor leg q (d.departed q leg)
departing s q actor leg own next passes = record {
  own = own;
  next = next;
  passes = passes;
  same = record { id = refl; holder = refl };
  phase = refl;
  active = refl;
  pending = refl;
}

more_legs : (active : Option Revision) (leg : ℕ) → ltb leg (d.leg_count active) ≡ true → HasMore active leg
more_legs None leg e = absurd (let less = ltb-true leg 0 e in omega (arith, less))
more_legs (Some v) leg e = ltb-true leg (length v.plan.legs) e

no_more_legs : (active : Option Revision) (leg : ℕ) → ltb leg (d.leg_count active) ≡ false → HasNoMore active leg
no_more_legs None leg e = tt
no_more_legs (Some v) leg e = ltb-false leg (length v.plan.legs) e

stopping : (s : State) (q : Release) (actor : List ℕ) (leg : ℕ) → FliesBy (actor_of s.tables actor) actor q → q.phase ≡ Flying leg → d.has_more q leg ≡ true
    → IsStopping s actor leg q (d.stopped q leg s.moment)
stopping s q actor leg own flying more = record {
  arrives = record { own = own; flying = flying; same = record { id = refl; holder = refl }; active = refl; pending = refl };
  more = more_legs q.active leg more;
  phase = refl;
}

completing : (s : State) (q : Release) (actor : List ℕ) (leg : ℕ) → FliesBy (actor_of s.tables actor) actor q → q.phase ≡ Flying leg → d.has_more q leg ≡ false
    → IsCompleting s actor leg q (d.completed q s.moment)
completing s q actor leg own flying last = record {
  arrives = record { own = own; flying = flying; same = record { id = refl; holder = refl }; active = refl; pending = refl };
  last = no_more_legs q.active leg last;
  phase = refl;
}

acknowledging : (s : State) (q : Release) (actor : List ℕ) (version : ℕ) (a : Alert) → alert_at q.id s.alerts ≡ Some a → q.holder ≡ actor → a.version ≡ version
    → IsAcknowledging s actor version q
acknowledging s q actor version a is own same = record { own = own; seen = subst (λ (o : Option Alert). IsInVersion version o) (sym is) same }

read_given : (r : Result Read BadReport) (read : Read) → d.reading_or r ≡ Ok read → r ≡ Ok read
read_given (Err bad) read e = absurd (cc)
read_given (Ok other) read e = cc

-- a report that is found is held, with its text

both_parts : (a b : Bool) → a ≡ true → b ≡ true → (a && b) ≡ true
both_parts true b e f = f
both_parts false b e f = absurd (cc)

id_by : (text : List ℕ) (minute id : ℕ) (r : Report) (rs : List Report) (b : Bool) → is_same text minute r ≡ b
    → option_map (λ x. x.id) (cond b (Some r) (find (is_same text minute) rs)) ≡ Some id
    → (option_map (λ x. x.id) (find (is_same text minute) rs) ≡ Some id → list_any (has_text id text) rs ≡ true) → (has_text id text r || list_any (has_text id text) rs) ≡ true
id_by text minute id r rs true same e later =
    let is : r.id ≡ id = cc in
    rw (both_parts (eqb r.id id) (bytes_eq r.text text) (eq-eqb r.id id is) (and_parts (bytes_eq r.text text) (eqb (minute_of_report r) minute) same).0) refl
id_by text minute id r rs false same e later = or_right (has_text id text r) (list_any (has_text id text) rs) (later e)

id_held : (text : List ℕ) (minute id : ℕ) (rs : List Report) → option_map (λ x. x.id) (find (is_same text minute) rs) ≡ Some id → list_any (has_text id text) rs ≡ true
id_held text minute id [] e = absurd (cc)
id_held text minute id (r ∷ rs) e = id_by text minute id r rs (is_same text minute r) refl e (id_held text minute id rs)

same_held : (rs : List Report) (text : List ℕ) (minute id : ℕ) → same_id rs text minute ≡ Some id → list_any (has_text id text) rs ≡ true
unfolding same_id
same_held rs text minute id e = id_held text minute id rs e

admit_read : (o : Option ℕ) (s : State) (actor text : List ℕ) (read : Read) → same_id s.reports (canonical (groups_of text)) (minute_of_read read) ≡ o → read_of text s.moment ≡ Ok read
    → has_airport s.tables (station_of_read read) ≡ true → AskedOf s actor (ask.Admit text) (d.admit_read o s (canonical (groups_of text)) read)
admit_read (Some id) s actor text read same e airport = same_held s.reports (canonical (groups_of text)) (minute_of_read read) id same
admit_read None s actor text read same e airport =
    known s actor (ask.Admit text) (d.reports_full s) _ (λ few. admits (record {
      is_new = refl;
      received = refl;
      canonical = refl;
      reading = e;
      airport = airport;
      few = leb-false 200_000 (length s.reports) (not_so (nat_le 200_000 (length s.reports)) _ few);
    }))

admit : (s : State) (actor text : List ℕ) → AskedOf s actor (ask.Admit text) (d.decide_admit s text)
admit s actor text =
    given s actor (ask.Admit text) (d.reading_or (read_of text s.moment)) _
    (λ read e. known s actor (ask.Admit text) (d.no_airport s (station_of_read read)) _
    (λ airport. admit_read (same_id s.reports (canonical (groups_of text)) (minute_of_read read)) s actor text read refl (read_given (read_of text s.moment) read e)
    (so (has_airport s.tables (station_of_read read)) _ airport)))

listed_by : (s : State) (tail item : List ℕ) (kind : TypeRow) → type_of s.tables tail ≡ Some kind → is_none (item_of s.tables kind.kind item) ≡ false → IsListed s.tables (type_of s.tables tail) item
listed_by s tail item kind is there = subst (λ (o : Option TypeRow). IsListed s.tables o item) (sym is) (there_is (item_of s.tables kind.kind item) there)

defer : (s : State) (actor tail item : List ℕ) (found : ℕ) → AskedOf s actor (ask.Defer tail item found) (d.decide_defer s tail item found)
defer s actor tail item found =
    given s actor (ask.Defer tail item found) (d.aircraft s tail) _ (λ kind e. known s actor (ask.Defer tail item found) (d.unlisted s kind item) _
    (λ listed. known s actor (ask.Defer tail item found) (d.found_later s found) _ (λ by_now. known s actor (ask.Defer tail item found) (d.deferrals_full s) _
    (λ few. defers (record {
      listed = listed_by s tail item kind (some_given _ (type_of s.tables tail) kind e) (not_so (is_none (item_of s.tables kind.kind item)) _ listed);
      by_now = let least = ltb-false s.moment found (not_so (nat_lt s.moment found) _ by_now) in omega (arith, least);
      few = leb-false 50_000 (length s.deferrals) (not_so (nat_le 50_000 (length s.deferrals)) _ few);
      is_new = refl;
      aircraft = refl;
      deferred = refl;
      since = refl;
    })))))

clear : (s : State) (actor : List ℕ) (id : ℕ) → AskedOf s actor (ask.Clear id) (d.decide_clear s id)
clear s actor id = known s actor (ask.Clear id) (d.not_open s id) _ (λ e. (clears (so (list_any (has_id id) s.deferrals) _ e)))

deferred : (s : State) (actor tail : List ℕ) → AskedOf s actor (ask.ViewDeferred tail) (d.decide_deferred s tail)
deferred s actor tail = given s actor (ask.ViewDeferred tail) (d.aircraft s tail) _ (λ kind e. tt)

draft : (s : State) (actor : List ℕ) (plan : Plan) → AskedOf s actor (ask.Draft plan) (d.decide_draft s actor plan)
draft s actor plan =
    known s actor (ask.Draft plan) (d.bad_plan (plan_fault s.tables plan)) _
    (λ good. known s actor (ask.Draft plan) (d.releases_full s) _
    (λ few. drafts (record {
      passes = no_plan_fault (plan_fault s.tables plan) good;
      few = leb-false 20_000 (length s.releases) (not_so (nat_le 20_000 (length s.releases)) _ few);
      is_new = refl;
      holder = refl;
      phase = refl;
      pending = (refl, refl, refl, refl, refl, refl, refl);
      active = refl;
    })))

-- the revision that is signed is the one of the number that was asked for
filed_as : (s : State) (actor : List ℕ) (a : Ask) (effect : Effect) (r n m : ℕ) → n ≡ m → IsEffectOf s actor a effect (done.Filed r m) → IsEffectOf s actor a effect (done.Filed r n)
filed_as s actor a effect r n m e is = subst (λ k. IsEffectOf s actor a effect (done.Filed r k)) (sym e) is

prepare : (s : State) (actor : List ℕ) (id : ℕ) → AskedOf s actor (ask.Prepare id) (d.decide_prepare s actor id)
prepare s actor id =
    given s actor (ask.Prepare id) (d.held s id) _ (λ q e. given s actor (ask.Prepare id) (d.pending q) _ (λ v f.
    known s actor (ask.Prepare id) (d.not_yours q.holder actor) _
    (λ own. prepares (of_held (IsPreparing s actor) (release_at id s.releases) q _ (some_given _ (release_at id s.releases) q e)
    (preparing s q v actor (some_given _ q.pending v f) (his q.holder actor own))) refl)))

sign : (s : State) (actor : List ℕ) (id number : ℕ) (digest : List ℕ) → AskedOf s actor (ask.Sign id number digest) (d.decide_sign s actor id number digest)
sign s actor id number digest =
    let a : Ask = ask.Sign id number digest in
    given s actor a (d.held s id) _ (λ q e. given s actor a (d.pending q) _ (λ v f. known s actor a (d.unprepared v) _ (λ ready.
    known s actor a (d.not_yours q.holder actor) _ (λ own. known s actor a (d.misnumbered v number) _ (λ named. known s actor a (d.mistaken_text v digest) _ (λ on.
    known s actor a (d.signed v.dispatcher) _ (λ fresh. known s actor a (d.outdated s q v) _ (λ latest. known s actor a (d.fails s q v) _
    (λ passes. filed_as s actor a _ q.id v.number number (numbered v number named) (signs (of_held (IsSigning s actor number digest) (release_at id s.releases) q _ (some_given _ (release_at id s.releases) q e)
    (signing s q v actor number digest (some_given _ q.pending v f) (his q.holder actor own) (may_sign s q v number digest ready named on latest passes) (unsigned_is v.dispatcher fresh)))))))))))))

concur : (s : State) (actor : List ℕ) (id number : ℕ) (digest : List ℕ) → AskedOf s actor (ask.Concur id number digest) (d.decide_concur s actor id number digest)
concur s actor id number digest =
    let a : Ask = ask.Concur id number digest in
    given s actor a (d.held s id) _ (λ q e. given s actor a (d.pending q) _ (λ v f. known s actor a (d.unprepared v) _ (λ ready.
    known s actor a (d.unsigned v.dispatcher) _ (λ has. known s actor a (d.not_yours v.plan.captain actor) _ (λ own. known s actor a (d.misnumbered v number) _ (λ named.
    known s actor a (d.mistaken_text v digest) _ (λ on. known s actor a (d.outdated s q v) _ (λ latest. known s actor a (d.fails s q v) _
    (λ passes. filed_as s actor a _ q.id v.number number (numbered v number named) (concurs (of_held (IsConcurring s actor number digest) (release_at id s.releases) q _ (some_given _ (release_at id s.releases) q e)
    (concurring s q v actor number digest (some_given _ q.pending v f) (his v.plan.captain actor own) (may_sign s q v number digest ready named on latest passes) (signed_is v.dispatcher has)))))))))))))

-- A release that may be amended has a revision: the definition asks that of soundness.
amend : (s : State) (actor : List ℕ) (id : ℕ) (plan : Plan) → ((q : Release) → release_at id s.releases ≡ Some q → d.may_change q.phase ≡ true → newest q.pending q.active ≡ None → ⊥)
    → AskedOf s actor (ask.Amend id plan) (d.decide_amend s actor id plan)
amend s actor id plan there =
    let a : Ask = ask.Amend id plan in
    given s actor a (d.held s id) _ (λ q e. known s actor a (d.out_of_phase (d.may_change q.phase) q.phase) _ (λ may. known s actor a (d.not_yours q.holder actor) _ (λ own.
    known s actor a (d.bad_plan (plan_fault s.tables plan)) _ (λ passes. known s actor a (d.bad_change plan (newest q.pending q.active) q.phase) _
    (λ follows. amends (of_held (IsAmending s actor plan (revision_number (newest q.pending q.active) + 1)) (release_at id s.releases) q _ (some_given _ (release_at id s.releases) q e)
    (amending s q plan actor (there q (some_given _ (release_at id s.releases) q e) (allowed (d.may_change q.phase) q.phase may)) (his q.holder actor own)
    (not_ended q.phase (allowed (d.may_change q.phase) q.phase may)) (no_plan_fault (plan_fault s.tables plan) passes) follows)))))))

cancel : (s : State) (actor : List ℕ) (id : ℕ) → AskedOf s actor (ask.Cancel id) (d.decide_cancel s actor id)
cancel s actor id =
    given s actor (ask.Cancel id) (d.held s id) _ (λ q e. known s actor (ask.Cancel id) (d.out_of_phase (d.may_change q.phase) q.phase) _
    (λ goes. known s actor (ask.Cancel id) (d.not_yours q.holder actor) _
    (λ own. cancels (of_held (IsCancelling s actor) (release_at id s.releases) q _ (some_given _ (release_at id s.releases) q e)
    (cancelling s q actor (his q.holder actor own) (not_ended q.phase (allowed (d.may_change q.phase) q.phase goes)))))))

depart : (s : State) (actor : List ℕ) (id leg : ℕ) → ((q : Release) → release_at id s.releases ≡ Some q → d.may_depart q.phase leg ≡ true → failing_of (grounds_of s) q ≡ None → ⊥)
    → ((q : Release) → release_at id s.releases ≡ Some q → d.may_depart q.phase leg ≡ true → IsThere q.active)
    → AskedOf s actor (ask.Depart id leg) (d.decide_depart s actor id leg)
depart s actor id leg judged there =
    let a : Ask = ask.Depart id leg in
    given s actor a (d.held s id) _ (λ q e. known s actor a (d.out_of_phase (d.may_depart q.phase leg) q.phase) _ (λ may.
    known s actor a (d.not_yours (d.flies_by (actor_of s.tables actor) q) actor) _ (λ own. known s actor a (d.fails_now s q) _
    (λ passes. departs (of_held (IsDeparting s actor leg) (release_at id s.releases) q _ (some_given _ (release_at id s.releases) q e)
    (departing s q actor leg (flies_by (actor_of s.tables actor) actor q (there q (some_given _ (release_at id s.releases) q e) (allowed (d.may_depart q.phase leg) q.phase may)) own) (next_leg q.phase leg (allowed (d.may_depart q.phase leg) q.phase may))
    (passes_by (failing_of (grounds_of s) q) passes (judged q (some_given _ (release_at id s.releases) q e) (allowed (d.may_depart q.phase leg) q.phase may)))))))))

arrival_is : (more : Bool) (s : State) (actor : List ℕ) (id leg : ℕ) (q : Release) → release_at id s.releases ≡ Some q → FliesBy (actor_of s.tables actor) actor q → q.phase ≡ Flying leg
    → d.has_more q leg ≡ more → AskedOf s actor (ask.Arrive id leg) (Ok (d.arrival more q leg s.moment))
arrival_is true s actor id leg q held own flying more = stops (of_held (IsStopping s actor leg) (release_at id s.releases) q _ held (stopping s q actor leg own flying more))
arrival_is false s actor id leg q held own flying more = completes (of_held (IsCompleting s actor leg) (release_at id s.releases) q _ held (completing s q actor leg own flying more))

arrive : (s : State) (actor : List ℕ) (id leg : ℕ) → ((q : Release) → release_at id s.releases ≡ Some q → is_flying q.phase leg ≡ true → IsThere q.active)
    → AskedOf s actor (ask.Arrive id leg) (d.decide_arrive s actor id leg)
arrive s actor id leg there =
    let a : Ask = ask.Arrive id leg in
    given s actor a (d.held s id) _ (λ q e. known s actor a (d.out_of_phase (is_flying q.phase leg) q.phase) _ (λ may.
    known s actor a (d.not_yours (d.flies_by (actor_of s.tables actor) q) actor) _
    (λ own. arrival_is (d.has_more q leg) s actor id leg q (some_given _ (release_at id s.releases) q e) (flies_by (actor_of s.tables actor) actor q (there q (some_given _ (release_at id s.releases) q e) (allowed (is_flying q.phase leg) q.phase may)) own)
    (in_flight q.phase leg (allowed (is_flying q.phase leg) q.phase may)) refl)))

in_version : (a : Alert) (version : ℕ) → d.moved a version ≡ None → a.version ≡ version
in_version a version e = eqb-true a.version version (so (eqb a.version version) _ e)

acknowledge : (s : State) (actor : List ℕ) (id version : ℕ) → AskedOf s actor (ask.Acknowledge id version) (d.decide_acknowledge s actor id version)
acknowledge s actor id version =
    let k : Ask = ask.Acknowledge id version in
    given s actor k (d.held s id) _ (λ q e. given s actor k (d.alert_of s q.id) _ (λ a f. known s actor k (d.not_yours q.holder actor) _ (λ own. known s actor k (d.moved a version) _
    (λ seen. acknowledges (some_given _ (release_at id s.releases) q e)
    (acknowledging s q actor version a (some_given _ (alert_at q.id s.alerts) a f) (his q.holder actor own) (in_version a version seen))))))

pub has_ended : (phase : Phase) (at : ℕ) → d.ended_at phase ≡ Some at → HasEndedAt phase at
has_ended Drafted at e = absurd (cc)
has_ended Ready at e = absurd (cc)
has_ended (Flying leg) at e = absurd (cc)
has_ended (Stopped next since again) at e = absurd (cc)
has_ended (Completed since) at e = inl (let same : since ≡ at = cc in ap (λ m. Completed m) same)
has_ended (Cancelled since) at e = inr (let same : since ≡ at = cc in ap (λ m. Cancelled m) same)

purge : (s : State) (actor : List ℕ) (id : ℕ) → AskedOf s actor (ask.Purge id) (d.decide_purge s id)
purge s actor id =
    let a : Ask = ask.Purge id in
    given s actor a (d.held s id) _ (λ q e. given s actor a (d.ended q.phase) _ (λ at f. known s actor a (d.too_young s (d.kept_until at)) _
    (λ passed. purges (some_given _ (release_at id s.releases) q e) (record {
      at = at;
      ended = has_ended q.phase at (some_given _ (d.ended_at q.phase) at f);
      passed = ltb-false s.moment (d.kept_until at) (not_so (nat_lt s.moment (d.kept_until at)) _ passed);
    }))))

sweep : (s : State) (actor : List ℕ) (before : ℕ) → AskedOf s actor (ask.Sweep before) (d.decide_sweep s before)
sweep s actor before =
    known s actor (ask.Sweep before) (d.too_young s (before + 4320)) _
    (λ passed. (sweeps (record { passed = ltb-false s.moment (before + 4320) (not_so (nat_lt s.moment (before + 4320)) _ passed); attached = refl; floors = refl })))

view_release : (s : State) (actor : List ℕ) (id : ℕ) → AskedOf s actor (ask.ViewRelease id) (d.decide_release s id)
view_release s actor id = given s actor (ask.ViewRelease id) (d.held s id) _ (λ r e. tt)

view_weather : (s : State) (actor : List ℕ) (station : Station) → AskedOf s actor (ask.ViewWeather station) (d.decide_weather s station)
view_weather s actor station = known s actor (ask.ViewWeather station) (d.no_airport s station) _ (λ e. tt)

-- What soundness says of a release that is held.

pub valid_held : (s : State) (id : ℕ) (q : Release) → Sound s → release_at id s.releases ≡ Some q → MayStand s.counters.events q
valid_held s id q sound is =
    subst (λ (o : Option Release). IfSome o (MayStand s.counters.events)) is (found_each (MayStand s.counters.events) (λ r. eqb r.id id) s.releases sound.valid)

there_by : (phase : Phase) (pending active : Option Revision) → d.may_change phase ≡ true → IsPhased phase pending active → newest pending active ≡ None → ⊥
there_by phase (Some v) active e is none = absurd (cc)
there_by Drafted None active e is none = is.0
there_by Ready None None e is none = is
there_by Ready None (Some v) e is none = absurd (cc)
there_by (Flying leg) None None e is none = is
there_by (Flying leg) None (Some v) e is none = absurd (cc)
there_by (Stopped next since again) None None e is none = is
there_by (Stopped next since again) None (Some v) e is none = absurd (cc)
there_by (Completed at) None active e is none = absurd (cc)
there_by (Cancelled at) None active e is none = absurd (cc)

judged_by : (g : Grounds) (phase : Phase) (leg : ℕ) (pending active : Option Revision) → d.may_depart phase leg ≡ true → IsPhased phase pending active → failing_in g active phase ≡ None → ⊥
judged_by g Drafted leg pending active e is none = absurd (cc)
judged_by g Ready leg pending None e is none = is
judged_by g Ready leg pending (Some v) e is none = absurd (cc)
judged_by g (Flying n) leg pending active e is none = absurd (cc)
judged_by g (Stopped next since again) leg pending None e is none = is
judged_by g (Stopped next since again) leg pending (Some v) e is none = absurd (cc)
judged_by g (Completed at) leg pending active e is none = absurd (cc)
judged_by g (Cancelled at) leg pending active e is none = absurd (cc)

pub depart_there : (phase : Phase) (leg : ℕ) (pending active : Option Revision) → d.may_depart phase leg ≡ true → IsPhased phase pending active → IsThere active
depart_there Drafted leg pending active e is = absurd (cc)
depart_there Ready leg pending active e is = is
depart_there (Flying n) leg pending active e is = absurd (cc)
depart_there (Stopped next since again) leg pending active e is = is
depart_there (Completed at) leg pending active e is = absurd (cc)
depart_there (Cancelled at) leg pending active e is = absurd (cc)

pub arrive_there : (phase : Phase) (leg : ℕ) (pending active : Option Revision) → is_flying phase leg ≡ true → IsPhased phase pending active → IsThere active
arrive_there Drafted leg pending active e is = absurd (cc)
arrive_there Ready leg pending active e is = absurd (cc)
arrive_there (Flying n) leg pending active e is = is
arrive_there (Stopped next since again) leg pending active e is = absurd (cc)
arrive_there (Completed at) leg pending active e is = absurd (cc)
arrive_there (Cancelled at) leg pending active e is = absurd (cc)

ask_is : (s : State) (actor : List ℕ) (a : Ask) → Sound s → AskedOf s actor a (d.decide_ask s actor a)
ask_is s actor (ask.Admit text) sound = admit s actor text
ask_is s actor (ask.Defer tail item found) sound = defer s actor tail item found
ask_is s actor (ask.Clear deferral) sound = clear s actor deferral
ask_is s actor (ask.Draft plan) sound = draft s actor plan
ask_is s actor (ask.Prepare id) sound = prepare s actor id
ask_is s actor (ask.Sign id number digest) sound = sign s actor id number digest
ask_is s actor (ask.Concur id number digest) sound = concur s actor id number digest
ask_is s actor (ask.Amend id plan) sound = amend s actor id plan (λ q e may. there_by q.phase q.pending q.active may (valid_held s id q sound e).valid.phased)
ask_is s actor (ask.Cancel id) sound = cancel s actor id
ask_is s actor (ask.Depart id leg) sound =
    depart s actor id leg (λ q e may. judged_by (grounds_of s) q.phase leg q.pending q.active may (valid_held s id q sound e).valid.phased)
    (λ q e may. depart_there q.phase leg q.pending q.active may (valid_held s id q sound e).valid.phased)
ask_is s actor (ask.Arrive id leg) sound = arrive s actor id leg (λ q e may. arrive_there q.phase leg q.pending q.active may (valid_held s id q sound e).valid.phased)
ask_is s actor (ask.Acknowledge id version) sound = acknowledge s actor id version
ask_is s actor (ask.Purge id) sound = purge s actor id
ask_is s actor (ask.Sweep before) sound = sweep s actor before
ask_is s actor ask.ViewBoard sound = tt
ask_is s actor ask.ViewAlerts sound = tt
ask_is s actor (ask.ViewRelease id) sound = view_release s actor id
ask_is s actor (ask.ViewWeather station) sound = view_weather s actor station
ask_is s actor (ask.ViewDeferred tail) sound = deferred s actor tail

-- Requests that come again.

-- an ask that changes something is no view
pub no_view : (s : State) (actor : List ℕ) {a : Ask} {effect : Effect} {made : DoneType} → IsEffectOf s actor a effect made → d.is_view a ≡ false
no_view s actor (admits is) = refl
no_view s actor (defers is) = refl
no_view s actor (clears is) = refl
no_view s actor (drafts is) = refl
no_view s actor (prepares is pending) = refl
no_view s actor (signs is) = refl
no_view s actor (concurs is) = refl
no_view s actor (amends is) = refl
no_view s actor (cancels is) = refl
no_view s actor (departs is) = refl
no_view s actor (stops is) = refl
no_view s actor (completes is) = refl
no_view s actor (acknowledges is has) = refl
no_view s actor (sweeps is) = refl
no_view s actor (purges is has) = refl

answer_is : (s : State) (call : Call) (reply : Reply) → IsShownTo s call.ask reply → IsAnswer s call reply
answer_is s call (Refused refusal) is = tt
answer_is s call (Seen text) is = is
answer_is s call (Done made) is = inl is

-- a call that passes a test that refuses
passing : (s : State) (call : Call) (o : Option Refusal) (rest : Result Decision Refusal) → (o ≡ None → DecisionOf s call rest) → DecisionOf s call (unless o rest)
passing s call None rest goes = goes refl
passing s call (Some x) rest goes = tt

-- a command that is new comes to what its ask does
new_is : (s : State) (call : Call) (decision : Result Decision Refusal) → IsUnused s call → AskedOf s call.actor call.ask decision → DecisionOf s call decision
new_is s call (Err x) unused is = tt
new_is s call (Ok (Show reply)) unused is = answer_is s call reply is
new_is s call (Ok (Do made effect)) unused is = (unused, is)

-- a view too, and it changes nothing
view_is : (s : State) (call : Call) (decision : Result Decision Refusal) → d.is_view call.ask ≡ true → AskedOf s call.actor call.ask decision → DecisionOf s call decision
view_is s call (Err x) view is = tt
view_is s call (Ok (Show reply)) view is = answer_is s call reply is
view_is s call (Ok (Do made effect)) view is = absurd (let no = no_view s call.actor is in cc)

repeated_by : (s : State) (call : Call) (k : KeptReply) (b : Bool) → bytes_eq k.digest (ask_digest call.ask) ≡ b → kept_at call.actor call.number s.kept ≡ Some k
    → DecisionOf s call (cond b (Ok (Show (Done k.done))) (Err (NumberReused k.id)))
repeated_by s call k true e held = inr (record { reply = k; kept = held; same = same_bytes k.digest (ask_digest call.ask) e; done = refl })
repeated_by s call k false e held = tt

above_floor : (o : Option ℕ) (number : ℕ) → d.up_to_floor o number ≡ None → IfSome o (λ floor. floor < number)
above_floor None number e = tt
above_floor (Some floor) number e = leb-false number floor (not_so (nat_le number floor) _ e)

unused_is : (s : State) (call : Call) → kept_at call.actor call.number s.kept ≡ None → d.swept_number s call.actor call.number ≡ None → IsUnused s call
unused_is s call none passes = record { none = none; above = above_floor (floor_at call.actor s.floors) call.number passes }

once_is : (o : Option KeptReply) (s : State) (call : Call) → kept_at call.actor call.number s.kept ≡ o → Sound s → DecisionOf s call (d.decide_new o s call)
once_is (Some k) s call held sound = repeated_by s call k _ refl held
once_is None s call none sound =
    passing s call (d.swept_number s call.actor call.number) _
    (λ e. new_is s call (d.decide_ask s call.actor call.ask) (unused_is s call none e) (ask_is s call.actor call.ask sound))

numbered_is : (view : Bool) (s : State) (call : Call) → d.is_view call.ask ≡ view → Sound s → DecisionOf s call (d.decide_numbered view s call)
numbered_is true s call e sound = view_is s call (d.decide_ask s call.actor call.ask) e (ask_is s call.actor call.ask sound)
numbered_is false s call e sound = once_is (kept_at call.actor call.number s.kept) s call refl sound

-- a call changes no more than its ask may
pub decision_is : (s : State) (call : Call) → Sound s → DecisionOf s call (decide s call)
unfolding decide
decision_is s call sound = passing s call (not_his_role (actor_of s.tables call.actor) call.ask) _ (λ e. numbered_is (d.is_view call.ask) s call refl sound)

-- ---- what no ask but some does

-- an effect sweeps only what a sweep may
pub sweep_of : (s : State) (actor : List ℕ) {a : Ask} {does : Effect} {made : DoneType} → IsEffectOf s actor a does made → IfSome does.sweep (λ w. IsSweeping s w.before w.attached w.floors)
sweep_of s actor (admits is) = tt
sweep_of s actor (defers is) = tt
sweep_of s actor (clears is) = tt
sweep_of s actor (drafts is) = tt
sweep_of s actor (prepares is pending) = tt
sweep_of s actor (signs is) = tt
sweep_of s actor (concurs is) = tt
sweep_of s actor (amends is) = tt
sweep_of s actor (cancels is) = tt
sweep_of s actor (departs is) = tt
sweep_of s actor (stops is) = tt
sweep_of s actor (completes is) = tt
sweep_of s actor (acknowledges is has) = tt
sweep_of s actor (sweeps is) = is
sweep_of s actor (purges is has) = tt

-- an ask that isn't a sweep sweeps nothing
pub no_sweep : (s : State) (actor : List ℕ) {a : Ask} {effect : Effect} {made : DoneType} → IsEffectOf s actor a effect made → is_sweep a ≡ false → effect.sweep ≡ None
no_sweep s actor (admits is) e = refl
no_sweep s actor (defers is) e = refl
no_sweep s actor (clears is) e = refl
no_sweep s actor (drafts is) e = refl
no_sweep s actor (prepares is pending) e = refl
no_sweep s actor (signs is) e = refl
no_sweep s actor (concurs is) e = refl
no_sweep s actor (amends is) e = refl
no_sweep s actor (cancels is) e = refl
no_sweep s actor (departs is) e = refl
no_sweep s actor (stops is) e = refl
no_sweep s actor (completes is) e = refl
no_sweep s actor (acknowledges is has) e = refl
no_sweep s actor (sweeps is) e = absurd (cc)
no_sweep s actor (purges is has) e = refl

-- no event may come any more
pub full_says : (s : State) → is_full s ≡ true → IsFull s
full_says s e = by (or_cases (nat_le 400_000 (length s.entries)) (nat_le 999_999_999_999_000 s.counters.events) e)
  where
    by : (nat_le 400_000 (length s.entries) ≡ true) ⊎ (nat_le 999_999_999_999_000 s.counters.events ≡ true) → IsFull s
    by (inl many) = inl (leb-true 400_000 (length s.entries) many)
    by (inr many) = inr (leb-true 999_999_999_999_000 s.counters.events many)
