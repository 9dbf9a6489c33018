-- Each refusal of a call has its cause.
use Rattle.std.proofs.Common.{◌≡◌, ◌≢◌, ◌⊎◌, lit<, ℕ, ◌+◌, ◌/◌, ◌<◌, ◌≤◌, ◌&&◌, IfSome, Bool, true, false, not, List, [], ◌∷◌, length, Option, None, Some, Result, Ok, Err, inl, inr, refl, sym, subst, cond, eqb, is_some, is_none, arith}
use Rattle.std.specs.Prelude.{nat_le, nat_lt}
use Rattle.std.specs.Str.{bytes_eq}
use Rattle.std.specs.List.{list_any}
use Rattle.std.proofs.lemmas.Bool.{leb-true, ltb-true, eqb-false, not-true, not-false, or_cases, and_parts}
use Rattle.std.proofs.lemmas.Bool.Decides.{not_from_Decides}
use Rattle.std.proofs.lemmas.Slice.Eq.{bytes_eq-Decides}
use Rattle.desk_time.specs.Limits.{IsMoment}
use Rattle.desk_time.proofs.MonthLaws.{three_months_later}
use Rattle.desk_time.specs.Calendar.{three_months}
use Rattle.codes.specs.Groups.{groups_of, canonical}
use Rattle.codes.specs.declared.fault.BadReport.{BadReport}
use Rattle.codes.specs.declared.fault.Why.{Why}
use Rattle.codes.specs.declared.fault.Why.TheVariants as why
use Rattle.desk_io.specs.Station.{Station}
use Rattle.ops_tables.specs.Tables.{actor_of, type_of, item_of, has_airport}
use Rattle.ops_tables.specs.Rows.{Actor}
use Rattle.ops_tables.specs.declared.rows.MelRow.{MelRow}
use Rattle.deferrals.specs.Held.{has_id}
use Rattle.facts.specs.Reading.{read_of}
use Rattle.facts.specs.Same.{same_id, minute_of_read, station_of_read}
use Rattle.facts.specs.declared.report.Read.{Read}
use Rattle.plan.specs.Change.{change_fault}
use Rattle.plan.specs.Check.{plan_fault}
use Rattle.plan.specs.Texts.{HasMoment}
use Rattle.plan.specs.declared.check.BadPlan.{BadPlan}
use Rattle.plan.specs.declared.findings.Finding.{Finding}
use Rattle.plan.specs.declared.flights.Plan.{Plan}
use Rattle.plan.specs.declared.release.Phase.{Phase}
use Rattle.plan.specs.declared.release.Phase.TheVariants.{Drafted, Ready, Flying, Stopped, Completed, Cancelled}
use Rattle.plan.specs.declared.release.Release.{Release}
use Rattle.plan.specs.declared.release.Revision.{Revision}
use Rattle.plan.specs.declared.release.Signature.{Signature}
use Rattle.release_text.specs.Revisions.{revision_digest}
use Rattle.release_text.specs.Valid.{IsThere}
use Rattle.release_text.specs.Weather.{newer_than}
use Rattle.release_index.specs.Below.{findings_of}
use Rattle.asks.specs.declared.call.Ask.{Ask}
use Rattle.asks.specs.declared.call.Ask.TheVariants as ask
use Rattle.asks.specs.declared.call.Call.{Call}
use Rattle.asks.specs.declared.kept.KeptReply.{KeptReply}
use Rattle.asks.specs.declared.reply.Done.{Done as DoneType}
use Rattle.asks.specs.declared.reply.Refusal.{Refusal}
use Rattle.asks.specs.declared.reply.Refusal.TheVariants as refusal
use Rattle.asks.specs.declared.reply.Reply.{Reply}
use Rattle.asks.specs.declared.reply.Reply.TheVariants.{Done, Seen, Refused}
use Rattle.asks.specs.Canonical.{ask_digest}
use Rattle.desk_state.specs.declared.effect.Effect.{Effect}
use Rattle.desk_state.specs.declared.effect.Decision.{Decision}
use Rattle.desk_state.specs.declared.effect.Decision.TheVariants.{Show, Do}
use Rattle.desk_state.specs.State.{State, grounds_of, failing_of, release_at, alert_at, is_full, is_full_for, is_sweep}
use Rattle.desk_state.specs.Chain.{◌>>-◌, unless, some_or, refused_if}
use Rattle.desk_state.specs.People.{may_ask, mistaken, not_his_role}
use Rattle.desk_state.specs.Requests.{kept_at, floor_at}
use Rattle.desk_state.specs.Texts.{newest}
use Rattle.plan.specs.Phases.{is_flying}
use Rattle.desk_state.specs.Decide as d
use Rattle.desk_state.specs.Decide.{decide}
use Rattle.desk_state.specs.Step.{enter, finish, do_call, do_unless, answer_call}
use Rattle.desk_state.specs.Sound.{Sound, InBounds, ReleaseInBounds}
use Rattle.desk_state.specs.Allowed.{HasNotEnded, IsNextLeg, IsCaptainOf, FliesBy, HasEndedAt, IsFull, IsPermitted, DecisionOf}
use Rattle.desk_state.specs.Causes.{IsAtStage, IsFor, IsPlanFault, stage_needed, AreFailing, Allows, IsKeptUntil, Signs, release_named, IsRefusedFor, MayBeTold, RefusesFor}
use Rattle.desk_state.proofs.AllowedLaws.{decision_is, full_says, no_view, flies_as, has_ended, valid_held, depart_there, arrive_there}
use Rattle.desk_state.proofs.Deciding.{ended_moment}
use Rattle.desk_state.proofs.Each.{found_each}
use Rattle.desk_state.proofs.LeadingLaws.{Goes, permitted_by, role_by, decided_role}
use Rattle.desk_state.proofs.Passed.{so}
use Rattle.desk_io.proofs.Bytes.{same_bytes}

-- ---- what a test says that refuses

differ : (a b : List ℕ) → not (bytes_eq a b) ≡ true → a ≢ b
differ a b e = not_from_Decides (bytes_eq a b) (bytes_eq-Decides a b) (not-true (bytes_eq a b) e)

unlike : (a b : ℕ) → not (eqb a b) ≡ true → a ≢ b
unlike a b e = eqb-false a b (not-true (eqb a b) e)

-- ---- chains of tests

abbrev Replies : State → Call → Reply → Type 0
Replies s call (Refused refusal) = IsRefusedFor s call refusal
Replies s call (Seen text) = Unit {0}
Replies s call (Done made) = Unit {0}

-- what a call comes to is no refusal, or one that has its cause
abbrev Caused : State → Call → Result Decision Refusal → Type 0
Caused s call (Err refusal) = IsRefusedFor s call refusal
Caused s call (Ok (Show reply)) = Replies s call reply
Caused s call (Ok (Do made effect)) = Unit {0}

-- a test that gives a value, or else refuses
given : {A : Type 0} (s : State) (call : Call) (x : Refusal) (o : Option A) (f : A → Result Decision Refusal) → (o ≡ None → IsRefusedFor s call x)
    → ((a : A) → o ≡ Some a → Caused s call (f a)) → Caused s call (some_or x o >>- f)
given s call x None f cause goes = cause refl
given s call x (Some a) f cause goes = goes a refl

-- a test that refuses
tested : (s : State) (call : Call) (o : Option Refusal) (rest : Result Decision Refusal) → IfSome o (IsRefusedFor s call) → Caused s call rest → Caused s call (unless o rest)
tested s call None rest cause goes = goes
tested s call (Some x) rest cause goes = cause

-- a test that refuses where something is so
unless_so : (s : State) (call : Call) (b : Bool) (x : Refusal) (rest : Result Decision Refusal) → (b ≡ true → IsRefusedFor s call x) → (b ≡ false → Caused s call rest)
    → Caused s call (unless (refused_if b x) rest)
unless_so s call true x rest cause goes = cause refl
unless_so s call false x rest cause goes = goes refl

refused_so : (s : State) (call : Call) (b : Bool) (x : Refusal) → (b ≡ true → IsRefusedFor s call x) → IfSome (refused_if b x) (IsRefusedFor s call)
refused_so s call true x cause = cause refl
refused_so s call false x cause = tt

-- a call with another ask
abbrev asks : Call → Ask → Call
asks c a = record c { ask = a }

-- ---- reports and deferrals

admitted : (s : State) (c : Call) (text canon : List ℕ) (read : Read) (o : Option ℕ) → Caused s (asks c (ask.Admit text)) (d.admit_read o s canon read)
admitted s c text canon read (Some id) = tt
admitted s c text canon read None =
    unless_so s (asks c (ask.Admit text)) (nat_le 200_000 (length s.reports)) (refusal.ReportsFull (length s.reports)) _
    (λ full. (text, refl, refl, leb-true 200_000 (length s.reports) full)) (λ room. tt)

unread : (s : State) (c : Call) (text : List ℕ) (group : ℕ) (reason : Why) → read_of text s.moment ≡ Err (record { group = group; why = reason })
    → IsRefusedFor s (asks c (ask.Admit text)) (d.refusal_for group reason)
unread s c text group why.TooLong e = (λ same. absurd (cc), (text, refl, e))
unread s c text group why.Missing e = (λ same. absurd (cc), (text, refl, e))
unread s c text group why.NotStation e = (λ same. absurd (cc), (text, refl, e))
unread s c text group why.NotTime e = (λ same. absurd (cc), (text, refl, e))
unread s c text group why.DayOutOfReach e = (text, refl, e)
unread s c text group why.BadVisibility e = (λ same. absurd (cc), (text, refl, e))
unread s c text group why.BadSky e = (λ same. absurd (cc), (text, refl, e))
unread s c text group why.BadPeriod e = (λ same. absurd (cc), (text, refl, e))

admit_by : (s : State) (c : Call) (text : List ℕ) (m : Result Read BadReport) → read_of text s.moment ≡ m
    → Caused s (asks c (ask.Admit text)) (d.reading_or m >>- λ read. unless (d.no_airport s (station_of_read read))
    (d.admit_read (same_id s.reports (canonical (groups_of text)) (minute_of_read read)) s (canonical (groups_of text)) read))
admit_by s c text (Err bad) e = unread s c text bad.group bad.why e
admit_by s c text (Ok read) e =
    unless_so s (asks c (ask.Admit text)) (not (has_airport s.tables (station_of_read read))) refusal.NoSuchStation _
    (λ no. (station_of_read read, (read, e, refl), not-true (has_airport s.tables (station_of_read read)) no))
    (λ there. admitted s c text (canonical (groups_of text)) read (same_id s.reports (canonical (groups_of text)) (minute_of_read read)))

no_item : (o : Option MelRow) → is_none o ≡ true → is_some o ≡ false
no_item None e = refl
no_item (Some row) e = absurd (cc)

defer : (s : State) (c : Call) (tail item : List ℕ) (found : ℕ) → Caused s (asks c (ask.Defer tail item found)) (d.decide_defer s tail item found)
defer s c tail item found =
    let call : Call = asks c (ask.Defer tail item found) in
    given s call refusal.UnknownTail (type_of s.tables tail) _ (λ none. (tail, inl (item, found, refl), none)) (λ kind is.
    unless_so s call (is_none (item_of s.tables kind.kind item)) refusal.UnknownItem _ (λ none. (tail, item, found, refl, kind, is, no_item (item_of s.tables kind.kind item) none)) (λ there.
    unless_so s call (nat_lt s.moment found) (refusal.BadFound s.moment) _ (λ later. (tail, item, found, refl, refl, ltb-true s.moment found later)) (λ by.
    unless_so s call (nat_le 50_000 (length s.deferrals)) (refusal.DeferralsFull (length s.deferrals)) _
    (λ full. (tail, item, found, refl, refl, leb-true 50_000 (length s.deferrals) full)) (λ room. tt))))

clear : (s : State) (c : Call) (id : ℕ) → Caused s (asks c (ask.Clear id)) (d.decide_clear s id)
clear s c id =
    unless_so s (asks c (ask.Clear id)) (not (list_any (has_id id) s.deferrals)) refusal.NoSuchDeferral _ (λ no. (id, refl, not-true (list_any (has_id id) s.deferrals) no)) (λ there. tt)

view_deferred : (s : State) (c : Call) (tail : List ℕ) → Caused s (asks c (ask.ViewDeferred tail)) (d.decide_deferred s tail)
view_deferred s c tail = given s (asks c (ask.ViewDeferred tail)) refusal.UnknownTail (type_of s.tables tail) _ (λ none. (tail, inr refl, none)) (λ kind is. tt)

view_weather : (s : State) (c : Call) (station : Station) → Caused s (asks c (ask.ViewWeather station)) (d.decide_weather s station)
view_weather s c station =
    unless_so s (asks c (ask.ViewWeather station)) (not (has_airport s.tables station)) refusal.NoSuchStation _ (λ no. (station, refl, not-true (has_airport s.tables station) no)) (λ there. tt)

-- ---- releases

-- the ask names a release, which is held
record Names (s : State) (a : Ask) (q : Release) : Type 0 where
  pub id : ℕ
  pub named : release_named a ≡ Some id
  pub held : release_at id s.releases ≡ Some q

of_release : (s : State) (c : Call) (a : Ask) (id : ℕ) (f : Release → Result Decision Refusal) → release_named a ≡ Some id → ((q : Release) → Names s a q → Caused s (asks c a) (f q))
    → Caused s (asks c a) (d.held s id >>- f)
of_release s c a id f named goes =
    given s (asks c a) refusal.NoSuchRelease (release_at id s.releases) f (λ none. (id, named, none)) (λ q is. goes q (record { id = id; named = named; held = is }))

of_pending : (s : State) (c : Call) (a : Ask) (q : Release) (f : Revision → Result Decision Refusal) → Names s a q → 0 < stage_needed a
    → ((v : Revision) → q.pending ≡ Some v → Caused s (asks c a) (f v)) → Caused s (asks c a) (d.pending q >>- f)
of_pending s c a q f n needed goes =
    given s (asks c a) (refusal.NotPending 0) q.pending f (λ none. (needed, (n.id, n.named, q, n.held, subst (IsAtStage 0) (sym none) refl))) goes

his : (s : State) (c : Call) (a : Ask) (q : Release) (person : List ℕ) (rest : Result Decision Refusal) → Names s a q → IsFor s c.actor a q person → Caused s (asks c a) rest
    → Caused s (asks c a) (unless (d.not_yours person c.actor) rest)
his s c a q person rest n own goes =
    unless_so s (asks c a) (not (bytes_eq person c.actor)) (refusal.NotYours person) rest (λ no. (differ person c.actor no, (n.id, n.named, q, n.held, own))) (λ yes. goes)

in_phase : (s : State) (c : Call) (a : Ask) (q : Release) (may : Bool) (rest : Result Decision Refusal) → Names s a q → (may ≡ false → Allows q.phase a → ⊥)
    → (may ≡ true → Caused s (asks c a) rest) → Caused s (asks c a) (unless (d.out_of_phase may q.phase) rest)
in_phase s c a q may rest n barred goes =
    unless_so s (asks c a) (not may) (refusal.WrongPhase q.phase) rest (λ no. ((n.id, n.named, q, n.held, refl), barred (not-true may no))) (λ yes. goes (not-false may yes))

bad_plan : (s : State) (call : Call) (o : Option BadPlan) → ((bad : BadPlan) → o ≡ Some bad → IsPlanFault s call.ask bad) → IfSome (d.bad_plan o) (IsRefusedFor s call)
bad_plan s call None is = tt
bad_plan s call (Some bad) is = is bad refl

failing : (s : State) (call : Call) (fs : List Finding) → AreFailing s call.ask fs → IfSome (d.failing fs) (IsRefusedFor s call)
failing s call [] are = tt
failing s call (f ∷ fs) are = (λ none. absurd (cc), are)

failing_now : (s : State) (c : Call) (id leg : ℕ) (q : Release) (o : Option (List Finding)) → Names s (ask.Depart id leg) q → failing_of (grounds_of s) q ≡ o
    → IfSome (d.failing_any o) (IsRefusedFor s (asks c (ask.Depart id leg)))
failing_now s c id leg q None n is = tt
failing_now s c id leg q (Some fs) n is = failing s (asks c (ask.Depart id leg)) fs (inr (id, leg, refl, (n.id, n.named, q, n.held, is)))

draft : (s : State) (c : Call) (plan : Plan) → Caused s (asks c (ask.Draft plan)) (d.decide_draft s c.actor plan)
draft s c plan =
    let call : Call = asks c (ask.Draft plan) in
    tested s call (d.bad_plan (plan_fault s.tables plan)) _ (bad_plan s call (plan_fault s.tables plan) (λ bad is. is))
    (unless_so s call (nat_le 20_000 (length s.releases)) (refusal.ReleasesFull (length s.releases)) _
    (λ full. (plan, refl, refl, leb-true 20_000 (length s.releases) full)) (λ room. tt))

prepare : (s : State) (c : Call) (id : ℕ) → Caused s (asks c (ask.Prepare id)) (d.decide_prepare s c.actor id)
prepare s c id =
    let a : Ask = ask.Prepare id in
    of_release s c a id _ refl (λ q n. of_pending s c a q _ n (lit< tt) (λ v is. his s c a q q.holder _ n refl tt))

-- ---- signatures

-- an ask signs the pending revision of a release under a number and a digest
record Signing (s : State) (a : Ask) (number : ℕ) (digest : List ℕ) (q : Release) (v : Revision) : Type 0 where
  pub names : Names s a q
  pub pending : q.pending ≡ Some v
  pub signs : Signs a number digest

unprepared : (s : State) (c : Call) (a : Ask) (q : Release) (v : Revision) (rest : Result Decision Refusal) → Names s a q → q.pending ≡ Some v → 1 < stage_needed a
    → Caused s (asks c a) rest → Caused s (asks c a) (unless (d.unprepared v) rest)
unprepared s c a q v rest n is needed goes =
    unless_so s (asks c a) (not v.prepared) (refusal.NotPending 1) rest
    (λ no. (needed, (n.id, n.named, q, n.held, subst (IsAtStage 1) (sym is) (inl (refl, not-true v.prepared no))))) (λ yes. goes)

misnumbered : (s : State) (c : Call) (a : Ask) (number : ℕ) (digest : List ℕ) (q : Release) (v : Revision) (rest : Result Decision Refusal) → Signing s a number digest q v
    → Caused s (asks c a) rest → Caused s (asks c a) (unless (d.misnumbered v number) rest)
misnumbered s c a number digest q v rest p goes =
    unless_so s (asks c a) (not (eqb v.number number)) (refusal.WrongRevision v.number) rest
    (λ no. (number, digest, p.signs, (p.names.id, p.names.named, q, p.names.held, (v, p.pending, (refl, unlike v.number number no))))) (λ yes. goes)

mistaken_text : (s : State) (c : Call) (a : Ask) (number : ℕ) (digest : List ℕ) (q : Release) (v : Revision) (rest : Result Decision Refusal) → Signing s a number digest q v
    → Caused s (asks c a) rest → Caused s (asks c a) (unless (d.mistaken_text v digest) rest)
mistaken_text s c a number digest q v rest p goes =
    unless_so s (asks c a) (not (bytes_eq (revision_digest v) digest)) (refusal.WrongText (revision_digest v)) rest
    (λ no. (number, digest, p.signs, (p.names.id, p.names.named, q, p.names.held, (v, p.pending, (refl, differ (revision_digest v) digest no))))) (λ yes. goes)

newer : (s : State) (c : Call) (a : Ask) (number : ℕ) (digest : List ℕ) (q : Release) (v : Revision) (o : Option ℕ) → Signing s a number digest q v
    → newer_than s.reports v.plan q.phase v.attached ≡ o → IfSome (d.newer_weather o) (IsRefusedFor s (asks c a))
newer s c a number digest q v None p is = tt
newer s c a number digest q v (Some report) p is = (number, digest, p.signs, (p.names.id, p.names.named, q, p.names.held, (v, p.pending, is)))

signed : (s : State) (c : Call) (id number : ℕ) (digest : List ℕ) (q : Release) (v : Revision) (o : Option Signature) → Signing s (ask.Sign id number digest) number digest q v
    → v.dispatcher ≡ o → IfSome (d.signed o) (IsRefusedFor s (asks c (ask.Sign id number digest)))
signed s c id number digest q v None p is = tt
signed s c id number digest q v (Some signature) p is =
    (refl, (number, digest, p.signs, (p.names.id, p.names.named, q, p.names.held, (v, p.pending, λ none. absurd (cc)))))

unsigned : (s : State) (c : Call) (id number : ℕ) (digest : List ℕ) (q : Release) (v : Revision) (o : Option Signature) → Signing s (ask.Concur id number digest) number digest q v
    → v.dispatcher ≡ o → IfSome (d.unsigned o) (IsRefusedFor s (asks c (ask.Concur id number digest)))
unsigned s c id number digest q v (Some signature) p is = tt
unsigned s c id number digest q v None p is = (lit< tt, (p.names.id, p.names.named, q, p.names.held, subst (IsAtStage 2) (sym p.pending) (inr (refl, is))))

sign : (s : State) (c : Call) (id number : ℕ) (digest : List ℕ) → Caused s (asks c (ask.Sign id number digest)) (d.decide_sign s c.actor id number digest)
sign s c id number digest =
    let a : Ask = ask.Sign id number digest in
    of_release s c a id _ refl (λ q n. of_pending s c a q _ n (lit< tt) (λ v is.
    let p : Signing s a number digest q v = record { names = n; pending = is; signs = (refl, refl) } in
    unprepared s c a q v _ n is (lit< tt) (his s c a q q.holder _ n refl
    (misnumbered s c a number digest q v _ p (mistaken_text s c a number digest q v _ p
    (tested s (asks c a) (d.signed v.dispatcher) _ (signed s c id number digest q v v.dispatcher p refl)
    (tested s (asks c a) (d.outdated s q v) _ (newer s c a number digest q v (newer_than s.reports v.plan q.phase v.attached) p refl)
    (tested s (asks c a) (d.fails s q v) _ (failing s (asks c a) (findings_of v.plan (d.once_signed q.phase) (grounds_of s)) (inl (number, digest, p.signs, (n.id, n.named, q, n.held, (v, is, refl))))) tt))))))))

concur : (s : State) (c : Call) (id number : ℕ) (digest : List ℕ) → Caused s (asks c (ask.Concur id number digest)) (d.decide_concur s c.actor id number digest)
concur s c id number digest =
    let a : Ask = ask.Concur id number digest in
    of_release s c a id _ refl (λ q n. of_pending s c a q _ n (lit< tt) (λ v is.
    let p : Signing s a number digest q v = record { names = n; pending = is; signs = (refl, refl) } in
    unprepared s c a q v _ n is (lit< tt)
    (tested s (asks c a) (d.unsigned v.dispatcher) _ (unsigned s c id number digest q v v.dispatcher p refl)
    (his s c a q v.plan.captain _ n (subst (IsCaptainOf v.plan.captain) (sym is) refl)
    (misnumbered s c a number digest q v _ p (mistaken_text s c a number digest q v _ p
    (tested s (asks c a) (d.outdated s q v) _ (newer s c a number digest q v (newer_than s.reports v.plan q.phase v.attached) p refl)
    (tested s (asks c a) (d.fails s q v) _ (failing s (asks c a) (findings_of v.plan (d.once_signed q.phase) (grounds_of s)) (inl (number, digest, p.signs, (n.id, n.named, q, n.held, (v, is, refl))))) tt))))))))

-- ---- phases

over : (phase : Phase) → d.may_change phase ≡ false → HasNotEnded phase → ⊥
over Drafted e is = absurd (cc)
over Ready e is = absurd (cc)
over (Flying leg) e is = absurd (cc)
over (Stopped next since again) e is = absurd (cc)
over (Completed at) e is = (is at).0 refl
over (Cancelled at) e is = (is at).1 refl

not_next : (phase : Phase) (leg : ℕ) → d.may_depart phase leg ≡ false → IsNextLeg phase leg → ⊥
not_next Drafted leg e is = is
not_next Ready leg e is = eqb-false leg 1 e is
not_next (Flying n) leg e is = is
not_next (Stopped next since again) leg e is = eqb-false leg next e is
not_next (Completed at) leg e is = is
not_next (Cancelled at) leg e is = is

not_flying : (phase : Phase) (leg : ℕ) → is_flying phase leg ≡ false → phase ≡ Flying leg → ⊥
not_flying Drafted leg e is = absurd (cc)
not_flying Ready leg e is = absurd (cc)
not_flying (Flying n) leg e is = let same : leg ≡ n = cc in eqb-false leg n e same
not_flying (Stopped next since again) leg e is = absurd (cc)
not_flying (Completed at) leg e is = absurd (cc)
not_flying (Cancelled at) leg e is = absurd (cc)

not_over : (phase : Phase) → d.ended_at phase ≡ None → ((at : ℕ) × HasEndedAt phase at) → ⊥
not_over phase e (at, inl is) = let ended : d.ended_at (Completed at) ≡ None = subst (λ (x : Phase). d.ended_at x ≡ None) is e in absurd (cc)
not_over phase e (at, inr is) = let ended : d.ended_at (Cancelled at) ≡ None = subst (λ (x : Phase). d.ended_at x ≡ None) is e in absurd (cc)

amended : (s : State) (c : Call) (id : ℕ) (plan : Plan) (q : Release) (o : Option Revision) → Names s (ask.Amend id plan) q → newest q.pending q.active ≡ o
    → IfSome (d.bad_change plan o q.phase) (IsRefusedFor s (asks c (ask.Amend id plan)))
amended s c id plan q None n is = tt
amended s c id plan q (Some v) n is = bad_plan s (asks c (ask.Amend id plan)) (change_fault plan v.plan q.phase) (λ bad f. inr (n.id, n.named, q, n.held, (v, is, f)))

amend : (s : State) (c : Call) (id : ℕ) (plan : Plan) → Caused s (asks c (ask.Amend id plan)) (d.decide_amend s c.actor id plan)
amend s c id plan =
    let a : Ask = ask.Amend id plan in
    of_release s c a id _ refl (λ q n. in_phase s c a q (d.may_change q.phase) _ n (over q.phase) (λ may. his s c a q q.holder _ n refl
    (tested s (asks c a) (d.bad_plan (plan_fault s.tables plan)) _ (bad_plan s (asks c a) (plan_fault s.tables plan) (λ bad is. inl is))
    (tested s (asks c a) (d.bad_change plan (newest q.pending q.active) q.phase) _ (amended s c id plan q (newest q.pending q.active) n refl) tt))))

cancel : (s : State) (c : Call) (id : ℕ) → Caused s (asks c (ask.Cancel id)) (d.decide_cancel s c.actor id)
cancel s c id =
    let a : Ask = ask.Cancel id in
    of_release s c a id _ refl (λ q n. in_phase s c a q (d.may_change q.phase) _ n (over q.phase) (λ may. his s c a q q.holder _ n refl tt))

flown_by : (o : Option Actor) (q : Release) → IsThere q.active → FliesBy o (d.flies_by o q) q
flown_by None q there = refl
flown_by (Some person) q there = flies_as person.role (d.flies_by (Some person) q) q there refl

depart : (s : State) (c : Call) (id leg : ℕ) → Sound s → Caused s (asks c (ask.Depart id leg)) (d.decide_depart s c.actor id leg)
depart s c id leg sound =
    let a : Ask = ask.Depart id leg in
    of_release s c a id _ refl (λ q n. in_phase s c a q (d.may_depart q.phase leg) _ n (not_next q.phase leg) (λ may.
    his s c a q (d.flies_by (actor_of s.tables c.actor) q) _ n
    (flown_by (actor_of s.tables c.actor) q (depart_there q.phase leg q.pending q.active may (valid_held s n.id q sound n.held).valid.phased))
    (tested s (asks c a) (d.fails_now s q) _ (failing_now s c id leg q (failing_of (grounds_of s) q) n refl) tt)))

arrive : (s : State) (c : Call) (id leg : ℕ) → Sound s → Caused s (asks c (ask.Arrive id leg)) (d.decide_arrive s c.actor id leg)
arrive s c id leg sound =
    let a : Ask = ask.Arrive id leg in
    of_release s c a id _ refl (λ q n. in_phase s c a q (is_flying q.phase leg) _ n (not_flying q.phase leg) (λ may.
    his s c a q (d.flies_by (actor_of s.tables c.actor) q) _ n
    (flown_by (actor_of s.tables c.actor) q (arrive_there q.phase leg q.pending q.active may (valid_held s n.id q sound n.held).valid.phased))
    (arrived s c a (d.has_more q leg) q leg)))
  where
    arrived : (s : State) (c : Call) (a : Ask) (more : Bool) (q : Release) (leg : ℕ) → Caused s (asks c a) (Ok (d.arrival more q leg s.moment))
    arrived s c a true q leg = tt
    arrived s c a false q leg = tt

acknowledge : (s : State) (c : Call) (id version : ℕ) → Caused s (asks c (ask.Acknowledge id version)) (d.decide_acknowledge s c.actor id version)
acknowledge s c id version =
    let a : Ask = ask.Acknowledge id version in
    of_release s c a id _ refl (λ q n.
    given s (asks c a) refusal.NoSuchAlert (alert_at q.id s.alerts) _ (λ none. (id, version, refl, (n.id, n.named, q, n.held, none))) (λ alert is.
    his s c a q q.holder _ n refl
    (unless_so s (asks c a) (not (eqb alert.version version)) (refusal.AlertMoved alert.version) _
    (λ no. (id, version, refl, unlike alert.version version no, (n.id, n.named, q, n.held, (alert, is, refl)))) (λ yes. tt))))

-- ---- records

kept_until : (at : ℕ) → IsMoment at → IsKeptUntil at (d.kept_until at)
kept_until at is =
    let low = is.0 in
    let high = is.1 in
    record { last = three_months (at / 1440); months = three_months_later (at / 1440) (omega (arith, low)) (omega (arith, high)); end = refl }

held_moment : (s : State) (id : ℕ) (q : Release) → InBounds s → release_at id s.releases ≡ Some q → HasMoment q.phase
held_moment s id q kept is =
    let has : ReleaseInBounds q = subst (λ (o : Option Release). IfSome o ReleaseInBounds) is (found_each ReleaseInBounds (λ r. eqb r.id id) s.releases kept.releases) in
    has.moment

purge : (s : State) (c : Call) (id : ℕ) → InBounds s → Caused s (asks c (ask.Purge id)) (d.decide_purge s id)
purge s c id kept =
    let a : Ask = ask.Purge id in
    of_release s c a id _ refl (λ q n.
    given s (asks c a) (refusal.WrongPhase q.phase) (d.ended_at q.phase) _ (λ none. ((n.id, n.named, q, n.held, refl), not_over q.phase none)) (λ at is.
    unless_so s (asks c a) (nat_lt s.moment (d.kept_until at)) (refusal.TooYoung (d.kept_until at)) _
    (λ young. (
      ltb-true s.moment (d.kept_until at) young,
      (n.id, n.named, q, n.held, (at, has_ended q.phase at is, kept_until at (ended_moment q.phase at is (held_moment s n.id q kept n.held)))),
    )) (λ old. tt)))

sweep : (s : State) (c : Call) (before : ℕ) → Caused s (asks c (ask.Sweep before)) (d.decide_sweep s before)
sweep s c before =
    unless_so s (asks c (ask.Sweep before)) (nat_lt s.moment (before + 4320)) (refusal.TooYoung (before + 4320)) _
    (λ young. (ltb-true s.moment (before + 4320) young, refl)) (λ old. tt)

asked : (s : State) (c : Call) (a : Ask) → Sound s → InBounds s → Caused s (asks c a) (d.decide_ask s c.actor a)
asked s c (ask.Admit text) sound kept = admit_by s c text (read_of text s.moment) refl
asked s c (ask.Defer tail item found) sound kept = defer s c tail item found
asked s c (ask.Clear id) sound kept = clear s c id
asked s c (ask.Draft plan) sound kept = draft s c plan
asked s c (ask.Prepare id) sound kept = prepare s c id
asked s c (ask.Sign id number digest) sound kept = sign s c id number digest
asked s c (ask.Concur id number digest) sound kept = concur s c id number digest
asked s c (ask.Amend id plan) sound kept = amend s c id plan
asked s c (ask.Cancel id) sound kept = cancel s c id
asked s c (ask.Depart id leg) sound kept = depart s c id leg sound
asked s c (ask.Arrive id leg) sound kept = arrive s c id leg sound
asked s c (ask.Acknowledge id version) sound kept = acknowledge s c id version
asked s c (ask.Purge id) sound kept = purge s c id kept
asked s c (ask.Sweep before) sound kept = sweep s c before
asked s c ask.ViewBoard sound kept = tt
asked s c ask.ViewAlerts sound kept = tt
asked s c (ask.ViewRelease id) sound kept = of_release s c (ask.ViewRelease id) id _ refl (λ q n. tt)
asked s c (ask.ViewWeather station) sound kept = view_weather s c station
asked s c (ask.ViewDeferred tail) sound kept = view_deferred s c tail

-- ---- numbers and persons

repeated : (s : State) (call : Call) (k : KeptReply) (b : Bool) → bytes_eq k.digest (ask_digest call.ask) ≡ b → d.is_view call.ask ≡ false → kept_at call.actor call.number s.kept ≡ Some k
    → Caused s call (cond b (Ok (Show (Done k.done))) (Err (refusal.NumberReused k.id)))
repeated s call k true e command held = tt
repeated s call k false e command held = (command, k, held, not_from_Decides (bytes_eq k.digest (ask_digest call.ask)) (bytes_eq-Decides k.digest (ask_digest call.ask)) e, refl)

swept : (s : State) (call : Call) (o : Option ℕ) → floor_at call.actor s.floors ≡ o → d.is_view call.ask ≡ false → IfSome (d.up_to_floor o call.number) (IsRefusedFor s call)
swept s call None is command = tt
swept s call (Some floor) is command = refused_so s call (nat_le call.number floor) (refusal.NumberSwept floor) (λ below. (command, is, leb-true call.number floor below))

new : (s : State) (call : Call) (o : Option KeptReply) → kept_at call.actor call.number s.kept ≡ o → d.is_view call.ask ≡ false → Sound s → InBounds s → Caused s call (d.decide_new o s call)
new s call (Some k) is command sound kept = repeated s call k (bytes_eq k.digest (ask_digest call.ask)) refl command is
new s call None is command sound kept =
    tested s call (d.swept_number s call.actor call.number) _ (swept s call (floor_at call.actor s.floors) refl command) (asked s call call.ask sound kept)

numbered : (s : State) (call : Call) (view : Bool) → d.is_view call.ask ≡ view → Sound s → InBounds s → Caused s call (d.decide_numbered view s call)
numbered s call true is sound kept = asked s call call.ask sound kept
numbered s call false is sound kept = new s call (kept_at call.actor call.number s.kept) refl is sound kept

role : (s : State) (call : Call) (o : Option Actor) → actor_of s.tables call.actor ≡ o → mistaken o call.key ≡ None → IfSome (not_his_role o call.ask) (IsRefusedFor s call)
role s call None is right = absurd (cc)
role s call (Some person) is right =
    refused_so s call (not (may_ask call.ask person.role)) refusal.NotYourRole
    (λ no. (person, is, (same_bytes person.key call.key (so (bytes_eq person.key call.key) _ right), not-true (may_ask call.ask person.role) no)))

known : (s : State) (call : Call) (o : Option Actor) → actor_of s.tables call.actor ≡ o → IfSome (mistaken o call.key) (IsRefusedFor s call)
known s call None is = is
known s call (Some person) is = refused_so s call (not (bytes_eq person.key call.key)) refusal.WrongKey (λ no. (person, is, differ person.key call.key no))

decided : (s : State) (call : Call) → mistaken (actor_of s.tables call.actor) call.key ≡ None → Sound s → InBounds s → Caused s call (decide s call)
unfolding decide
decided s call right sound kept =
    tested s call (not_his_role (actor_of s.tables call.actor) call.ask) _ (role s call (actor_of s.tables call.actor) refl right) (numbered s call (d.is_view call.ask) refl sound kept)

-- ---- the reply

full_for : (s : State) (a : Ask) → (is_full s ≡ true) ⊎ ((nat_le 400_000 (length s.kept) && not (is_sweep a)) ≡ true) → IsFull s ⊎ ((400_000 ≤ length s.kept) × (is_sweep a ≡ false))
full_for s a (inl e) = inl (full_says s e)
full_for s a (inr e) =
    let both = and_parts (nat_le 400_000 (length s.kept)) (not (is_sweep a)) e in
    inr (leb-true 400_000 (length s.kept) both.0, not-true (is_sweep a) both.1)

replied : (s : State) (call : Call) (reply : Reply) → Replies s call reply → ((x : Refusal) → reply ≡ Refused x → MayBeTold s call x) → RefusesFor s call (Some reply)
unfolding RefusesFor
replied s call (Refused x) has may why e = let same : x ≡ why = cc in subst (λ r. IsRefusedFor s call r × MayBeTold s call r) same (has, may x refl)
replied s call (Seen text) has may why e = absurd (cc)
replied s call (Done made) has may why e = absurd (cc)

entered : (s : State) (lane : ℕ) (call : Call) (made : DoneType) (does : Effect) (full : Bool) → is_full_for s call.ask ≡ full → d.is_view call.ask ≡ false → IsPermitted s call
    → RefusesFor s call (enter full s lane call made does).reply
entered s lane call made does true is command may =
    replied s call _ (command, refl, refl, refl, full_for s call.ask (or_cases (is_full s) (nat_le 400_000 (length s.kept) && not (is_sweep call.ask)) is)) (λ x e. inl may)
entered s lane call made does false is command may = replied s call (Done made) tt (λ x e. inl may)

-- that the ask isn't for his role is said to any person, every other refusal to one who may ask
told_by : (s : State) (call : Call) (o : Option Refusal) (rest : Result Decision Refusal) (x : Refusal) → (o ≡ None → IsPermitted s call) → IfSome o (λ r. r ≡ refusal.NotYourRole)
    → unless o rest ≡ Err x → MayBeTold s call x
told_by s call None rest x may is e = inl (may refl)
told_by s call (Some r) rest x may is e = inr (inr (inr (cc)))

only_role : (o : Option Actor) (a : Ask) → IfSome (not_his_role o a) (λ r. r ≡ refusal.NotYourRole)
only_role None a = refl
only_role (Some person) a = by (not (may_ask a person.role))
  where
    by : (b : Bool) → IfSome (refused_if b refusal.NotYourRole) (λ r. r ≡ refusal.NotYourRole)
    by true = refl
    by false = tt

decided_told : (s : State) (call : Call) (x : Refusal) → mistaken (actor_of s.tables call.actor) call.key ≡ None → decide s call ≡ Err x → MayBeTold s call x
unfolding decide
decided_told s call x right e =
    told_by s call (not_his_role (actor_of s.tables call.actor) call.ask) (d.decide_numbered (d.is_view call.ask) s call) x
    (λ none. permitted_by s call (actor_of s.tables call.actor) refl right (role_by (actor_of s.tables call.actor) call.ask none)) (only_role (actor_of s.tables call.actor) call.ask) e

finished : (s : State) (lane : ℕ) (call : Call) (decision : Result Decision Refusal) → Caused s call decision → DecisionOf s call decision
    → (Goes decision → IsPermitted s call) → ((x : Refusal) → decision ≡ Err x → MayBeTold s call x) → RefusesFor s call (finish s lane call decision).reply
finished s lane call (Err refusal) cause is goes may = replied s call (Refused refusal) cause (λ x e. may x (cc))
finished s lane call (Ok (Show reply)) cause is goes may = replied s call reply cause (λ x e. inl (goes tt))
finished s lane call (Ok (Do made does)) cause is goes may = entered s lane call made does (is_full_for s call.ask) refl (no_view s call.actor is.1) (goes tt)

mistaken_is : (o : Option Actor) (key : List ℕ) → IfSome (mistaken o key) (λ r. (r ≡ refusal.UnknownActor) ⊎ (r ≡ refusal.WrongKey))
mistaken_is None key = inl refl
mistaken_is (Some person) key = by (not (bytes_eq person.key key))
  where
    by : (b : Bool) → IfSome (refused_if b refusal.WrongKey) (λ r. (r ≡ refusal.UnknownActor) ⊎ (r ≡ refusal.WrongKey))
    by true = inr refl
    by false = tt

to_anyone : (s : State) (call : Call) (x r : Refusal) → Refused x ≡ Refused r → (x ≡ refusal.UnknownActor) ⊎ (x ≡ refusal.WrongKey) → MayBeTold s call r
to_anyone s call x r e (inl is) = inr (inl (cc))
to_anyone s call x r e (inr is) = inr (inr (inl (cc)))

done_unless : (s : State) (lane : ℕ) (call : Call) (o : Option Refusal) → mistaken (actor_of s.tables call.actor) call.key ≡ o → IfSome o (IsRefusedFor s call)
    → IfSome o (λ r. (r ≡ refusal.UnknownActor) ⊎ (r ≡ refusal.WrongKey)) → Sound s → InBounds s → RefusesFor s call (do_unless o s lane call).reply
unfolding do_call
done_unless s lane call (Some refusal) is cause which sound kept = replied s call (Refused refusal) cause (λ r e. to_anyone s call refusal r e which)
done_unless s lane call None is cause which sound kept =
    finished s lane call (decide s call) (decided s call is sound kept) (decision_is s call sound)
    (λ goes. permitted_by s call (actor_of s.tables call.actor) refl is (decided_role s call goes)) (λ x e. decided_told s call x is e)

-- a call is refused only for the cause of its refusal
pub refused_for : (s : State) (lane : ℕ) (call : Call) (reply : Option Reply) → Sound s → InBounds s → reply ≡ (answer_call s lane call).reply → RefusesFor s call reply
unfolding answer_call
refused_for s lane call reply sound kept is =
    subst (RefusesFor s call) (sym is)
    (done_unless s lane call (mistaken (actor_of s.tables call.actor) call.key) refl (known s call (actor_of s.tables call.actor) refl)
    (mistaken_is (actor_of s.tables call.actor) call.key) sound kept)
