-- A sweep leaves what is attached, and can come.
use Rattle.std.proofs.Common.{◌≡◌, ◌≢◌, ℕ, ◌+◌, ◌<◌, ◌≤◌, ◌==◌, ◌&&◌, ◌||◌, eq-eqb, eqb-true, Bool, true, false, not, List, [], ◌∷◌, length, Option, None, Some, IfSome, Result, Ok, Err, inl, inr, refl, ap, sym, ◌∙◌, subst}
use Rattle.std.specs.Prelude.{filter, map, nat_le}
use Rattle.std.specs.List.{AllByRecursion, list_any}
use Rattle.std.proofs.lemmas.Bool.{le-ltb, leb-false, lt-leb, or_left, or_parts, or_right, or_from, and_right}
use Rattle.ops_tables.specs.Tables.{actor_of}
use Rattle.asks.specs.declared.call.Ask.{Ask}
use Rattle.asks.specs.declared.call.Ask.TheVariants as ask
use Rattle.asks.specs.declared.call.Call.{Call}
use Rattle.asks.specs.declared.reply.Done.{Done as DoneType}
use Rattle.asks.specs.declared.reply.Done.TheVariants as done
use Rattle.asks.specs.declared.reply.Refusal.{Refusal}
use Rattle.asks.specs.declared.reply.Reply.{Reply}
use Rattle.facts.specs.Swept.{is_kept, is_latest, stays, swept}
use Rattle.facts.specs.Same.{minute_of_report}
use Rattle.facts.specs.declared.report.Report.{Report}
use Rattle.plan.specs.declared.release.Attached.{Attached}
use Rattle.plan.specs.declared.release.Release.{Release}
use Rattle.plan.specs.declared.release.Revision.{Revision}
use Rattle.desk_state.specs.declared.effect.Decision.{Decision}
use Rattle.desk_state.specs.declared.effect.Decision.TheVariants.{Show, Do}
use Rattle.desk_state.specs.declared.effect.Effect.{Effect}
use Rattle.desk_state.specs.declared.effect.Sweep.{Sweep}
use Rattle.desk_state.specs.Allowed.{IsSweeping, IsUnused, MayLeadTo}
use Rattle.desk_state.specs.Decide.{attached_reports, decide, is_attached, is_attached_to, is_view, reports_before, up_to_floor}
use Rattle.desk_state.specs.Effects as effect
use Rattle.desk_state.specs.Events.{reports_after, reports_swept}
use Rattle.desk_state.specs.People.{mistaken}
use Rattle.desk_state.specs.Repeats.{MayAsk}
use Rattle.desk_state.specs.Requests.{floor_at, kept_before, raised_by}
use Rattle.desk_state.specs.State.{State, is_full, is_full_for, is_sweep}
use Rattle.desk_state.specs.Step.{accepted, answer_call, do_call, do_unless, enter, finish}
use Rattle.desk_state.specs.Sweeps.{report_at, StayAttached, KeepsAttached, MayGoOn, ComesInTime, CanSweep, SweepsWell}
use Rattle.desk_state.proofs.AllowedLaws.{sweep_of}
use Rattle.desk_state.proofs.Boards.{few_entries, few_events}
use Rattle.desk_state.proofs.Found.{found_any, found_filter, found_more, found_passes, if_found}
use Rattle.desk_state.proofs.RepeatLaws.{permitted_asks}

-- ---- what is attached stays

any_id : (id : ℕ) (rs : List Report) → list_any (λ i. i == id) (map (λ r. r.id) rs) ≡ list_any (λ r. r.id == id) rs
any_id id [] = refl
any_id id (r ∷ rs) = ap (λ b. (r.id == id) || b) (any_id id rs)

-- a report that is attached is one of those to keep
kept_as : (s : State) (w : Sweep) (id : ℕ) (r : Report) → w.attached ≡ attached_reports s → is_attached id s.releases ≡ true → report_at id s.reports ≡ Some r → is_kept w.attached r ≡ true
kept_as s w id r is attached has =
    let own : r.id ≡ id = eqb-true r.id id (found_passes (λ x. x.id == id) s.reports r has) in
    let among = found_filter (λ x. x.id == id) (λ x. is_attached x.id s.releases) s.reports r has (ap (λ n. is_attached n s.releases) own ∙ attached) in
    let some : list_any (λ i. i == id) (attached_reports s) ≡ true =
    any_id id (filter (λ x. is_attached x.id s.releases) s.reports) ∙ found_any (λ x. x.id == id) (filter (λ x. is_attached x.id s.releases) s.reports) r among in
    ap (λ n. list_any (λ i. i == n) w.attached) own ∙ ap (λ list. list_any (λ i. i == id) list) is ∙ some

after_report : (o : Option Report) (rs : List Report) (id : ℕ) (r : Report) → report_at id rs ≡ Some r → report_at id (reports_after o rs) ≡ Some r
after_report None rs id r has = has
after_report (Some x) rs id r has = found_more (λ q. q.id == id) rs (x ∷ []) r has

after_sweep : (s : State) (o : Option Sweep) (rs : List Report) (id : ℕ) (r : Report) → IfSome o (λ w. IsSweeping s w.before w.attached w.floors) → is_attached id s.releases ≡ true
    → report_at id s.reports ≡ Some r → report_at id rs ≡ Some r → report_at id (reports_swept o rs) ≡ Some r
unfolding swept
after_sweep s None rs id r is attached has there = there
after_sweep s (Some w) rs id r is attached has there =
    found_filter (λ q. q.id == id) (stays w.before w.attached rs) rs r there
    (or_right (nat_le w.before (minute_of_report r) || is_latest rs r) (is_kept w.attached r) (kept_as s w id r is.attached attached has))

attached_list : (s t : State) → ((id : ℕ) (r : Report) → is_attached id s.releases ≡ true → report_at id s.reports ≡ Some r → report_at id t.reports ≡ Some r)
    → (list : List Attached) → ((id : ℕ) → list_any (λ a. a.report == id) list ≡ true → is_attached id s.releases ≡ true)
    → AllByRecursion (λ a. IfSome (report_at a.report s.reports) (λ r. report_at a.report t.reports ≡ Some r)) list
attached_list s t keeps [] is = tt
attached_list s t keeps (a ∷ list) is = (
  if_found (λ r. report_at a.report t.reports ≡ Some r) (report_at a.report s.reports)
      (λ r has. keeps a.report r (is a.report (or_left (a.report == a.report) (list_any (λ x. x.report == a.report) list) (eq-eqb a.report a.report refl))) has),
  attached_list s t keeps list (λ id e. is id (or_right (a.report == id) (list_any (λ x. x.report == id) list) e)),
)

attached_revision : (s t : State) → ((id : ℕ) (r : Report) → is_attached id s.releases ≡ true → report_at id s.reports ≡ Some r → report_at id t.reports ≡ Some r)
    → (o : Option Revision) → ((id : ℕ) → is_attached_to id o ≡ true → is_attached id s.releases ≡ true) → IfSome o (StayAttached s t)
attached_revision s t keeps None is = tt
attached_revision s t keeps (Some v) is = attached_list s t keeps v.attached is

attached_all : (s t : State) → ((id : ℕ) (r : Report) → is_attached id s.releases ≡ true → report_at id s.reports ≡ Some r → report_at id t.reports ≡ Some r)
    → (rs : List Release) → ((id : ℕ) → is_attached id rs ≡ true → is_attached id s.releases ≡ true)
    → AllByRecursion (λ (r : Release). IfSome r.pending (StayAttached s t) × IfSome r.active (StayAttached s t)) rs
attached_all s t keeps [] is = tt
attached_all s t keeps (r ∷ rs) is = (
  (
    attached_revision s t keeps r.pending (λ id e. is id (or_left (is_attached_to id r.pending || is_attached_to id r.active) (is_attached id rs)
        (or_left (is_attached_to id r.pending) (is_attached_to id r.active) e))),
    attached_revision s t keeps r.active (λ id e. is id (or_left (is_attached_to id r.pending || is_attached_to id r.active) (is_attached id rs)
        (or_right (is_attached_to id r.pending) (is_attached_to id r.active) e))),
  ),
  attached_all s t keeps rs (λ id e. is id (or_right (is_attached_to id r.pending || is_attached_to id r.active) (is_attached id rs) e)),
)

stay_attached : (s t : State) (lane : ℕ) (call : Call) (reply : Option Reply) → MayLeadTo lane call s t reply → KeepsAttached s t
stay_attached s t lane call reply (inl same) =
    attached_all s t (λ id r attached has. ap (λ (u : State). report_at id u.reports) same.0 ∙ has) s.releases (λ id e. e)
stay_attached s t lane call reply (inr leads) =
    attached_all s t (λ id r attached has. ap (λ rs. report_at id rs) leads.8.reports
    ∙ after_sweep s leads.1.sweep (reports_after leads.1.report s.reports) id r (sweep_of s call.actor leads.3) attached has (after_report leads.1.report s.reports id r has))
    s.releases (λ id e. e)

-- ---- what comes in time

few_kept : (n : ℕ) (b sweep : Bool) → nat_le 400_000 n ≡ b → (b && not sweep) ≡ false → sweep ≡ false → n < 400_000
few_kept n true sweep e full other = absurd (cc)
few_kept n false sweep e full other = leb-false 400_000 n e

in_time : (s : State) (a : Ask) → is_full_for s a ≡ false → ComesInTime s a
in_time s a room =
    let both = or_parts (is_full s) (nat_le 400_000 (length s.kept) && not (is_sweep a)) room in
    record {
      event = record { entries = few_entries s both.0; events = few_events s both.0 };
      kept = λ other. few_kept (length s.kept) (nat_le 400_000 (length s.kept)) (is_sweep a) refl both.1 other;
    }

enter_time : (full : Bool) (s : State) (lane : ℕ) (call : Call) (made : DoneType) (does : Effect) → is_full_for s call.ask ≡ full → (enter full s lane call made does).state ≢ s → ComesInTime s call.ask
enter_time true s lane call made does e changes = absurd (changes refl)
enter_time false s lane call made does e changes = in_time s call.ask e

finish_time : (s : State) (lane : ℕ) (call : Call) (decision : Result Decision Refusal) → (finish s lane call decision).state ≢ s → ComesInTime s call.ask
finish_time s lane call (Err refusal) changes = absurd (changes refl)
finish_time s lane call (Ok (Show reply)) changes = absurd (changes refl)
finish_time s lane call (Ok (Do made does)) changes = enter_time (is_full_for s call.ask) s lane call made does refl changes

do_time : (s : State) (lane : ℕ) (call : Call) (o : Option Refusal) → (do_unless o s lane call).state ≢ s → ComesInTime s call.ask
unfolding do_call
do_time s lane call None changes = finish_time s lane call (decide s call) changes
do_time s lane call (Some refusal) changes = absurd (changes refl)

answer_time : (s : State) (lane : ℕ) (call : Call) → (answer_call s lane call).state ≢ s → ComesInTime s call.ask
unfolding answer_call
answer_time s lane call changes = do_time s lane call (mistaken (actor_of s.tables call.actor) call.key) changes

-- ---- a sweep can come

above_none : (o : Option ℕ) (number : ℕ) → IfSome o (λ floor. floor < number) → up_to_floor o number ≡ None
above_none None number above = refl
above_none (Some floor) number above = let over = lt-leb number floor above in rw over refl

sweep_decided : (s : State) (call : Call) (before : ℕ) → call.ask ≡ ask.Sweep before → MayAsk s call → IsUnused s call → before + 4320 ≤ s.moment
    → decide s call ≡ Ok (Do (done.Swept (length (reports_before s before)) (length (kept_before before s.kept))) (effect.sweep before (attached_reports s) (raised_by (kept_before before s.kept) s.floors)))
unfolding decide
sweep_decided s call before is may unused passed =
    let above = above_none (floor_at call.actor s.floors) call.number unused.above in
    let old = le-ltb s.moment (before + 4320) passed in
    rw (may.role, may.command, unused.none, above, is, old) refl

room_to_sweep : (s : State) (before : ℕ) → MayGoOn s → is_full_for s (ask.Sweep before) ≡ false
room_to_sweep s before goes =
    or_from (is_full s) (nat_le 400_000 (length s.kept) && false)
    (or_from (nat_le 400_000 (length s.entries)) (nat_le 999_999_999_999_000 s.counters.events) (lt-leb 400_000 (length s.entries) goes.entries)
    (lt-leb 999_999_999_999_000 s.counters.events goes.events))
    (and_right (nat_le 400_000 (length s.kept)) false refl)

can_sweep : (s : State) (lane : ℕ) (call : Call) → CanSweep s call (answer_call s lane call).reply
unfolding answer_call do_call
can_sweep s lane call before is permitted unused passed goes =
    let may : MayAsk s call = permitted_asks s call permitted (ap is_view is) in
    let made : DoneType = done.Swept (length (reports_before s before)) (length (kept_before before s.kept)) in
    let does : Effect = effect.sweep before (attached_reports s) (raised_by (kept_before before s.kept) s.floors) in
    let finished : finish s lane call (decide s call) ≡ accepted s lane call made does =
    ap (finish s lane call) (sweep_decided s call before is may unused passed)
    ∙ ap (λ full. enter full s lane call made does) (ap (is_full_for s) is ∙ room_to_sweep s before goes) in
    (made, ap (λ o. (do_unless o s lane call).reply) may.known ∙ ap (λ st. st.reply) finished)

-- what a call leads to
pub sweeps_well : (s t : State) (lane : ℕ) (call : Call) (reply : Option Reply) → t ≡ (answer_call s lane call).state → reply ≡ (answer_call s lane call).reply → MayLeadTo lane call s t reply
    → SweepsWell s t call reply
sweeps_well s t lane call reply one two leads = record {
  attached = stay_attached s t lane call reply leads;
  time = λ changes. answer_time s lane call (λ same. changes (one ∙ same));
  sweep = subst (CanSweep s call) (sym two) (can_sweep s lane call);
}
