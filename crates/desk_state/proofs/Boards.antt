-- Every step keeps what holds of a board.
use Rattle.std.proofs.Common.{◌≡◌, inl, ℕ, ◌+◌, ◌<◌, ◌≤◌, Bool, true, false, not, ◌&&◌, List, [], ◌∷◌, ◌++◌, append-nil, option_to_list, length, length-append, Option, None, Some, IfSome, Result, Ok, Err, refl, ap, sym, ◌∙◌, subst, arith}
use Rattle.std.specs.Prelude.{nat_le, is_some}
use Rattle.std.specs.List.{AllByRecursion, AllPairs}
use Rattle.std.proofs.lemmas.Bool.{leb-false, or_parts}
use Rattle.std.proofs.lemmas.List.Elements.{All-from_recursion}
use Rattle.std.proofs.lemmas.List.Quantifiers.{all_pairs_push}
use Rattle.ops_tables.specs.Forms.{is_person}
use Rattle.ops_tables.specs.Named.{AreNamed}
use Rattle.ops_tables.specs.Tables.{TableRows, actor_of}
use Rattle.plan.specs.declared.release.Release.{Release}
use Rattle.asks.specs.declared.call.Call.{Call}
use Rattle.asks.specs.declared.reply.Done.{Done as DoneType}
use Rattle.asks.specs.declared.reply.Reply.{Reply}
use Rattle.asks.specs.declared.reply.Refusal.{Refusal}
use Rattle.alerts.specs.declared.alert.Alert.{Alert}
use Rattle.alerts.specs.Alerts.{IsAlert}
use Rattle.desk_state.specs.declared.counters.Counters.{Counters}
use Rattle.desk_state.specs.declared.entry.Entry.{Entry}
use Rattle.desk_state.specs.declared.entry.What.{What}
use Rattle.desk_state.specs.declared.entry.What.TheVariants as what
use Rattle.desk_state.specs.declared.effect.Decision.{Decision}
use Rattle.desk_state.specs.declared.effect.Decision.TheVariants.{Show, Do}
use Rattle.desk_state.specs.declared.effect.Effect.{Effect}
use Rattle.desk_state.specs.Effects.{tick}
use Rattle.asks.specs.declared.call.Ask.{Ask}
use Rattle.asks.specs.declared.kept.KeptReply.{KeptReply}
use Rattle.asks.specs.declared.reply.Reply.TheVariants.{Done, Seen, Refused}
use Rattle.desk_state.specs.Requests.{is_request, kept_at}
use Rattle.desk_state.specs.State.{State, start, grounds_of, alert_at, is_sweep, is_full, is_full_for}
use Rattle.desk_state.specs.Events.{effected, releases_after, reports_after}
use Rattle.desk_state.specs.Decide.{decide, is_view, decide_new, decide_numbered}
use Rattle.desk_state.specs.Step.{entry, entered, kept_of, kept_reply, next_kept, accepted, enter, finish, do_call, changes, changes_by, do_unless, answer_call, ticked, tick_unless, tick_to, without_key}
use Rattle.std.specs.Str.{bytes_eq}
use Rattle.ops_tables.specs.Rows.{Actor}
use Rattle.asks.specs.declared.reply.Refusal.TheVariants.{WrongKey}
use Rattle.desk_state.specs.Chain.{unless, refused_if}
use Rattle.desk_state.specs.People.{mistaken, not_his_role}
use Rattle.desk_state.specs.Legal.{MayCome, next, Legal, IsHistory}
use Rattle.desk_time.specs.Limits.{IsMoment}
use Rattle.release_index.specs.Below.{Grounds}
use Rattle.desk_state.specs.Sound.{Sound, MayStand, InBounds, ReleaseInBounds, IsBoard, IsNumbered, AreOpen, AreUnlike, AreSingle, IsReplied, IsEntered, IsToldTo, IsAlerted, Rise, EffectFits, DecisionFits}
use Rattle.asks.specs.Ranges.{RefusalHasMoment, ReplyHasMoment}
use Rattle.asks.specs.Forms.{CallHasForms}
use Rattle.asks.proofs.AskForms.{call_from_forms}
use Rattle.desk_state.proofs.Judging.{AreTold, alerts_have, all_own, are_alerted, are_alerts, told_kept}
use Rattle.desk_state.proofs.AllowedLaws.{decision_is}
use Rattle.desk_state.specs.Allowed.{DecisionOf}
use Rattle.desk_state.proofs.Parts.{tick_fits, judgeable, moment_shown, none_found, reports_unlike, reports_numbered, reports_rise, reports_few, swept_each, swept_unlike, swept_rise, swept_fewer, kept_each, kept_single, kept_rise, kept_fewer, still_unused, report_next, deferrals_open, deferral_next, releases_rise, releases_valid, releases_kept, releases_held, releases_told, release_next}
use Rattle.desk_state.proofs.Deciding.{decision_fits}
use Rattle.desk_state.proofs.AlertHistoryLaws.{asked_stays, none_open, still_open, ticked_stays}
use Rattle.desk_state.proofs.PlanHistoryLaws.{ask_plan, none_replaced, still_in_turn}
use Rattle.desk_state.proofs.OnceLaws.{accepted_once, none_once, ticked_once}
use Rattle.desk_state.proofs.FormLaws.{start_formed, tick_formed, command_formed}
use Rattle.desk_state.proofs.NameForms.{person_formed}
use Rattle.desk_state.proofs.SignatureLaws.{all_known, asked_signed}
use Rattle.desk_io.proofs.Each.{each_weaker, each_push}

-- an entry more keeps a history legal
legal_more : (s : State) (es : List Entry) (t : State) (e : Entry) → Legal s es t → MayCome t e.lane e.what → Legal s (es ++ e ∷ []) (next t e.lane e.what)
legal_more s [] t e legal may = subst (λ (u : State). MayCome u e.lane e.what × (next u e.lane e.what ≡ next t e.lane e.what)) (sym legal) (may, refl)
legal_more s (x ∷ es) t e legal may = (legal.0, legal_more (next s x.lane x.what) es t e legal.1 may)

history_more : (opening s t : State) (lane : ℕ) (what : What) → IsHistory opening s → MayCome s lane what → next s lane what ≡ t → t.entries ≡ s.entries ++ entry lane what ∷ []
    → IsHistory opening t
history_more opening s t lane what history may is entered = record {
  empty = history.empty;
  legal = subst (λ (es : List Entry). Legal opening es t) (sym entered)
      (subst (λ (u : State). Legal opening (s.entries ++ entry lane what ∷ []) u) is (legal_more opening s.entries s (entry lane what) history.legal may));
}

-- The effect.

-- ids that come next, where an event is under way
record AreNext (c : Counters) : Type 0 where
  pub events : c.events < 999_999_999_999_000
  pub report : c.next_report ≤ c.events + 2
  pub deferral : c.next_deferral ≤ c.events + 2
  pub release : c.next_release ≤ c.events + 2
  pub accepted : c.next_kept ≤ c.events + 1

-- what an effect leaves to the judgement
record IsEffected (t : State) : Type 0 where
  pub ids : Rise 0 t.releases t.counters.next_release
  pub unlike : AreUnlike t.reports
  pub valid : AllByRecursion (MayStand (t.counters.events + 1)) t.releases
  pub told : AreTold t.alerts t.releases
  pub alerts : AllByRecursion (IsAlert t.counters.events) t.alerts
  pub moment : IsMoment t.moment
  pub counters : AreNext t.counters
  pub reports : AllByRecursion (IsNumbered t.counters.next_report) t.reports
  pub admitted : AllPairs (λ a b. a.id < b.id) t.reports
  pub few : length t.reports ≤ 200_000
  pub deferrals : AreOpen t.counters.next_deferral t.deferrals
  pub kept : AllByRecursion ReleaseInBounds t.releases
  pub held : length t.releases ≤ 20_000
  pub single : AreSingle t.kept
  pub replies : AllByRecursion (IsReplied t.counters.next_kept) t.kept
  pub rising : AllPairs (λ a b. a.id < b.id) t.kept
  pub many : length t.kept ≤ 800_000 + length t.entries
  pub entries : length t.entries < 400_000
  pub forms : AllByRecursion (λ e. IsEntered e.what) t.entries

pub few_entries : (s : State) → is_full s ≡ false → length s.entries < 400_000
few_entries s room = leb-false 400_000 (length s.entries) (or_parts (nat_le 400_000 (length s.entries)) (nat_le 999_999_999_999_000 s.counters.events) room).0

pub few_events : (s : State) → is_full s ≡ false → s.counters.events < 999_999_999_999_000
few_events s room = leb-false 999_999_999_999_000 s.counters.events (or_parts (nat_le 400_000 (length s.entries)) (nat_le 999_999_999_999_000 s.counters.events) room).1

-- where a command may come, an event may
room_for : (s : State) (a : Ask) → is_full_for s a ≡ false → is_full s ≡ false
room_for s a room = (or_parts (is_full s) (nat_le 400_000 (length s.kept) && not (is_sweep a)) room).0

all_told : (g : Grounds) (alerts : List Alert) (rs : List Release) → AllByRecursion (IsAlerted g alerts) rs → AreTold alerts rs
all_told g alerts rs all = each_weaker (IsAlerted g alerts) (λ r. IsToldTo r.holder (alert_at r.id alerts)) (λ r is. is.1) rs all

acknowledged_alert : (most : ℕ) (a : Alert) → IsAlert most a → IsAlert most (record a { acknowledged = true })
acknowledged_alert most a is = record { moment = is.moment; first = is.first; version = is.version; failing = is.failing; ever = is.ever; among = is.among }

-- what holds of the desk before an effect, part by part, holds once it is there
effect_is : (s : State) (e : Effect) → EffectFits s e → Sound s → InBounds s → is_full s ≡ false → IsEffected (effected e s)
effect_is s e fits sound kept room = record {
  ids = releases_rise s e.on_releases fits.releases sound.ids;
  unlike = swept_unlike e.sweep (reports_after e.report s.reports) (reports_unlike s e.report fits.report sound.unlike);
  valid = releases_valid s e.on_releases fits.releases sound.valid;
  told = told_kept e.on_alerts s.alerts (releases_after e.on_releases s.releases)
      (releases_told s e.on_releases fits.releases (judgeable s sound) (all_told (grounds_of s) s.alerts s.releases sound.alerted));
  alerts = alerts_have (IsAlert s.counters.events) (acknowledged_alert s.counters.events) e.on_alerts s.alerts sound.alerts;
  moment = moment_shown e.moment s.moment fits.moment kept.moment;
  counters = record {
    events = few_events s room;
    report = report_next s e.report fits.report kept.counters.report;
    deferral = deferral_next s e.on_deferrals fits.deferrals kept.counters.deferral;
    release = release_next s e.on_releases fits.releases kept.counters.release;
    accepted = kept.counters.accepted;
  };
  reports = swept_each (IsNumbered (effected e s).counters.next_report) e.sweep (reports_after e.report s.reports) (reports_numbered s e.report fits.report kept.reports);
  admitted = swept_rise e.sweep (reports_after e.report s.reports) (reports_rise s e.report fits.report kept.reports kept.admitted);
  few = let fewer = swept_fewer e.sweep (reports_after e.report s.reports) in let few = reports_few s e.report fits.report kept.few in omega (arith, fewer, few);
  deferrals = deferrals_open s e.on_deferrals fits.deferrals kept.deferrals;
  kept = releases_kept s e.on_releases fits.releases kept.releases;
  held = releases_held s e.on_releases fits.releases kept.held;
  single = kept_single e.sweep s.kept sound.single;
  replies = kept_each (IsReplied s.counters.next_kept) e.sweep s.kept kept.replies;
  rising = kept_rise e.sweep s.kept kept.accepted;
  many = let fewer = kept_fewer e.sweep s.kept in let many = kept.many in omega (arith, fewer, many);
  entries = few_entries s room;
  forms = kept.forms;
}

-- The judgement.

-- nothing is kept of the request that is entered
abbrev IsUnkept : List KeptReply → What → Type 0
IsUnkept kept (what.Tick to) = Unit {0}
IsUnkept kept (what.Asked call reply) = kept_at call.actor call.number kept ≡ None

single_more : (ks : List KeptReply) (k : KeptReply) → kept_at k.actor k.number ks ≡ None → AreSingle ks → AreSingle (ks ++ k ∷ [])
single_more ks k none single =
    all_pairs_push (λ a b. is_request b.actor b.number a ≡ false) ks k single
    (All-from_recursion (λ a. is_request k.actor k.number a ≡ false) ks (none_found (is_request k.actor k.number) ks none))

single_with : (t : State) (w : What) → IsUnkept t.kept w → AreSingle t.kept → AreSingle (t.kept ++ option_to_list (kept_of t w))
single_with t (what.Tick to) unkept single = rw (append-nil t.kept) single
single_with t (what.Asked call (Done made)) unkept single = single_more t.kept (kept_reply t call made) unkept single
single_with t (what.Asked call (Seen text)) unkept single = rw (append-nil t.kept) single
single_with t (what.Asked call (Refused refusal)) unkept single = rw (append-nil t.kept) single

replies_later : (n m : ℕ) (ks : List KeptReply) → n ≤ m → AllByRecursion (IsReplied n) ks → AllByRecursion (IsReplied m) ks
replies_later n m ks within all = each_weaker (IsReplied n) (IsReplied m) (λ k is. (let below = is.0 in omega (arith, below, within), is.1)) ks all

replies_with : (t : State) (w : What) → IsMoment t.moment → AllByRecursion (IsReplied t.counters.next_kept) t.kept
    → AllByRecursion (IsReplied (next_kept w t.counters.next_kept)) (t.kept ++ option_to_list (kept_of t w))
replies_with t (what.Tick to) shown all = rw (append-nil t.kept) all
replies_with t (what.Asked call (Done made)) shown all =
    each_push (IsReplied (t.counters.next_kept + 1)) t.kept (kept_reply t call made) (replies_later t.counters.next_kept (t.counters.next_kept + 1) t.kept (omega arith) all) (omega arith, shown)
replies_with t (what.Asked call (Seen text)) shown all = rw (append-nil t.kept) (replies_later t.counters.next_kept (t.counters.next_kept + 1) t.kept (omega arith) all)
replies_with t (what.Asked call (Refused refusal)) shown all = rw (append-nil t.kept) (replies_later t.counters.next_kept (t.counters.next_kept + 1) t.kept (omega arith) all)

rising_more : (t : State) (k : KeptReply) → k.id ≡ t.counters.next_kept → AllByRecursion (IsReplied t.counters.next_kept) t.kept → AllPairs (λ a b. a.id < b.id) t.kept
    → AllPairs (λ a b. a.id < b.id) (t.kept ++ k ∷ [])
rising_more t k is all rising =
    all_pairs_push (λ a b. a.id < b.id) t.kept k rising
    (All-from_recursion (λ a. a.id < k.id) t.kept (each_weaker (IsReplied t.counters.next_kept) (λ a. a.id < k.id) (λ a has. let below = has.0 in omega (arith, is, below)) t.kept all))

rising_with : (t : State) (w : What) → AllByRecursion (IsReplied t.counters.next_kept) t.kept → AllPairs (λ a b. a.id < b.id) t.kept
    → AllPairs (λ a b. a.id < b.id) (t.kept ++ option_to_list (kept_of t w))
rising_with t (what.Tick to) all rising = rw (append-nil t.kept) rising
rising_with t (what.Asked call (Done made)) all rising = rising_more t (kept_reply t call made) refl all rising
rising_with t (what.Asked call (Seen text)) all rising = rw (append-nil t.kept) rising
rising_with t (what.Asked call (Refused refusal)) all rising = rw (append-nil t.kept) rising

option_short : {A : Type 0} (o : Option A) → length (option_to_list o) ≤ 1
option_short None = omega arith
option_short (Some x) = omega arith

event_sound : (t : State) (e : Entry) → IsEffected t → IsUnkept t.kept e.what → Sound (entered e t)
event_sound t e is unkept = record {
  alerted = are_alerted t 0 t.counters.next_release is.ids is.told;
  own = all_own t 0 t.counters.next_release is.ids;
  alerts = are_alerts t t.counters.events t.releases is.moment is.deferrals.rising is.alerts;
  valid = is.valid;
  unlike = is.unlike;
  single = single_with t e.what unkept is.single;
  ids = is.ids;
}

one_more : (es : List Entry) (e : Entry) → length (es ++ e ∷ []) ≡ length es + 1
one_more es e = length-append es (e ∷ [])

next_more : (w : What) (n most : ℕ) → n ≤ most → next_kept w n ≤ most + 1
next_more (what.Tick to) n most within = omega (arith, within)
next_more (what.Asked call reply) n most within = omega (arith, within)

event_kept : (t : State) (e : Entry) → IsEffected t → IsEntered e.what → InBounds (entered e t)
event_kept t e is form = record {
  moment = is.moment;
  counters = record {
    events = let n = is.counters.events in omega (arith, n);
    report = let n = is.counters.report in omega (arith, n);
    deferral = let n = is.counters.deferral in omega (arith, n);
    release = let n = is.counters.release in omega (arith, n);
    accepted = next_more e.what t.counters.next_kept (t.counters.events + 1) is.counters.accepted;
  };
  reports = is.reports;
  admitted = is.admitted;
  few = is.few;
  deferrals = is.deferrals;
  releases = is.kept;
  held = is.held;
  replies = replies_with t e.what is.moment is.replies;
  accepted = rising_with t e.what is.replies is.rising;
  many = let long = length-append t.kept (option_to_list (kept_of t e.what)) in let short = option_short (kept_of t e.what) in let more = one_more t.entries e in let many = is.many in
      omega (arith, long, short, more, many);
  entries = let more = one_more t.entries e in let few = is.entries in omega (arith, more, few);
  forms = each_push (λ x. IsEntered x.what) t.entries e is.forms form;
}

-- Ticks.

tick_by : (full : Bool) (opening s : State) (lane to : ℕ) → is_full s ≡ full → IsBoard opening s → s.moment < to → to ≤ 68_374_079
    → IsBoard opening (tick_unless full s lane to).state
unfolding tick_to
tick_by true opening s lane to full board later within = board
tick_by false opening s lane to full board later within =
    let moment : IsMoment to = (let low = board.kept.moment.0 in omega arith, within) in
    let effect = effect_is s (tick to) (tick_fits s to (moment, omega (arith, later))) board.sound board.kept full in
    let is : (tick_to s lane to).state ≡ (ticked s lane to).state = rw full refl in
    let kept = event_kept (effected (tick to) s) (entry lane (what.Tick to)) effect moment in
    let history : IsHistory opening (ticked s lane to).state = history_more opening s (ticked s lane to).state lane (what.Tick to) board.history (later, full) is refl in
    record {
      tables = board.tables;
      history = history;
      once = ticked_once opening s lane to board.formed.rising board.sound.single board.once;
      lasting = still_open opening s (ticked s lane to).state (entry lane (what.Tick to)) board.history history refl
          (ticked_stays s to (what.Tick to) board.sound (tick_fits s to (moment, omega (arith, later)))) board.lasting;
      plans = still_in_turn opening s (ticked s lane to).state (entry lane (what.Tick to)) board.history history refl (λ id. inl refl) board.plans;
      sound = event_sound (effected (tick to) s) (entry lane (what.Tick to)) effect tt;
      kept = kept;
      formed = tick_formed s lane to kept board.formed;
      texts = board.texts;
      signed = board.signed;
    }

-- a tick keeps what holds of a board
pub tick_board : (opening s : State) (lane to : ℕ) → IsBoard opening s → s.moment < to → to ≤ 68_374_079 → IsBoard opening (tick_to s lane to).state
unfolding tick_to
tick_board opening s lane to board later within = tick_by (is_full s) opening s lane to refl board later within

-- Calls.

-- an accepted call stands in the history without its key, and means the same
finish_keyless : (s : State) (lane : ℕ) (call : Call) (made : DoneType) (effect : Effect) (decision : Result Decision Refusal) → decision ≡ Ok (Do made effect) → is_full_for s call.ask ≡ false
    → finish s lane (without_key call) decision ≡ accepted s lane call made effect
finish_keyless s lane call made effect decision is room = rw (is, room) refl

changes_accepted : (s : State) (a : Ask) (made : DoneType) (effect : Effect) (decision : Result Decision Refusal) → decision ≡ Ok (Do made effect) → is_full_for s a ≡ false
    → changes_by s a decision ≡ true
changes_accepted s a made effect decision is room = rw (is, room) refl

new_keyless : (o : Option KeptReply) (s : State) (call : Call) → decide_new o s (without_key call) ≡ decide_new o s call
new_keyless (Some k) s call = refl
new_keyless None s call = refl

numbered_keyless : (view : Bool) (s : State) (call : Call) → decide_numbered view s (without_key call) ≡ decide_numbered view s call
numbered_keyless true s call = refl
numbered_keyless false s call = new_keyless (kept_at call.actor call.number s.kept) s call

-- what a call comes to doesn't hang on its key
decided_keyless : (s : State) (call : Call) → decide s (without_key call) ≡ decide s call
unfolding decide
decided_keyless s call = ap (λ (rest : Result Decision Refusal). unless (not_his_role (actor_of s.tables call.actor) call.ask) rest) (numbered_keyless (is_view call.ask) s call)

accepted_history : (opening s : State) (lane : ℕ) (call : Call) (made : DoneType) (effect : Effect) → decide s call ≡ Ok (Do made effect) → is_full_for s call.ask ≡ false
    → IsHistory opening s → IsHistory opening (accepted s lane call made effect).state
unfolding do_call changes
accepted_history opening s lane call made effect is room history =
    let keyless : decide s (without_key call) ≡ Ok (Do made effect) = decided_keyless s call ∙ is in
    let same : do_call s lane (without_key call) ≡ accepted s lane call made effect = finish_keyless s lane call made effect (decide s (without_key call)) keyless room in
    history_more opening s (accepted s lane call made effect).state lane (what.Asked (without_key call) (Done made)) history
    (ap (λ p. p.reply) same, changes_accepted s call.ask made effect (decide s (without_key call)) keyless room) (ap (λ p. p.state) same) refl

enter_board : (full : Bool) (opening s : State) (lane : ℕ) (call : Call) (made : DoneType) (effect : Effect) → is_full_for s call.ask ≡ full → decide s call ≡ Ok (Do made effect)
    → EffectFits s effect → is_person call.actor ≡ true → CallHasForms call → IsBoard opening s → IsBoard opening (enter full s lane call made effect).state
enter_board true opening s lane call made effect full is fits person has board = board
enter_board false opening s lane call made effect full is fits person has board =
    let event = effect_is s effect fits board.sound board.kept (room_for s call.ask full) in
    let decided : DecisionOf s call (Ok (Do made effect)) = subst (DecisionOf s call) is (decision_is s call board.sound) in
    let entered_as : Entry = entry lane (what.Asked (without_key call) (Done made)) in
    let kept = event_kept (effected effect s) entered_as event (call_from_forms call.ask has.ask, tt) in
    let history : IsHistory opening (accepted s lane call made effect).state = accepted_history opening s lane call made effect is full board.history in
    let formed = command_formed s lane call made effect decided (record { formed = board.formed; sound = board.sound; bounds = board.kept }) person has kept in
    record {
      tables = board.tables;
      history = history;
      once = accepted_once opening s lane call made effect board.formed.rising board.sound.single decided.0 decided.1 board.once;
      lasting = still_open opening s (accepted s lane call made effect).state entered_as board.history history refl (λ id. asked_stays s call.actor id board.sound fits decided.1) board.lasting;
      plans = still_in_turn opening s (accepted s lane call made effect).state entered_as board.history history refl (λ id. ask_plan s call.actor id board.sound.ids decided.1) board.plans;
      sound = event_sound (effected effect s) entered_as event (still_unused call.actor call.number effect.sweep s.kept decided.0.none);
      kept = kept;
      formed = formed;
      texts = all_known (accepted s lane call made effect).state.releases formed.releases;
      signed = asked_signed opening s call.actor decided.1 board.signed;
    }

finish_board : (opening s : State) (lane : ℕ) (call : Call) (decision : Result Decision Refusal) → decide s call ≡ decision → DecisionFits s decision → is_person call.actor ≡ true → CallHasForms call
    → IsBoard opening s → IsBoard opening (finish s lane call decision).state
finish_board opening s lane call (Err refusal) is fits person has board = board
finish_board opening s lane call (Ok (Show reply)) is fits person has board = board
finish_board opening s lane call (Ok (Do made effect)) is fits person has board = enter_board (is_full_for s call.ask) opening s lane call made effect refl is fits person has board

do_board : (opening s : State) (lane : ℕ) (call : Call) (o : Option Refusal) → mistaken (actor_of s.tables call.actor) call.key ≡ o → IsBoard opening s → CallHasForms call
    → IsBoard opening (do_unless o s lane call).state
unfolding do_call
do_board opening s lane call None known board has =
    finish_board opening s lane call (decide s call) refl (decision_fits s call board.sound board.kept has) (person_formed s.tables call.actor call.key board.formed.names known) has board
do_board opening s lane call (Some refusal) known board has = board

answer_board : (opening s : State) (lane : ℕ) (call : Call) → IsBoard opening s → CallHasForms call → IsBoard opening (answer_call s lane call).state
unfolding answer_call
answer_board opening s lane call board has = do_board opening s lane call (mistaken (actor_of s.tables call.actor) call.key) refl board has

-- nothing is held at the beginning
pub start_board : (tables : TableRows) → AreNamed tables → IsBoard (start tables) (start tables)
start_board tables names = record {
  tables = refl;
  history = record { empty = refl; legal = refl };
  once = none_once (start tables) refl;
  lasting = none_open (start tables) [] refl;
  plans = none_replaced (start tables) [] refl;
  sound = record { alerted = tt; own = refl; alerts = tt; valid = tt; unlike = λ i j d before within. absurd (omega (arith, before, within)); single = λ i j d before within. absurd (omega (arith, before, within)); ids = omega arith };
  kept = record {
    moment = (omega arith, omega arith);
    counters = record { events = omega arith; report = omega arith; deferral = omega arith; release = omega arith; accepted = omega arith };
    reports = tt;
    admitted = λ i j d before within. absurd (omega (arith, before, within));
    few = omega arith;
    forms = tt;
    deferrals = record { each = tt; rising = λ i j d before within. absurd (omega (arith, before, within)); few = omega arith };
    releases = tt;
    held = omega arith;
    replies = tt;
    accepted = λ i j d before within. absurd (omega (arith, before, within));
    many = omega arith;
    entries = omega arith;
  };
  formed = start_formed tables names;
  texts = tt;
  signed = tt;
}

-- the same, of a state that a step leads to
pub call_keeps : (opening s t : State) (lane : ℕ) (call : Call) → IsBoard opening s → CallHasForms call → t ≡ (answer_call s lane call).state → IsBoard opening t
call_keeps opening s t lane call board is leads = subst (λ (u : State). IsBoard opening u) (sym leads) (answer_board opening s lane call board is)

pub tick_keeps : (opening s t : State) (lane to : ℕ) → IsBoard opening s → s.moment < to → to ≤ 68_374_079 → t ≡ (tick_to s lane to).state → IsBoard opening t
tick_keeps opening s t lane to board later within leads = subst (λ (u : State). IsBoard opening u) (sym leads) (tick_board opening s lane to board later within)

-- Replies.

enter_shown : (full : Bool) (s : State) (lane : ℕ) (call : Call) (made : DoneType) (effect : Effect) → IfSome (enter full s lane call made effect).reply ReplyHasMoment
enter_shown true s lane call made effect = tt
enter_shown false s lane call made effect = tt

finish_shown : (s : State) (lane : ℕ) (call : Call) (decision : Result Decision Refusal) → DecisionFits s decision → IfSome (finish s lane call decision).reply ReplyHasMoment
finish_shown s lane call (Err refusal) fits = fits
finish_shown s lane call (Ok (Show reply)) fits = fits
finish_shown s lane call (Ok (Do made effect)) fits = enter_shown (is_full_for s call.ask) s lane call made effect

call_shown : (s : State) (lane : ℕ) (call : Call) → Sound s → InBounds s → CallHasForms call → IfSome (do_call s lane call).reply ReplyHasMoment
unfolding do_call
call_shown s lane call sound kept is = finish_shown s lane call (decide s call) (decision_fits s call sound kept is)

mistaken_shown : (o : Option Actor) (key : List ℕ) → IfSome (mistaken o key) RefusalHasMoment
mistaken_shown None key = tt
mistaken_shown (Some person) key = if_shown (not (bytes_eq person.key key))
  where
    if_shown : (b : Bool) → IfSome (refused_if b WrongKey) RefusalHasMoment
    if_shown true = tt
    if_shown false = tt

do_shown : (s : State) (lane : ℕ) (call : Call) (o : Option Refusal) → IfSome o RefusalHasMoment → Sound s → InBounds s → CallHasForms call → IfSome (do_unless o s lane call).reply ReplyHasMoment
do_shown s lane call None has sound kept is = call_shown s lane call sound kept is
do_shown s lane call (Some refusal) has sound kept is = has

answer_shown : (s : State) (lane : ℕ) (call : Call) → Sound s → InBounds s → CallHasForms call → IfSome (answer_call s lane call).reply ReplyHasMoment
unfolding answer_call
answer_shown s lane call sound kept is =
    do_shown s lane call (mistaken (actor_of s.tables call.actor) call.key) (mistaken_shown (actor_of s.tables call.actor) call.key) sound kept is

-- the reply to a call can be written
pub reply_shown : (s : State) (lane : ℕ) (call : Call) (o : Option Reply) → o ≡ (answer_call s lane call).reply → Sound s → InBounds s → CallHasForms call → IfSome o ReplyHasMoment
reply_shown s lane call o is sound kept form = subst (λ (p : Option Reply). IfSome p ReplyHasMoment) (sym is) (answer_shown s lane call sound kept form)

enter_replies : (full : Bool) (s : State) (lane : ℕ) (call : Call) (made : DoneType) (effect : Effect) → is_some (enter full s lane call made effect).reply ≡ true
enter_replies true s lane call made effect = refl
enter_replies false s lane call made effect = refl

finish_replies : (s : State) (lane : ℕ) (call : Call) (decision : Result Decision Refusal) → is_some (finish s lane call decision).reply ≡ true
finish_replies s lane call (Err refusal) = refl
finish_replies s lane call (Ok (Show reply)) = refl
finish_replies s lane call (Ok (Do made effect)) = enter_replies (is_full_for s call.ask) s lane call made effect

do_replies : (s : State) (lane : ℕ) (call : Call) (o : Option Refusal) → is_some (do_unless o s lane call).reply ≡ true
unfolding do_call
do_replies s lane call None = finish_replies s lane call (decide s call)
do_replies s lane call (Some refusal) = refl

-- a call always has a reply
pub call_replies : (s : State) (lane : ℕ) (call : Call) → is_some (answer_call s lane call).reply ≡ true
unfolding answer_call
call_replies s lane call = do_replies s lane call (mistaken (actor_of s.tables call.actor) call.key)

tick_shown_by : (full : Bool) (s : State) (lane to : ℕ) → IfSome (tick_unless full s lane to).reply ReplyHasMoment
tick_shown_by true s lane to = tt
tick_shown_by false s lane to = tt

-- the reply to a tick that is refused can be written
pub tick_shown : (s : State) (lane to : ℕ) (o : Option Reply) → o ≡ (tick_to s lane to).reply → IfSome o ReplyHasMoment
unfolding tick_to
tick_shown s lane to o is = subst (λ (p : Option Reply). IfSome p ReplyHasMoment) (sym is) (tick_shown_by (is_full s) s lane to)
