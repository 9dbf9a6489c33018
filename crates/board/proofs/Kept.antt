-- What is prepared is the step, and a step keeps what holds of a board.
use Rattle.std.proofs.Common.{◌≡◌, ℕ, ap₂, length, ◌<◌, ◌≤◌, Bool, arith, List, [], ◌∷◌, ◌++◌, Option, None, Some, IfSome, Ok, refl, ap, sym, ◌∙◌, subst, inl}
use Rattle.alerts.specs.declared.alert.Alert.{Alert}
use Rattle.asks.specs.declared.call.Call.{Call}
use Rattle.asks.specs.declared.reply.Done.{Done}
use Rattle.asks.specs.declared.reply.Reply.{Reply}
use Rattle.asks.specs.Ranges.{ReplyHasMoment}
use Rattle.asks.specs.Forms.{CallHasForms}
use Rattle.asks.specs.declared.kept.KeptReply.{KeptReply}
use Rattle.std.specs.Prelude.{option_to_list}
use Rattle.desk_state.specs.declared.entry.Entry.{Entry}
use Rattle.desk_state.specs.declared.effect.Effect.{Effect}
use Rattle.desk_state.specs.declared.effect.Decision.{Decision}
use Rattle.desk_state.specs.declared.effect.Decision.TheVariants.{Do}
use Rattle.desk_state.specs.State.{State}
use Rattle.desk_state.specs.Events.{effected, alert_changes, notices_of, put_changes}
use Rattle.desk_state.specs.Decide.{decide}
use Rattle.desk_state.specs.Step.{Stepped, entered, kept_of, counted, after_event, answer_call, tick_to}
use Rattle.desk_state.specs.Sound.{Sound, InBounds, EffectFits, DecisionFits, IsEntered, IsBoard}
use Rattle.desk_state.proofs.Boards.{call_keeps, tick_keeps, reply_shown, tick_shown}
use Rattle.alerts.specs.declared.notices.Notice.{Notice}
use Rattle.std.specs.List.{AllByRecursion, slice_get}
use Rattle.std.proofs.lemmas.List.Elements.{All-from_recursion}
use Rattle.std.proofs.lemmas.Option.{get_or_from_slice_get, slice_get_within}
use Rattle.desk_state.specs.Allowed.{MayLeadTo, MayTickTo}
use Rattle.desk_state.specs.Causes.{RefusesFor}
use Rattle.desk_state.proofs.CauseLaws.{refused_for}
use Rattle.desk_state.specs.Told.{takes_alert, AreDifferences, takes_none}
use Rattle.desk_state.proofs.ToldLaws.{call_told, tick_told}
use Rattle.desk_state.specs.Once.{KeepsUsed}
use Rattle.desk_state.proofs.LeadingLaws.{call_leads, tick_leads}
use Rattle.desk_state.specs.Repeats.{AcceptedOnce}
use Rattle.desk_state.specs.Sweeps.{SweepsWell}
use Rattle.desk_state.proofs.OnceLaws.{call_uses, tick_uses}
use Rattle.desk_state.proofs.RepeatLaws.{accepted_again}
use Rattle.desk_state.proofs.SweepLaws.{sweeps_well}
use Rattle.desk_state.proofs.Changes.{changes_lead}
use Rattle.desk_state.proofs.Deciding.{decision_fits}
use Rattle.desk_state.specs.Contents.{Held}
use Rattle.desk_state.specs.Holds.{Holds}
use Rattle.desk_state.specs.Install.{IsNextReply, IsOwn, MayBeMade, room_of, with_events}
use Rattle.desk_state.specs.declared.entry.What.{What}
use Rattle.desk_state.specs.declared.entry.What.TheVariants as what
use Rattle.asks.specs.declared.reply.Reply.TheVariants as reply
use Rattle.desk_state.specs.Allowed.{DecisionOf}
use Rattle.desk_state.proofs.AllowedLaws.{decision_is}
use Rattle.desk_state.proofs.EffectForms.{floors_rise}
use Rattle.row_changes.proofs.AlertRows.{changes_own}
use Rattle.desk_state.specs.declared.event.Event.{Event}
use Rattle.board.specs.declared.prepared.Prepared.{Prepared}
use Rattle.board.specs.declared.steps.Judged.{Judged}
use Rattle.decisions.specs.Reads.{DecisionAdmitsRead}
use Rattle.board.proofs.Parts.{may_come}
use Rattle.std.specs.Global.{Vec}
use Rattle.desk_io.specs.Rows.{changed_by}
use Rattle.desk_io.specs.declared.rows.Change.{Change}
use Rattle.row_changes.specs.Changes.{event_changes}
use Rattle.row_changes.specs.Rows.{AreKept}
use Rattle.row_changes.proofs.Leading.{kept_lead}
use Rattle.board.specs.Prepare.{installed, IsStepped, KeepsRows, MayInstall, IsReady, Shown, shown}

-- the effect of a call fits
pub decided_fits : (s : State) (call : Call) (made : Done) (effect : Effect) → Ok (Do made effect) ≡ decide s call → Sound s → InBounds s → CallHasForms call → EffectFits s effect
decided_fits s call made effect is sound kept form = subst (DecisionFits s) (sym is) (decision_fits s call sound kept form)

-- the same, of the effect of a decision
pub effect_of : (s : State) (call : Call) (d : Decision) (made : Done) (effect : Effect) → d ≡ Do made effect → Ok d ≡ decide s call → Sound s → InBounds s → CallHasForms call
    → EffectFits s effect
effect_of s call d made effect is decided sound kept form = decided_fits s call made effect (sym (ap (λ (x : Decision). Ok x) is) ∙ decided) sound kept form

pub effect_may : (s : State) (call : Call) (d : Decision) (made : Done) (effect : Effect) → d ≡ Do made effect → Ok d ≡ decide s call → Sound s → Holds s → CallHasForms call
    → DecisionAdmitsRead d → MayBeMade s effect
effect_may s call d made effect is decided sound holds form has =
    let of : DecisionOf s call (Ok (Do made effect)) = subst (DecisionOf s call) (sym decided ∙ ap (λ (x : Decision). Ok x) is) (decision_is s call sound) in
    may_come s effect (effect_of s call d made effect is decided sound holds.bounds form) (subst DecisionAdmitsRead is has) (floors_rise s call.actor holds.formed of.1) holds

-- ---- what is planned may be put in place

kept_next : (t : State) (w : What) → IfSome (kept_of t w) (IsNextReply t)
kept_next t (what.Tick to) = tt
kept_next t (what.Asked call (reply.Done d)) = refl
kept_next t (what.Asked call (reply.Seen text)) = tt
kept_next t (what.Asked call (reply.Refused refusal)) = tt

pub planned_may : (s : State) (held : Held) (p : Prepared) (effect : Effect) (j : Judged) (made : Entry) (kept : Option KeptReply) → held.state ≡ s
    → p.event ≡ Some (record { effect = effect; changes = j.changes; entered = made; kept = kept }) → held.room ≡ Some (room_of effect (length j.changes.items))
    → kept ≡ kept_of (effected effect s) made.what → j.changes.items ≡ alert_changes effect s → MayInstall held p.event
planned_may s held p effect j made kept same event room keeps changes =
    subst (MayInstall held) (sym event) (record {
      room = room;
      own = subst (AllByRecursion IsOwn) (sym changes) (changes_own effect s);
      kept = subst (λ (o : Option KeptReply). IfSome o (IsNextReply held.state)) (sym keeps)
          (subst (λ (t : State). IfSome (kept_of (effected effect s) made.what) (IsNextReply t)) (sym same) (kept_next (effected effect s) made.what));
    })

abbrev with_alerts : State → Entry → Option KeptReply → List Alert → State
with_alerts t e kept alerts = record t { counters = counted e.what t.counters; alerts = alerts; kept = t.kept ++ option_to_list kept; entries = t.entries ++ e ∷ [] }

-- what is planned for an effect is the step
pub planned_is : (s : State) (p : Prepared) (reply : Option Reply) (effect : Effect) (j : Judged) (made e : Entry) (kept : Option KeptReply)
    → p.reply ≡ reply → p.notices ≡ j.notices → p.event ≡ Some (record { effect = effect; changes = j.changes; entered = made; kept = kept }) → made ≡ e → kept ≡ kept_of (effected effect s) e.what
    → j.changes.items ≡ alert_changes effect s → j.notices ≡ notices_of (alert_changes effect s) → EffectFits s effect → Sound s
    → IsStepped s p (after_event s reply effect e)
unfolding installed
planned_is s p reply effect j made e kept replied told event entered keeps changes notices fits sound = record {
  reply = replied;
  state = ap (λ o. with_events o s) event
      ∙ ap (λ (x : Entry). with_alerts (effected effect s) x kept (put_changes j.changes.items s.alerts)) entered
      ∙ ap (λ (o : Option KeptReply). with_alerts (effected effect s) e o (put_changes j.changes.items s.alerts)) keeps
      ∙ ap (λ (alerts : List Alert). with_alerts (effected effect s) e (kept_of (effected effect s) e.what) alerts) (ap (λ cs. put_changes cs s.alerts) changes ∙ changes_lead effect s fits sound);
  notices = told ∙ notices;
}

ready_by : (opening s u : State) (c : Held) (p q : Prepared) → q ≡ p → c.state ≡ s → IsBoard opening s → installed p s ≡ u → MayInstall c p.event → IsBoard opening u
    → IsBoard opening c.state × IsReady opening c q
ready_by opening s u c p q same is board leads may after = (
  subst (IsBoard opening) (sym is) board,
  subst (IsReady opening c) (sym same) (record { may = may; keeps = subst (IsBoard opening) (sym (ap (λ (t : State). installed p t) is ∙ leads)) after }),
)

-- a call that is prepared may be put in place
pub call_ready : (opening s : State) (c : Held) (p q : Prepared) (lane : ℕ) (call : Call) → q ≡ p → c.state ≡ s → IsBoard opening s → CallHasForms call
    → IsStepped s p (answer_call s lane call) → MayInstall c p.event → IsBoard opening c.state × IsReady opening c q
call_ready opening s c p q lane call same is board form stepped may =
    ready_by opening s (answer_call s lane call).state c p q same is board stepped.state may (call_keeps opening s (answer_call s lane call).state lane call board form refl)

pub tick_ready : (opening s : State) (c : Held) (p q : Prepared) (lane to : ℕ) → q ≡ p → c.state ≡ s → IsBoard opening s → s.moment < to → to ≤ 68_374_079
    → IsStepped s p (tick_to s lane to) → MayInstall c p.event → IsBoard opening c.state × IsReady opening c q
tick_ready opening s c p q lane to same is board later within stepped may =
    ready_by opening s (tick_to s lane to).state c p q same is board stepped.state may (tick_keeps opening s (tick_to s lane to).state lane to board later within refl)

pub call_reply : (opening s : State) (p : Prepared) (lane : ℕ) (call : Call) → IsBoard opening s → CallHasForms call → IsStepped s p (answer_call s lane call) → IfSome p.reply ReplyHasMoment
call_reply opening s p lane call board form stepped = reply_shown s lane call p.reply stepped.reply board.sound board.kept form

pub tick_reply : (s : State) (p : Prepared) (lane to : ℕ) → IsStepped s p (tick_to s lane to) → IfSome p.reply ReplyHasMoment
tick_reply s p lane to stepped = tick_shown s lane to p.reply stepped.reply

-- later than the moment that is shown
pub later_than : (before held : Shown) (to : ℕ) → held ≡ before → before.state.moment < to → held.state.moment < to
later_than before held to is later = subst (λ (b : Shown). b.state.moment < to) (sym is) later

-- what is prepared leads to no other state than the ask may
pub prepared_leads : (opening : State) (before held : Shown) (p : Prepared) (lane : ℕ) (call : Call) → held ≡ before → IsBoard opening held.state → CallHasForms call → IsStepped held.state p (answer_call held.state lane call)
    → MayLeadTo lane call before.state (installed p before.state) p.reply
prepared_leads opening before held p lane call is board form stepped =
    subst (λ (b : Shown). MayLeadTo lane call b.state (installed p b.state) p.reply) is (call_leads held.state (installed p held.state) lane call p.reply board.sound board.kept form stepped.state stepped.reply)

-- what is prepared refuses only for the cause of the refusal
pub prepared_cause : (opening : State) (before held : Shown) (p : Prepared) (lane : ℕ) (call : Call) → held ≡ before → IsBoard opening held.state → IsStepped held.state p (answer_call held.state lane call)
    → RefusesFor before.state call p.reply
prepared_cause opening before held p lane call is board stepped =
    subst (λ (b : Shown). RefusesFor b.state call p.reply) is (refused_for held.state lane call p.reply board.sound board.kept stepped.reply)

pub ticked_leads : (opening : State) (before held : Shown) (p : Prepared) (lane to : ℕ) → held ≡ before → IsBoard opening held.state → held.state.moment < to → to ≤ 68_374_079
    → IsStepped held.state p (tick_to held.state lane to) → MayTickTo lane to before.state (installed p before.state) p.reply
ticked_leads opening before held p lane to is board later within stepped =
    let low = board.kept.moment.0 in
    subst (λ (b : Shown). MayTickTo lane to b.state (installed p b.state) p.reply) is
    (tick_leads held.state (installed p held.state) lane to p.reply board.sound ((omega (arith, low, later), within), omega (arith, later)) stepped.state stepped.reply)

-- what is prepared keeps what is used of the numbers of persons
pub prepared_uses : (opening : State) (before held : Shown) (p : Prepared) (lane : ℕ) (call : Call) → held ≡ before → IsBoard opening held.state → CallHasForms call → IsStepped held.state p (answer_call held.state lane call)
    → KeepsUsed before.state (installed p before.state)
prepared_uses opening before held p lane call is board form stepped =
    subst (λ (b : Shown). KeepsUsed b.state (installed p b.state)) is
    (call_uses held.state (installed p held.state) lane call p.reply board.formed.rising board.sound.single
    (call_leads held.state (installed p held.state) lane call p.reply board.sound board.kept form stepped.state stepped.reply))

-- once what is prepared is put in place, the call may come again
pub prepared_again : (opening : State) (before held : Shown) (p : Prepared) (lane : ℕ) (call : Call) → held ≡ before → IsBoard opening held.state → CallHasForms call → IsStepped held.state p (answer_call held.state lane call)
    → AcceptedOnce before.state (installed p before.state) call
prepared_again opening before held p lane call is board form stepped =
    subst (λ (b : Shown). AcceptedOnce b.state (installed p b.state) call) is
    (accepted_again opening held.state (installed p held.state) lane call p.reply (call_keeps opening held.state (installed p held.state) lane call board form stepped.state)
    (call_leads held.state (installed p held.state) lane call p.reply board.sound board.kept form stepped.state stepped.reply))

pub prepared_sweeps : (opening : State) (before held : Shown) (p : Prepared) (lane : ℕ) (call : Call) → held ≡ before → IsBoard opening held.state → CallHasForms call → IsStepped held.state p (answer_call held.state lane call)
    → SweepsWell before.state (installed p before.state) call p.reply
prepared_sweeps opening before held p lane call is board form stepped =
    subst (λ (b : Shown). SweepsWell b.state (installed p b.state) call p.reply) is
    (sweeps_well held.state (installed p held.state) lane call p.reply stepped.state stepped.reply
    (call_leads held.state (installed p held.state) lane call p.reply board.sound board.kept form stepped.state stepped.reply))

pub ticked_uses : (opening : State) (before held : Shown) (p : Prepared) (lane to : ℕ) → held ≡ before → IsBoard opening held.state → held.state.moment < to → to ≤ 68_374_079
    → IsStepped held.state p (tick_to held.state lane to) → KeepsUsed before.state (installed p before.state)
ticked_uses opening before held p lane to is board later within stepped =
    let low = board.kept.moment.0 in
    subst (λ (b : Shown). KeepsUsed b.state (installed p b.state)) is
    (tick_uses held.state (installed p held.state) lane to p.reply board.formed.rising board.sound.single
    (tick_leads held.state (installed p held.state) lane to p.reply board.sound ((omega (arith, low, later), within), omega (arith, later)) stepped.state stepped.reply))

-- an entry of the history has its form
pub entry_form : (es held : List Entry) (i : ℕ) (e : Entry) → es ≡ held → AllByRecursion (λ x. IsEntered x.what) held → slice_get es i ≡ Some e → IsEntered e.what
entry_form es held i e is all at =
    let here : slice_get held i ≡ Some e = subst (λ (xs : List Entry). slice_get xs i ≡ Some e) is at in
    subst (λ (x : Entry). IsEntered x.what) (get_or_from_slice_get held i e e here)
    (All-from_recursion (λ x. IsEntered x.what) held all i e (slice_get_within held i e here))

-- what is told of what is prepared are the differences of the alerts
pub prepared_told : (opening : State) (before held : Shown) (p : Prepared) (lane : ℕ) (call : Call) → held ≡ before → IsBoard opening held.state → CallHasForms call
    → IsStepped held.state p (answer_call held.state lane call) → AreDifferences (takes_alert before.state call.ask) before.state (installed p before.state) p.notices
prepared_told opening before held p lane call is board form stepped =
    subst (λ (b : Shown). AreDifferences (takes_alert b.state call.ask) b.state (installed p b.state) p.notices) is
    (call_told held.state (installed p held.state) lane call p.notices board.sound board.kept form stepped.state stepped.notices)

pub ticked_told : (opening : State) (before held : Shown) (p : Prepared) (lane to : ℕ) → held ≡ before → IsBoard opening held.state → held.state.moment < to → to ≤ 68_374_079
    → IsStepped held.state p (tick_to held.state lane to) → AreDifferences takes_none before.state (installed p before.state) p.notices
ticked_told opening before held p lane to is board later within stepped =
    let low = board.kept.moment.0 in
    subst (λ (b : Shown). AreDifferences takes_none b.state (installed p b.state) p.notices) is
    (tick_told held.state (installed p held.state) lane to p.notices board.sound ((omega (arith, low, later), within), omega (arith, later)) stepped.state stepped.notices)

-- the same of what is installed
pub installed_told : (takes : ℕ → Bool) (s t u : State) (told notices : List Notice) → u ≡ t → notices ≡ told → AreDifferences takes s u told → AreDifferences takes s t notices
installed_told takes s t u told notices one two is =
    subst (λ (v : State). AreDifferences takes s v notices) one (subst (λ (ns : List Notice). AreDifferences takes s u ns) (sym two) is)

-- a step that has room is ready
pub ready_is : (opening : State) (c : Held) (p : Prepared) (room : Option Prepared) → room ≡ Some p → IfSome room (IsReady opening c) → IsReady opening c p
ready_is opening c p room has ready = subst (λ (o : Option Prepared). IfSome o (IsReady opening c)) has ready

pub ready_board : (opening : State) (c : Held) (p : Prepared) → IsReady opening c p → IsBoard opening (with_events p.event c.state)
unfolding installed
ready_board opening c p is = is.keeps

-- once it is put in place
pub install_keeps : (opening t : State) (c : Held) (p : Prepared) (room : Option Prepared) → room ≡ Some p → IfSome room (IsReady opening c) → t ≡ with_events p.event c.state
    → IsBoard opening t × Unit {0}
unfolding installed
install_keeps opening t c p room has ready leads =
    let is : IsReady opening c p = subst (λ (o : Option Prepared). IfSome o (IsReady opening c)) has ready in
    (subst (IsBoard opening) (sym leads) is.keeps, tt)

pub install_shows : (before : Shown) (opening s t : State) (room : Option Prepared) (p : Prepared) (was listed : Bool) → shown opening s room was ≡ before
    → t ≡ with_events p.event s → listed ≡ was → shown opening t None listed ≡ shown before.opening (installed p before.state) None before.listed
unfolding installed
install_shows before opening s t room p was listed is leads same =
    ap₂ (λ (u : State) (l : Bool). shown opening u None l) leads same ∙ ap (λ (b : Shown). shown b.opening (with_events p.event b.state) None b.listed) is

pub room_is : (before : Shown) (opening s : State) (room : Option Prepared) (p : Prepared) (listed : Bool) → shown opening s room listed ≡ before → before.room ≡ Some p
    → room ≡ Some p
room_is before opening s room p listed is has = ap (λ (b : Shown). b.room) is ∙ has

-- what is installed leads where what was prepared does
pub applied_leads : (lane : ℕ) (call : Call) (s u t : State) (told reply : Option Reply) → u ≡ t → reply ≡ told → MayLeadTo lane call s u told → MayLeadTo lane call s t reply
applied_leads lane call s u t told reply one two leads =
    subst (λ (v : State). MayLeadTo lane call s v reply) one (subst (λ (o : Option Reply). MayLeadTo lane call s u o) (sym two) leads)

pub applied_cause : (s : State) (call : Call) (told reply : Option Reply) → reply ≡ told → RefusesFor s call told → RefusesFor s call reply
applied_cause s call told reply same refuses = subst (RefusesFor s call) (sym same) refuses

pub applied_ticks : (lane to : ℕ) (s u t : State) (told reply : Option Reply) → u ≡ t → reply ≡ told → MayTickTo lane to s u told → MayTickTo lane to s t reply
applied_ticks lane to s u t told reply one two leads =
    subst (λ (v : State). MayTickTo lane to s v reply) one (subst (λ (o : Option Reply). MayTickTo lane to s u o) (sym two) leads)

pub applied_uses : (s u t : State) → u ≡ t → KeepsUsed s u → KeepsUsed s t
applied_uses s u t is uses = subst (KeepsUsed s) is uses

pub applied_again : (s u t : State) (call : Call) → u ≡ t → AcceptedOnce s u call → AcceptedOnce s t call
applied_again s u t call is again = subst (λ (v : State). AcceptedOnce s v call) is again

pub applied_sweeps : (s u t : State) (call : Call) (told reply : Option Reply) → u ≡ t → reply ≡ told → SweepsWell s u call told → SweepsWell s t call reply
applied_sweeps s u t call told reply one two well =
    subst (λ (v : State). SweepsWell s v call reply) one (subst (λ (o : Option Reply). SweepsWell s u call o) (sym two) well)

-- what is planned of an event leads from the rows of a state to those of the next
pub planned_keeps : (s t : State) (p : Prepared) (effect : Effect) (e made : Entry) (stepped : Stepped) (cs : Vec Change) → t ≡ s → p.changes ≡ cs → cs.items ≡ event_changes t effect made → made ≡ e
    → IsStepped s p stepped → stepped.state ≡ entered e (effected effect s) → EffectFits s effect → Sound s → InBounds s → KeepsRows s p
unfolding KeepsRows
planned_keeps s t p effect e made stepped cs as_before changes are same steps leads fits sound bounds rows kept =
    let listed : p.changes.items ≡ event_changes s effect e =
    ap (λ (v : Vec Change). v.items) changes ∙ are ∙ ap (λ (u : State). event_changes u effect made) as_before ∙ ap (λ (x : Entry). event_changes s effect x) same in
    subst (λ (u : State). AreKept (changed_by p.changes.items rows) u) (sym (steps.state ∙ leads))
    (subst (λ (list : List Change). AreKept (changed_by list rows) (entered e (effected effect s))) (sym listed) (inl (kept_lead rows s effect e fits sound bounds kept)))

-- nothing changes where no event is prepared
pub stay_keeps : (p : Prepared) (s : State) → p.event ≡ None → p.changes.items ≡ [] → KeepsRows s p
unfolding KeepsRows installed
stay_keeps p s none empty rows kept =
    subst (λ (u : State). AreKept (changed_by p.changes.items rows) u) (sym (ap (λ (o : Option Event). with_events o s) none))
    (subst (λ (list : List Change). AreKept (changed_by list rows) s) (sym empty) kept)
