-- What a step tells is what its entry tells in the history, and the bells that are rung for it have been rung for all.
use Rattle.std.specs.Prelude.{IfOk, OnErr}
use Rattle.std.proofs.Common.{◌≡◌, ℕ, Bool, true, false, List, [], ◌∷◌, ◌++◌, append-nil, Option, None, Some, Result, Ok, Err, refl, ap, sym, ◌∙◌, subst}
use Rattle.alerts.specs.declared.notices.Notice.{Notice}
use Rattle.asks.specs.declared.call.Call.{Call}
use Rattle.asks.specs.declared.kept.KeptReply.{KeptReply}
use Rattle.asks.specs.declared.reply.Done.{Done as DoneType}
use Rattle.asks.specs.declared.reply.Refusal.{Refusal}
use Rattle.asks.specs.declared.reply.Refusal.TheVariants.{Unkept}
use Rattle.asks.specs.declared.reply.Reply.{Reply}
use Rattle.asks.specs.declared.reply.Reply.TheVariants.{Done, Refused}
use Rattle.alerts.proofs.RungLaws.{are_rung_on, are_rung_none}
use Rattle.alerts.specs.Ringing.{Hung, AreRung}
use Rattle.desk_state.specs.Chain.{unless}
use Rattle.desk_state.specs.Decide.{decide, is_view, decide_new, decide_numbered}
use Rattle.desk_state.specs.Legal.{next, Legal, IsHistory}
use Rattle.desk_state.specs.People.{mistaken, not_his_role}
use Rattle.desk_state.specs.Requests.{kept_at}
use Rattle.desk_state.specs.State.{State, is_full, is_full_for}
use Rattle.desk_state.specs.Step.{Stepped, stay, full_reply, entry, accepted, enter, finish, do_call, do_unless, answer_call, ticked, tick_unless, tick_to, without_key}
use Rattle.desk_state.specs.declared.effect.Decision.{Decision}
use Rattle.desk_state.specs.declared.effect.Decision.TheVariants.{Show, Do}
use Rattle.desk_state.specs.declared.effect.Effect.{Effect}
use Rattle.desk_state.specs.declared.entry.Entry.{Entry}
use Rattle.desk_state.specs.declared.entry.What.TheVariants as what
use Rattle.ops_tables.specs.Tables.{actor_of}
use Rattle.board.specs.Prepare.{Shown, shown}
use Rattle.board.specs.declared.prepared.Prepared.{Prepared}
use Rattle.keeper.specs.Seen.{KeeperSeen}
use Rattle.desk.specs.Settled.{IsSettled}
use Rattle.desk.specs.declared.settling.Settled.{Settled}
use Rattle.desk.specs.Heard.{told_by, told_by_all, Tells}
use Rattle.desk.specs.Keeping.{adds, kept_or, unkept_if, made_with, ticked_with}
use Rattle.desk.specs.Seen.{DeskSeen, StepGoesOn, DeskGoesOn, AreRungSince}

append_assoc : {A : Type 0} (xs ys zs : List A) → (xs ++ ys) ++ zs ≡ xs ++ (ys ++ zs)
append_assoc [] ys zs = refl
append_assoc (x ∷ xs) ys zs = ap (λ more. x ∷ more) (append_assoc xs ys zs)

-- an entry more, after the state to which the entries lead
told_more : (s : State) (es : List Entry) (t : State) (e : Entry) → Legal s es t → told_by_all s (es ++ e ∷ []) ≡ told_by_all s es ++ told_by t e.lane e.what
told_more s [] t e legal = append-nil _ ∙ ap (λ (u : State). told_by u e.lane e.what) legal
told_more s (x ∷ es) t e legal =
    ap (λ more. told_by s x.lane x.what ++ more) (told_more (next s x.lane x.what) es t e legal.1)
    ∙ sym (append_assoc (told_by s x.lane x.what) (told_by_all (next s x.lane x.what) es) (told_by t e.lane e.what))

-- ---- what steps tell

stay_tells : (opening s : State) (reply : Reply) → Tells opening s (stay s reply)
stay_tells opening s reply = sym (append-nil _)

finish_keyless : (s : State) (lane : ℕ) (call : Call) (made : DoneType) (effect : Effect) (decision : Result Decision Refusal) → decision ≡ Ok (Do made effect) → is_full_for s call.ask ≡ false
    → finish s lane (without_key call) decision ≡ accepted s lane call made effect
finish_keyless s lane call made effect decision is room = rw (is, room) refl

new_keyless : (o : Option KeptReply) (s : State) (call : Call) → decide_new o s (without_key call) ≡ decide_new o s call
new_keyless (Some k) s call = refl
new_keyless None s call = refl

numbered_keyless : (view : Bool) (s : State) (call : Call) → decide_numbered view s (without_key call) ≡ decide_numbered view s call
numbered_keyless true s call = refl
numbered_keyless false s call = new_keyless (kept_at call.actor call.number s.kept) s call

decided_keyless : (s : State) (call : Call) → decide s (without_key call) ≡ decide s call
unfolding decide
decided_keyless s call = ap (λ (rest : Result Decision Refusal). unless (not_his_role (actor_of s.tables call.actor) call.ask) rest) (numbered_keyless (is_view call.ask) s call)

accepted_tells : (opening s : State) (lane : ℕ) (call : Call) (made : DoneType) (effect : Effect) → decide s call ≡ Ok (Do made effect) → is_full_for s call.ask ≡ false
    → Legal opening s.entries s → Tells opening s (accepted s lane call made effect)
unfolding do_call
accepted_tells opening s lane call made effect is room legal =
    let keyless : decide s (without_key call) ≡ Ok (Do made effect) = decided_keyless s call ∙ is in
    let same : do_call s lane (without_key call) ≡ accepted s lane call made effect = finish_keyless s lane call made effect (decide s (without_key call)) keyless room in
    told_more opening s.entries s (entry lane (what.Asked (without_key call) (Done made))) legal
    ∙ ap (λ ns. told_by_all opening s.entries ++ ns) (ap (λ (p : Stepped). p.notices) same)

enter_tells : (full : Bool) (opening s : State) (lane : ℕ) (call : Call) (made : DoneType) (effect : Effect) → is_full_for s call.ask ≡ full → decide s call ≡ Ok (Do made effect)
    → Legal opening s.entries s → Tells opening s (enter full s lane call made effect)
enter_tells true opening s lane call made effect full is legal = stay_tells opening s (full_reply s)
enter_tells false opening s lane call made effect full is legal = accepted_tells opening s lane call made effect is full legal

finish_tells : (opening s : State) (lane : ℕ) (call : Call) (decision : Result Decision Refusal) → decide s call ≡ decision → Legal opening s.entries s
    → Tells opening s (finish s lane call decision)
finish_tells opening s lane call (Err refusal) is legal = stay_tells opening s (Refused refusal)
finish_tells opening s lane call (Ok (Show reply)) is legal = stay_tells opening s reply
finish_tells opening s lane call (Ok (Do made effect)) is legal = enter_tells (is_full_for s call.ask) opening s lane call made effect refl is legal

do_tells : (opening s : State) (lane : ℕ) (call : Call) (o : Option Refusal) → Legal opening s.entries s → Tells opening s (do_unless o s lane call)
unfolding do_call
do_tells opening s lane call None legal = finish_tells opening s lane call (decide s call) refl legal
do_tells opening s lane call (Some refusal) legal = stay_tells opening s (Refused refusal)

answer_tells : (opening s : State) (lane : ℕ) (call : Call) → Legal opening s.entries s → Tells opening s (answer_call s lane call)
unfolding answer_call
answer_tells opening s lane call legal = do_tells opening s lane call (mistaken (actor_of s.tables call.actor) call.key) legal

tick_by : (full : Bool) (opening s : State) (lane to : ℕ) → is_full s ≡ full → Legal opening s.entries s → Tells opening s (tick_unless full s lane to)
unfolding tick_to
tick_by true opening s lane to is legal = stay_tells opening s (full_reply s)
tick_by false opening s lane to is legal =
    let same : tick_to s lane to ≡ ticked s lane to = rw is refl in
    told_more opening s.entries s (entry lane (what.Tick to)) legal
    ∙ ap (λ ns. told_by_all opening s.entries ++ ns) (ap (λ (p : Stepped). p.notices) same)

tick_tells : (opening s : State) (lane to : ℕ) → Legal opening s.entries s → Tells opening s (tick_to s lane to)
unfolding tick_to
tick_tells opening s lane to legal = tick_by (is_full s) opening s lane to refl legal

unkept_tells : (adding : Bool) (opening s : State) (faults : ℕ) (t : Stepped) → Tells opening s t → Tells opening s (unkept_if adding faults s t)
unkept_tells true opening s faults t tells = stay_tells opening s (Refused (Unkept faults))
unkept_tells false opening s faults t tells = tells

kept_tells : (fault : Option ℕ) (opening s : State) (t : Stepped) → Tells opening s t → Tells opening s (kept_or fault s t)
kept_tells None opening s t tells = tells
kept_tells (Some faults) opening s t tells = unkept_tells (adds s t) opening s faults t tells

pub made_tells : (fault : Option ℕ) (lane : ℕ) (opening s : State) (call : Call) → IsHistory opening s → Tells opening s (made_with fault lane s call)
made_tells fault lane opening s call history = kept_tells fault opening s (answer_call s lane call) (answer_tells opening s lane call history.legal)

pub ticked_tells : (fault : Option ℕ) (lane : ℕ) (opening s : State) (to : ℕ) → IsHistory opening s → Tells opening s (ticked_with fault lane s to)
ticked_tells fault lane opening s to history = kept_tells fault opening s (tick_to s lane to) (tick_tells opening s lane to history.legal)

-- ---- bells that are rung for a step

rung_by : (old new : DeskSeen) (t : Stepped) (ns : List Notice) → new.opening ≡ old.opening → Tells old.opening old.state t → new.state ≡ t.state → ns ≡ t.notices
    → AreRung ns old.bells new.bells → (bells : List Hung) → AreRungSince bells old → AreRungSince bells new
rung_by old new t ns opening tells state notices rung bells since =
    let all : told_by_all new.opening new.state.entries ≡ told_by_all old.opening old.state.entries ++ ns =
    ap (λ (o : State). told_by_all o new.state.entries) opening
    ∙ ap (λ (s : State). told_by_all old.opening s.entries) state
    ∙ tells
    ∙ ap (λ more. told_by_all old.opening old.state.entries ++ more) (sym notices) in
    subst (λ told. AreRung told bells new.bells) (sym all) (are_rung_on (told_by_all old.opening old.state.entries) ns bells old.bells new.bells since rung)

step_goes : (old new : DeskSeen) (t : Stepped) (ns : List Notice) → Tells old.opening old.state t → StepGoesOn old new → new.state ≡ t.state → ns ≡ t.notices
    → AreRung ns old.bells new.bells → DeskGoesOn old new
step_goes old new t ns tells on state notices rung = record {
  opening = on.opening;
  rows = on.rows;
  keeper = on.keeper;
  saves = on.saves;
  listed = on.listed;
  rung = rung_by old new t ns on.opening tells state notices rung;
}

-- a call was made, or wasn't kept
pub call_goes : (fault : Option ℕ) (lane : ℕ) (call : Call) (old new : DeskSeen) (ns : List Notice) → IsHistory old.opening old.state → StepGoesOn old new
    → new.state ≡ (made_with fault lane old.state call).state → ns ≡ (made_with fault lane old.state call).notices → AreRung ns old.bells new.bells → DeskGoesOn old new
call_goes fault lane call old new ns history on state notices rung =
    step_goes old new (made_with fault lane old.state call) ns (made_tells fault lane old.opening old.state call history) on state notices rung

-- a tick was
pub tick_goes : (fault : Option ℕ) (lane to : ℕ) (old new : DeskSeen) (ns : List Notice) → IsHistory old.opening old.state → StepGoesOn old new
    → new.state ≡ (ticked_with fault lane old.state to).state → ns ≡ (ticked_with fault lane old.state to).notices → AreRung ns old.bells new.bells → DeskGoesOn old new
tick_goes fault lane to old new ns history on state notices rung =
    step_goes old new (ticked_with fault lane old.state to) ns (ticked_tells fault lane old.opening old.state to history) on state notices rung

-- where memory ran out nothing is rung
pub none_goes : (old new : DeskSeen) → StepGoesOn old new → new.state ≡ old.state → new.bells ≡ old.bells → DeskGoesOn old new
none_goes old new on state bells = record {
  opening = on.opening;
  rows = on.rows;
  keeper = on.keeper;
  saves = on.saves;
  listed = on.listed;
  rung = λ hung since.
      subst (λ (o : State). AreRung (told_by_all o new.state.entries) hung new.bells) (sym on.opening)
      (subst (λ (s : State). AreRung (told_by_all old.opening s.entries) hung new.bells) (sym state)
      (subst (λ now. AreRung (told_by_all old.opening old.state.entries) hung now) (sym bells) since));
}

-- what a settled step leaves, where the board before it showed this state
module _ {E : Type 0} (result : Result Settled E) (b : Shown) (opening s : State) (room : Option Prepared) (listed : Bool) (keeper : KeeperSeen) (bells : List Hung) (new : DeskSeen)
    (is : b ≡ shown opening s room listed)
    (history : IsHistory opening s) (goes : StepGoesOn (record { opening = b.opening; state = b.state; keeper = keeper; bells = bells; listed = b.listed }) new)
    (rung : IfOk result (λ r. AreRung r.notices bells new.bells)) (same : OnErr result (new.state ≡ b.state)) (unrung : OnErr result (new.bells ≡ bells)) where
  begun : StepGoesOn (record { opening = opening; state = s; keeper = keeper; bells = bells; listed = listed }) new
  begun = subst (λ (c : Shown). StepGoesOn (record { opening = c.opening; state = c.state; keeper = keeper; bells = bells; listed = c.listed }) new) is goes

  pub call_settles : (lane : ℕ) (call : Call) → IfOk result (λ r. IsSettled r new.state (made_with r.fault lane s call))
      → DeskGoesOn (record { opening = opening; state = s; keeper = keeper; bells = bells; listed = listed }) new
  call_settles lane call settled = call_by result rung same unrung settled
    where
      call_by : (r : Result Settled E) → IfOk r (λ r. AreRung r.notices bells new.bells) → OnErr r (new.state ≡ b.state) → OnErr r (new.bells ≡ bells)
          → IfOk r (λ r. IsSettled r new.state (made_with r.fault lane s call)) → DeskGoesOn (record { opening = opening; state = s; keeper = keeper; bells = bells; listed = listed }) new
      call_by (Ok r) rung same unrung settled = call_goes r.fault lane call _ new r.notices history begun settled.state settled.notices rung
      call_by (Err e) rung same unrung settled = none_goes _ new begun (same ∙ ap (λ (c : Shown). c.state) is) unrung

  pub tick_settles : (lane to : ℕ) → IfOk result (λ r. IsSettled r new.state (ticked_with r.fault lane s to))
      → DeskGoesOn (record { opening = opening; state = s; keeper = keeper; bells = bells; listed = listed }) new
  tick_settles lane to settled = tick_by_end result rung same unrung settled
    where
      tick_by_end : (r : Result Settled E) → IfOk r (λ r. AreRung r.notices bells new.bells) → OnErr r (new.state ≡ b.state) → OnErr r (new.bells ≡ bells)
          → IfOk r (λ r. IsSettled r new.state (ticked_with r.fault lane s to)) → DeskGoesOn (record { opening = opening; state = s; keeper = keeper; bells = bells; listed = listed }) new
      tick_by_end (Ok r) rung same unrung settled = tick_goes r.fault lane to _ new r.notices history begun settled.state settled.notices rung
      tick_by_end (Err e) rung same unrung settled = none_goes _ new begun (same ∙ ap (λ (c : Shown). c.state) is) unrung

-- a step that tells nothing
pub nothing_rung : (ns : List Notice) (bells : List Hung) → ns ≡ [] → AreRung ns bells bells
nothing_rung ns bells none = subst (λ told. AreRung told bells bells) (sym none) (are_rung_none bells)
