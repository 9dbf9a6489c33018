-- A prepared step that is kept, or isn't.
use Rattle.std.proofs.Common.{◌≡◌, ℕ, Bool, true, false, List, [], ◌∷◌, ◌++◌, length, Option, None, Some, is_some, IfOk, Result, Ok, Err, refl, ap, sym, ◌∙◌, subst, arith, inl, inr}
use Rattle.std.specs.Prelude.{nat_lt}
use Rattle.std.proofs.lemmas.Bool.{lt-ltb, le-ltb}
use Rattle.std.proofs.lemmas.List.{length-append}
use Rattle.alerts.specs.declared.notices.Notice.{Notice}
use Rattle.asks.specs.declared.reply.Refusal.TheVariants.{Unkept}
use Rattle.asks.specs.declared.call.Call.{Call}
use Rattle.asks.specs.declared.reply.Reply.{Reply}
use Rattle.asks.specs.declared.reply.Reply.TheVariants.{Refused}
use Rattle.board.specs.Prepare.{installed, IsStepped, KeepsRows, Shown, shown}
use Rattle.desk_state.specs.Install.{with_events}
use Rattle.desk_state.specs.declared.event.Event.{Event}
use Rattle.board.specs.declared.prepared.Prepared.{Prepared}
use Rattle.desk_io.specs.Rows.{Rows, changed_by}
use Rattle.desk_io.specs.declared.rows.Change.{Change}
use Rattle.keeper.specs.Kept.{AreSame, Leads}
use Rattle.board.specs.Below.{AreKept}
use Rattle.desk_state.specs.Legal.{IsHistory}
use Rattle.desk_state.specs.State.{State}
use Rattle.desk_state.specs.Step.{Stepped, answer_call}
use Rattle.desk_state.proofs.Boards.{call_replies}
use Rattle.desk.specs.Keeping.{Asks, adds, asked_if, kept_or, unkept, unkept_if, KeepsState}
use Rattle.keeper.specs.Seen.{KeeperSeen}
use Rattle.desk.specs.Settled.{stepped_by, IsSettled}
use Rattle.desk.specs.declared.settling.Settled.{Settled}

still : (o : Option Event) (s : State) → is_some o ≡ false → with_events o s ≡ s
still None s none = refl
still (Some e) s none = absurd (cc)

-- a step without an event changes nothing
pub stays : (p : Prepared) (s : State) → is_some p.event ≡ false → installed p s ≡ s
unfolding installed
stays p s none = still p.event s none

more : (o : Option Event) (s : State) → is_some o ≡ true → nat_lt (length s.entries) (length (with_events o s).entries) ≡ true
more None s some = absurd (cc)
more (Some e) s some =
    let longer = length-append s.entries (e.entered ∷ []) in
    lt-ltb (length s.entries) (length (s.entries ++ e.entered ∷ [])) (omega (arith, longer))

-- a step with an event adds an entry
pub adds_one : (p : Prepared) (s : State) → is_some p.event ≡ true → adds s (stepped_by s p) ≡ true
unfolding installed
adds_one p s some = more p.event s some

-- a step that adds no entry has no event
pub no_event : (s : State) (p : Prepared) (t : Stepped) → IsStepped s p t → adds s t ≡ false → is_some p.event ≡ false
no_event s p t is none = by (is_some p.event) refl
  where
    by : (b : Bool) → is_some p.event ≡ b → is_some p.event ≡ false
    by false e = e
    by true e =
        let some : adds s t ≡ true = sym (ap (λ (u : State). nat_lt (length s.entries) (length u.entries)) is.state) ∙ adds_one p s e in
        absurd (cc)

-- a step adds an entry exactly where it has an event
pub adds_as : (s : State) (p : Prepared) (t : Stepped) → IsStepped s p t → adds s t ≡ is_some p.event
adds_as s p t is = by (is_some p.event) refl
  where
    by : (b : Bool) → is_some p.event ≡ b → adds s t ≡ is_some p.event
    by true e = ap (λ (u : State). nat_lt (length s.entries) (length u.entries)) (sym is.state) ∙ adds_one p s e ∙ sym e
    by false e = ap (λ (u : State). nat_lt (length s.entries) (length u.entries)) (sym is.state ∙ stays p s e) ∙ le-ltb (length s.entries) (length s.entries) (omega arith) ∙ sym e

-- what a step asks of a keeper
pub asks_as : {E : Type 0} (result : Result Settled E) (old new : KeeperSeen) (s : State) (p : Prepared) (t : Stepped) → IsStepped s p t → IfOk result (λ r. Asks old new (asked_if (is_some p.event) r.fault))
    → IfOk result (λ r. Asks old new (asked_if (adds s t) r.fault))
asks_as result old new s p t is asks = subst (λ (b : Bool). IfOk result (λ r. Asks old new (asked_if b r.fault))) (sym (adds_as s p t is)) asks

-- a step that changes something and isn't kept is refused
pub is_unkept : (r : Settled) (s : State) (p : Prepared) (faults : ℕ) → is_some p.event ≡ true → r.reply ≡ Some (Refused (Unkept faults)) → r.notices ≡ [] → r.fault ≡ Some faults
    → IsSettled r s (kept_or r.fault s (stepped_by s p))
is_unkept r s p faults some reply notices fault =
    let t : Stepped = stepped_by s p in
    let refused : IsSettled r s (unkept faults s) = record { reply = reply; state = refl; notices = notices } in
    subst (λ (o : Option ℕ). IsSettled r s (kept_or o s t)) (sym fault)
    (subst (λ (b : Bool). IsSettled r s (unkept_if b faults s t)) (sym (adds_one p s some)) refused)

-- ---- the reply

kept_if : (b : Bool) (faults : ℕ) (s : State) (t : Stepped) → is_some t.reply ≡ true → is_some (unkept_if b faults s t).reply ≡ true
kept_if true faults s t has = refl
kept_if false faults s t has = has

kept_replies : (o : Option ℕ) (s : State) (t : Stepped) → is_some t.reply ≡ true → is_some (kept_or o s t).reply ≡ true
kept_replies None s t has = has
kept_replies (Some faults) s t has = kept_if (adds s t) faults s t has

-- a call always has a reply, whether what it changes is kept or not
pub replies_to : {E : Type 0} (result : Result Settled E) (after s : State) (lane : ℕ) (call : Call) → IfOk result (λ r. IsSettled r after (kept_or r.fault s (answer_call s lane call)))
    → IfOk result (λ r. is_some r.reply ≡ true)
replies_to (Ok r) after s lane call settled = ap is_some settled.reply ∙ kept_replies r.fault s (answer_call s lane call) (call_replies s lane call)
replies_to (Err e) after s lane call settled = tt

-- ---- the rows

pub same_kept : (a b : Rows) (s : State) → AreSame a b → AreKept b s → AreKept a s
same_kept a b s same (inl is) = inl (λ kind key. same kind key ∙ is kind key)
same_kept a b s same (inr none) = inr ((λ kind key. same kind key ∙ none.0 kind key), none.1)

-- what is kept for a state, where the state is as before
pub still_keeps : (told : Option Rows) (s t : State) → t ≡ s → KeepsState told s → KeepsState told t
still_keeps told s t is keeps = subst (KeepsState told) (sym is) keeps

changes_keep : (before after : Option Rows) (s : State) (p : Prepared) → Leads before p.changes.items after → KeepsRows s p → KeepsState before s → KeepsState after (installed p s)
unfolding KeepsRows
changes_keep None None s p leads kept keeps = tt
changes_keep None (Some rows) s p leads kept keeps = absurd leads
changes_keep (Some rows) None s p leads kept keeps = absurd leads
changes_keep (Some before) (Some after) s p leads kept keeps = same_kept after (changed_by p.changes.items before) (installed p s) leads (kept before keeps)

-- once the changes of a step are made, they are kept for the state after it
pub now_keeps : (before after : Option Rows) (s t : State) (p : Prepared) (changes : List Change) → changes ≡ p.changes.items → Leads before changes after → KeepsRows s p → t ≡ installed p s
    → KeepsState before s → KeepsState after t
now_keeps before after s t p changes same leads kept is keeps =
    still_keeps after (installed p s) t is (changes_keep before after s p (subst (λ (cs : List Change). Leads before cs after) same leads) kept keeps)

-- a prepared step is the step
stepped_is : (s : State) (p : Prepared) (t : Stepped) → IsStepped s p t → stepped_by s p ≡ t
stepped_is s p t is =
    ap (λ (reply : Option Reply). record { reply = reply; state = installed p s; notices = p.notices }) is.reply
    ∙ ap (λ (after : State). record { reply = t.reply; state = after; notices = p.notices }) is.state
    ∙ ap (λ (notices : List Notice). record { reply = t.reply; state = t.state; notices = notices }) is.notices

pub settled_is : {E : Type 0} (result : Result Settled E) (after : State) (b : Shown) (opening s : State) (room : Option Prepared) (listed : Bool) (p : Prepared) (t : Stepped)
    → b ≡ shown opening s room listed → IsStepped s p t → IfOk result (λ r. IsSettled r after (kept_or r.fault b.state (stepped_by b.state p))) → IfOk result (λ r. IsSettled r after (kept_or r.fault s t))
settled_is result after b opening s room listed p t is stepped settled =
    subst (λ (x : Stepped). IfOk result (λ r. IsSettled r after (kept_or r.fault s x))) (stepped_is s p t stepped)
    (subst (λ (c : Shown). IfOk result (λ r. IsSettled r after (kept_or r.fault c.state (stepped_by c.state p)))) is settled)

-- the same rows, of the state that a board shows
pub keeps_as : (b : Shown) (opening s : State) (room : Option Prepared) (listed : Bool) (p : Prepared) → b ≡ shown opening s room listed → KeepsRows s p → KeepsRows b.state p
keeps_as b opening s room listed p is kept = subst (λ (c : Shown). KeepsRows c.state p) (sym is) kept

-- ---- the history

-- the history of the state that a board shows
pub history_as : (b : Shown) (opening s : State) (room : Option Prepared) (listed : Bool) → b ≡ shown opening s room listed → IsHistory opening s → IsHistory b.opening b.state
history_as b opening s room listed is history = subst (λ (c : Shown). IsHistory c.opening c.state) (sym is) history

-- and that of the state to which a prepared step leads
pub next_as : (b : Shown) (opening s : State) (room : Option Prepared) (listed : Bool) (p : Prepared) (t : Stepped) → b ≡ shown opening s room listed → IsStepped s p t → IsHistory opening t.state
    → IsHistory b.opening (installed p b.state)
next_as b opening s room listed p t is stepped history =
    subst (λ (c : Shown). IsHistory c.opening (installed p c.state)) (sym is) (subst (IsHistory opening) (sym stepped.state) history)
