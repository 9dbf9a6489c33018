-- The tick before a line, and the answer after it.
use Rattle.std.proofs.Common.{◌≡◌, ℕ, ◌<◌, Bool, true, false, Option, None, Some, IfSome, Ok, List, ◌⊎◌, inl, inr, refl, Err, append-nil, arith, ap, sym, subst}
use Rattle.std.specs.Prelude.{nat_lt}
use Rattle.asks.specs.declared.bad_call.BadCall.{BadCall}
use Rattle.asks.specs.declared.reply.Reply.{Reply}
use Rattle.desk.proofs.AskedLaws.{asks_on}
use Rattle.desk.proofs.Growing.{Stays, Ticks, is_later, tick_steps}
use Rattle.desk.specs.Keeping.{Asks, KeptAt, adds, kept_or, no_choice, ticked_with, unkept_if}
use Rattle.desk.specs.Settled.{MayHaveTicked}
use Rattle.desk_json.specs.declared.planned.PlannedLine.{PlannedLine}
use Rattle.desk_json.specs.declared.planned.PlannedLine.TheVariants.{Asked, File, Check, Turn}
use Rattle.desk_state.specs.State.{State}
use Rattle.desk_state.specs.Step.{Stepped, full_reply, tick_to}
use Rattle.keeper.specs.Seen.{KeeperSeen}
use Rattle.redispatch.specs.Filed.{final_plan}
use Rattle.redispatch.specs.declared.planned.Filed.{Filed}
use Rattle.scripts.specs.PlannedAnswers.{IsLineAnswered, IsLineGiven, IsNotDone, IsTicked}
use Rattle.scripts.specs.PlannedRuns.{PlannedItem, after_tick, asked_after, asked_before, asked_line, asked_once, bad_line, filed_by_line, filed_if, is_done_reply, line_at, line_with, once_ticked, ticked_before, ticked_if}
use Rattle.scripts.specs.PlannedTests.{comes_to, replies}
use Rattle.scripts.specs.declared.planned_said.LineOutcome.{LineOutcome}
use Rattle.scripts.specs.declared.planned_said.LineSaid.{LineSaid}

refused_full : (s : State) (o : Option Reply) → o ≡ Some (full_reply s) → IfSome o IsNotDone
refused_full s o is = subst (λ (p : Option Reply). IfSome p IsNotDone) (sym is) refl

refused_none : (o : Option Reply) → o ≡ None → IfSome o IsNotDone
refused_none o is = subst (λ (p : Option Reply). IfSome p IsNotDone) (sym is) tt

refused_step : (s : State) (lane at : ℕ) (t : Stepped) → Stays s t ⊎ Ticks s lane at t → IfSome t.reply IsNotDone
refused_step s lane at t (inl stays) = refused_full s t.reply stays.replies
refused_step s lane at t (inr ticks) = refused_none t.reply ticks.replies

refused_unless : (b : Bool) (n : ℕ) (s : State) (lane at : ℕ) (t : Stepped) → Stays s t ⊎ Ticks s lane at t → IfSome (unkept_if b n s t).reply IsNotDone
refused_unless true n s lane at t how = refl
refused_unless false n s lane at t how = refused_step s lane at t how

refused_or : (fault : Option ℕ) (s : State) (lane at : ℕ) (t : Stepped) → Stays s t ⊎ Ticks s lane at t → IfSome (kept_or fault s t).reply IsNotDone
refused_or None s lane at t how = refused_step s lane at t how
refused_or (Some n) s lane at t how = refused_unless (adds s t) n s lane at t how

refused_if : (later : Bool) (fault : Option ℕ) (s : State) (at : ℕ) → IfSome (ticked_if later fault s at).reply IsNotDone
refused_if false fault s at = tt
refused_if true fault s at = refused_or fault s 1 at (tick_to s 1 at) (tick_steps s 1 at)

-- a tick that is made, refused or not kept accepts no command
pub step_refuses : (reply : Option Reply) (fault : Option ℕ) (s : State) (at : ℕ) → reply ≡ (ticked_with fault 1 s at).reply → IfSome reply IsNotDone
step_refuses reply fault s at is = subst (λ (o : Option Reply). IfSome o IsNotDone) (sym is) (refused_or fault s 1 at (tick_to s 1 at) (tick_steps s 1 at))

-- a tick accepts no command
pub tick_refuses : (reply : Option Reply) (t s : State) (fault : Option ℕ) (at : ℕ) → IsTicked reply t (ticked_before fault s at) → IfSome reply IsNotDone
tick_refuses reply t s fault at is = subst (λ (o : Option Reply). IfSome o IsNotDone) (sym is.reply_is) (refused_if (nat_lt s.moment at) fault s at)

led_unless : (b : Bool) (n : ℕ) (s : State) (t : Stepped) → ((unkept_if b n s t).state ≡ s) ⊎ ((unkept_if b n s t).state ≡ t.state)
led_unless true n s t = inl refl
led_unless false n s t = inr refl

led_or : (fault : Option ℕ) (s : State) (t : Stepped) → ((kept_or fault s t).state ≡ s) ⊎ ((kept_or fault s t).state ≡ t.state)
led_or None s t = inr refl
led_or (Some n) s t = led_unless (adds s t) n s t

may_by : (s t : State) (at : ℕ) (u : Stepped) → s.moment < at → (t ≡ s) ⊎ (t ≡ (tick_to s 1 at).state) → MayHaveTicked 1 at s t
may_by s t at u later (inl is) = inl is
may_by s t at u later (inr is) = inr (later, is)

may_if : (later : Bool) (fault : Option ℕ) (s : State) (at : ℕ) → nat_lt s.moment at ≡ later → MayHaveTicked 1 at s (ticked_if later fault s at).state
may_if false fault s at test = inl refl
may_if true fault s at test = may_by s (ticked_with fault 1 s at).state at (tick_to s 1 at) (is_later s.moment at test) (led_or fault s (tick_to s 1 at))

-- the state after a tick
pub tick_leads : (reply : Option Reply) (t s : State) (fault : Option ℕ) (at : ℕ) → IsTicked reply t (ticked_before fault s at) → MayHaveTicked 1 at s t
tick_leads reply t s fault at is = subst (λ (u : State). MayHaveTicked 1 at s u) (sym is.state_is) (may_if (nat_lt s.moment at) fault s at refl)

-- the tick and then the line
pub line_given : (reply : Option Reply) (mid : State) (t : Stepped) (fault : Option ℕ) (planned : List Filed) (l : PlannedLine) (o : LineOutcome) (u : State) → IsTicked reply mid t
    → IsLineGiven o u (once_ticked fault reply mid (comes_to mid planned l)) → IsLineGiven o u (after_tick fault t planned l)
line_given reply mid t fault planned l o u is given =
    subst (λ (r : Option Reply). IsLineGiven o u (once_ticked fault r t.state (comes_to t.state planned l))) is.reply_is
    (subst (λ (s : State). IsLineGiven o u (once_ticked fault reply s (comes_to s planned l))) is.state_is given)

-- the tick before a line, whose moment code has read, and then the line
pub answered_given : (at : ℕ) (reply : Option Reply) (mid s : State) (tick fault : Option ℕ) (planned : List Filed) (l : PlannedLine) (o : LineOutcome) (u : State) → at ≡ line_at l
    → IsTicked reply mid (ticked_before tick s at) → IsLineGiven o u (once_ticked fault reply mid (comes_to mid planned l))
    → IsLineGiven o u (line_with (record { tick = tick; call = fault }) s planned (Ok l))
answered_given at reply mid s tick fault planned l o u same is given =
    line_given reply mid (ticked_before tick s (line_at l)) fault planned l o u (subst (λ (m : ℕ). IsTicked reply mid (ticked_before tick s m)) same is) given

-- ---- the commits

-- after the tick of a line
line_asks : (old new : KeeperSeen) (reply : Option Reply) (mid : State) (t : Stepped) (fault : Option ℕ) (planned : List Filed) (l : PlannedLine) → IsTicked reply mid t
    → Asks old new (asked_once fault reply mid (comes_to mid planned l)) → Asks old new (asked_after fault t planned l)
line_asks old new reply mid t fault planned l is asks =
    subst (λ (r : Option Reply). Asks old new (asked_once fault r t.state (comes_to t.state planned l))) is.reply_is
    (subst (λ (s : State). Asks old new (asked_once fault reply s (comes_to s planned l))) is.state_is asks)

-- of the tick before a line, whose moment code has read, and then of the line
pub answered_asks : (old middle new : KeeperSeen) (at : ℕ) (reply : Option Reply) (mid s : State) (tick fault : Option ℕ) (planned : List Filed) (l : PlannedLine) → at ≡ line_at l
    → IsTicked reply mid (ticked_before tick s at) → Asks old middle (asked_before tick s at) → Asks middle new (asked_once fault reply mid (comes_to mid planned l))
    → Asks old new (asked_line (record { tick = tick; call = fault }) s planned (Ok l))
answered_asks old middle new at reply mid s tick fault planned l same is before after =
    let t : Stepped = ticked_before tick s (line_at l) in
    asks_on old middle new (asked_before tick s (line_at l)) (asked_after fault t planned l) (subst (λ (m : ℕ). Asks old middle (asked_before tick s m)) same before)
    (line_asks middle new reply mid t fault planned l (subst (λ (m : ℕ). IsTicked reply mid (ticked_before tick s m)) same is) after)

-- a line whose tick was refused files nothing
pub refused_files : (l : PlannedLine) (o : Option Reply) (reply : Reply) (says : LineSaid) (planned : List Filed) → o ≡ Some reply → IfSome o IsNotDone → says ≡ replies reply
    → planned ≡ filed_by_line l says planned
refused_files l o reply says planned is not_done said =
    let none : is_done_reply reply ≡ false = subst (λ (p : Option Reply). IfSome p IsNotDone) is not_done in
    subst (λ (x : LineSaid). planned ≡ filed_by_line l x planned) (sym said) (by l none)
  where
    by : (k : PlannedLine) → is_done_reply reply ≡ false → planned ≡ filed_by_line k (replies reply) planned
    by (Asked at call) none = refl
    by (File at actor key release leg plan) none = sym (ap (λ (b : Bool). filed_if b (final_plan release leg plan) planned) none)
    by (Check at actor key release) none = refl
    by (Turn at actor key number release) none = refl

-- a malformed line
pub bad_answered : (kept : KeptAt) (s : State) (planned : List Filed) (i : PlannedItem) (fault : BadCall) (o : LineOutcome) → i ≡ Err fault → o ≡ (bad_line s fault).outcome
    → IsLineAnswered kept kept s planned i s planned o
bad_answered kept s planned i fault o is outcome =
    subst (λ (x : PlannedItem). IsLineAnswered kept kept s planned x s planned o) (sym is)
    (record { choice = no_choice; counted = omega arith; stored = sym (append-nil kept.stored); outcome_is = outcome; state_is = refl; filed_is = refl })
