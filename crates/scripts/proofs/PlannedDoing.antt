-- What a line adds to the history: a tick or none, and then the entry of its call or none.
use Rattle.std.proofs.Common.{◌≡◌, ℕ, ◌<◌, ◌≤◌, ◌⊎◌, inl, inr, Bool, true, false, MatchBool, List, [], ◌∷◌, ◌++◌, length, Option, None, Some, IfSome, Ok, Err, refl, sym, subst, arith}
use Rattle.std.specs.Prelude.{nat_le, nat_lt}
use Rattle.std.specs.List.{AllByRecursion}
use Rattle.asks.specs.Forms.{CallHasForms}
use Rattle.asks.specs.declared.bad_call.BadCall.{BadCall}
use Rattle.asks.specs.declared.call.Call.{Call}
use Rattle.asks.specs.declared.reply.Refusal.TheVariants.{Unkept}
use Rattle.asks.specs.declared.reply.Reply.{Reply}
use Rattle.asks.specs.declared.reply.Reply.TheVariants.{Refused}
use Rattle.desk.proofs.Growing.{Grows, IsMade, IsWithin, Judged, Stays, Ticks, full_is, grows_none, is_come, is_later, is_now, is_to_come, judged, none_is, numbers_within, same_count, still_adds, tick_steps, true_false, unkept_full}
use Rattle.desk.specs.Keeping.{Choice, Counted, adds, kept_or, made_with, unkept_if}
use Rattle.desk.specs.Positions.{IsAnswered, IsRefusedBy, IsUnkept}
use Rattle.desk_json.specs.PlannedLines.{PlannedHasForms}
use Rattle.desk_json.specs.declared.planned.PlannedLine.{PlannedLine}
use Rattle.desk_json.specs.declared.planned.PlannedLine.TheVariants.{Asked, File, Check, Turn}
use Rattle.desk_state.proofs.Boards.{tick_keeps}
use Rattle.desk_state.specs.Lanes.{said_of}
use Rattle.desk_state.specs.Legal.{MayCome, next}
use Rattle.desk_state.specs.Sound.{IsBoard}
use Rattle.desk_state.specs.State.{State}
use Rattle.desk_state.specs.Step.{Stepped, entry, full_reply, tick_to}
use Rattle.desk_state.specs.declared.entry.Entry.{Entry}
use Rattle.desk_state.specs.declared.entry.What.TheVariants as what
use Rattle.desk_state.specs.declared.lanes.Item.TheVariants as item
use Rattle.desk_state.specs.declared.lanes.Said.{Said}
use Rattle.desk_state.specs.declared.lanes.Said.TheVariants as said
use Rattle.redispatch.specs.Filed.{HasFormedPlan}
use Rattle.redispatch.specs.declared.planned.Filed.{Filed}
use Rattle.scripts.proofs.PlannedCome.{made_forms, says_quiet}
use Rattle.scripts.specs.PlannedHistory.{AcceptsCame, AcceptsLine, IsCame, IsEntryOfCame, IsLineEntry, IsLineSaidIn, IsLineUnkept, LineComesAt, OnSaid}
use Rattle.scripts.specs.PlannedRuns.{LineGiven, PlannedItem, after_tick, line_at, line_with, made_of, once_ticked, ticked_before, ticked_if}
use Rattle.scripts.specs.PlannedShown.{IsLineFormed}
use Rattle.scripts.specs.PlannedTests.{comes_to, replies}
use Rattle.scripts.specs.declared.planned_said.Came.{Came}
use Rattle.scripts.specs.declared.planned_said.Came.TheVariants.{Says, Makes}
use Rattle.scripts.specs.declared.planned_said.LineSaid.{LineSaid}
use Rattle.scripts.specs.declared.planned_said.LineSaid.TheVariants as line

pub forms_moment : (l : PlannedLine) → PlannedHasForms l → line_at l ≤ 68_374_079
forms_moment (Asked at call) forms = forms.0.1
forms_moment (File at actor key release leg plan) forms = forms.0.1
forms_moment (Check at actor key release) forms = forms.0.1
forms_moment (Turn at actor key number release) forms = forms.0.1

-- ---- what a line comes to, once its moment has come

-- the entry of the call to which a line came
record CameOwns (u : State) (at : ℕ) (came : Came) (says : LineSaid) (t : State) : Type 0 where
  e : Entry
  its : IsEntryOfCame e at came says
  may : MayCome u e.lane e.what
  is : next u e.lane e.what ≡ t
  grown : t.entries ≡ u.entries ++ e ∷ []

abbrev IsCameMade : State → ℕ → Came → LineSaid → State → Type 0
IsCameMade u at came says t = ((t ≡ u) × (AcceptsCame u at came says → ⊥)) ⊎ (AcceptsCame u at came says × CameOwns u at came says t)

record CameDid (low high : ℕ) (u : State) (at : ℕ) (came : Came) (g : LineGiven) : Type 0 where
  position : g.outcome.position ≡ length u.entries
  says : IsCame low high u came g.outcome.said
  made : IsCameMade u at came g.outcome.said g.state
  keeps : (opening : State) → IsBoard opening u → at ≤ 68_374_079 → ((call : Call) → came ≡ Makes call → CallHasForms call) → IsBoard opening g.state
  carries : (opening : State) → IsBoard opening u → at ≤ 68_374_079 → ((call : Call) → came ≡ Makes call → CallHasForms call)
      → ((x : LineSaid) (n : ℕ) → came ≡ Says x → IsLineUnkept n x → ⊥) → (n : ℕ) → IsLineUnkept n g.outcome.said → IsWithin low high n

came_answered : (b : Bool) (A B : Type 0) → b ≡ true → MatchBool b A B → A
came_answered true A B is has = has
came_answered false A B is has = absurd (cc)

call_made : (u : State) (at : ℕ) (call : Call) (says : Said) (t : State) → IsMade 1 (item.Call at call) says u t → IsCameMade u at (Makes call) (line.Said says) t
call_made u at call says t (inl still) = inl (still.0, still.1)
call_made u at call says t (inr own) = inr (own.0, record { e = own.1.e; its = own.1.its; may = own.1.may; is = own.1.is; grown = own.1.grown })

came_did : (low high : ℕ) (u : State) (at : ℕ) (came : Came) (fault : Option ℕ) → at ≤ u.moment → IfSome fault (IsWithin low high) → CameDid low high u at came (made_of fault u came)
came_did low high u at (Says x) fault here within = record {
  position = refl;
  says = refl;
  made = inl (refl, λ accepts. accepts);
  keeps = λ opening board small forms. board;
  carries = λ opening board small forms quiet n is. absurd (quiet x n refl is);
}
came_did low high u at (Makes call) fault here within =
    let j : Judged low high 1 (item.Call at call) u (made_with fault 1 u call) = judged low high 1 u at call here fault within in
    record {
      position = refl;
      says = came_answered (nat_le at u.moment) (IsAnswered low high 1 u call (said_of (made_with fault 1 u call).reply)) _ (is_come at u.moment here) j.says;
      made = call_made u at call (said_of (made_with fault 1 u call).reply) (made_with fault 1 u call).state j.made;
      keeps = λ opening board small forms. j.keeps opening board (small, forms call refl);
      carries = λ opening board small forms quiet n is. j.carries opening board (small, forms call refl) n is;
    }

-- ---- the tick

record TickRefused (low high : ℕ) (s : State) (at : ℕ) (t : Stepped) : Type 0 where
  reply : Reply
  replies_is : t.reply ≡ Some reply
  stays : t.state ≡ s
  by_tick : IsRefusedBy low high (tick_to s 1 at).reply (said.Reply reply)
  carries : (n : ℕ) → IsUnkept n (said.Reply reply) → IsWithin low high n
  later : s.moment < at

-- the tick of a line: its entry
pub record LineTicked (at : ℕ) (s mid : State) : Type 0 where
  pub may : MayCome s 1 (what.Tick at)
  pub is : next s 1 (what.Tick at) ≡ mid
  pub grown : mid.entries ≡ s.entries ++ entry 1 (what.Tick at) ∷ []

record TickPassed (s : State) (at : ℕ) (t : Stepped) : Type 0 where
  replies_none : t.reply ≡ None
  here : at ≤ t.state.moment
  led : (t.state ≡ s) ⊎ LineTicked at s t.state
  keeps : (opening : State) → IsBoard opening s → at ≤ 68_374_079 → IsBoard opening t.state

abbrev TickDid : ℕ → ℕ → State → ℕ → Stepped → Type 0
TickDid low high s at t = TickRefused low high s at t ⊎ TickPassed s at t

tick_stays : (low high : ℕ) (s : State) (at : ℕ) → s.moment < at → Stays s (tick_to s 1 at) → TickDid low high s at (tick_to s 1 at)
tick_stays low high s at later stays = inl (record {
  reply = full_reply s;
  replies_is = stays.replies;
  stays = stays.state;
  by_tick = full_is s low high (tick_to s 1 at).reply stays.replies;
  carries = λ n is. absurd (unkept_full n s is);
  later = later;
})

tick_made : (low high : ℕ) (s : State) (at : ℕ) → s.moment < at → Ticks s 1 at (tick_to s 1 at) → TickDid low high s at (tick_to s 1 at)
tick_made low high s at later ticks = inr (record {
  replies_none = ticks.replies;
  here = let moment = ticks.moment in omega (arith, moment);
  led = inr (record { may = (later, ticks.room); is = refl; grown = ticks.grown });
  keeps = λ opening board small. tick_keeps opening s (tick_to s 1 at).state 1 at board later small refl;
})

tick_by : (low high : ℕ) (s : State) (at : ℕ) → s.moment < at → Stays s (tick_to s 1 at) ⊎ Ticks s 1 at (tick_to s 1 at) → TickDid low high s at (tick_to s 1 at)
tick_by low high s at later (inl stays) = tick_stays low high s at later stays
tick_by low high s at later (inr ticks) = tick_made low high s at later ticks

tick_unkept : (low high n : ℕ) (s : State) (at : ℕ) (t : Stepped) → s.moment < at → IsWithin low high n → t.reply ≡ Some (Refused (Unkept n)) → t.state ≡ s → (tick_to s 1 at).reply ≡ None → TickDid low high s at t
tick_unkept low high n s at t later within says stays none = inl (record {
  reply = Refused (Unkept n);
  replies_is = says;
  stays = stays;
  by_tick = none_is low high (tick_to s 1 at).reply n none within;
  carries = λ m is. subst (IsWithin low high) (same_count n m is) within;
  later = later;
})

tick_unless : (low high n : ℕ) (s : State) (at : ℕ) (b : Bool) → adds s (tick_to s 1 at) ≡ b → s.moment < at → IsWithin low high n → Stays s (tick_to s 1 at) ⊎ Ticks s 1 at (tick_to s 1 at)
    → TickDid low high s at (unkept_if b n s (tick_to s 1 at))
tick_unless low high n s at false is later within how = tick_by low high s at later how
tick_unless low high n s at true is later within (inl stays) = absurd (true_false (adds s (tick_to s 1 at)) is (still_adds s (tick_to s 1 at) stays.state))
tick_unless low high n s at true is later within (inr ticks) = tick_unkept low high n s at (unkept_if true n s (tick_to s 1 at)) later within refl refl ticks.replies

tick_or : (low high : ℕ) (fault : Option ℕ) (s : State) (at : ℕ) → s.moment < at → IfSome fault (IsWithin low high) → TickDid low high s at (kept_or fault s (tick_to s 1 at))
tick_or low high None s at later within = tick_by low high s at later (tick_steps s 1 at)
tick_or low high (Some n) s at later within = tick_unless low high n s at (adds s (tick_to s 1 at)) refl later within (tick_steps s 1 at)

tick_if : (low high : ℕ) (later : Bool) (fault : Option ℕ) (s : State) (at : ℕ) → nat_lt s.moment at ≡ later → IfSome fault (IsWithin low high) → TickDid low high s at (ticked_if later fault s at)
tick_if low high false fault s at test within = inr (record { replies_none = refl; here = is_now s.moment at test; led = inl refl; keeps = λ opening board small. board })
tick_if low high true fault s at test within = tick_or low high fault s at (is_later s.moment at test) within

-- ---- a line

-- the own entry of an accepted line
pub record LineOwns (u : State) (planned : List Filed) (i : PlannedItem) (says : LineSaid) (t : State) : Type 0 where
  pub e : Entry
  pub its : IsLineEntry e u planned i says
  pub may : MayCome u e.lane e.what
  pub is : next u e.lane e.what ≡ t
  pub grown : t.entries ≡ u.entries ++ e ∷ []

abbrev pub IsLineMade : State → List Filed → PlannedItem → LineSaid → State → Type 0
IsLineMade u planned i says t = ((t ≡ u) × (AcceptsLine u planned i says → ⊥)) ⊎ (AcceptsLine u planned i says × LineOwns u planned i says t)

-- the tick that comes before a line
pub record TickedLine (i : PlannedItem) (s mid : State) : Type 0 where
  pub to : ℕ
  pub comes : LineComesAt to i
  pub ticked : LineTicked to s mid

pub record LineDid (low high : ℕ) (s : State) (planned : List Filed) (i : PlannedItem) (g : LineGiven) : Type 0 where
  pub mid : State
  pub ticked : (mid ≡ s) ⊎ TickedLine i s mid
  pub position : g.outcome.position ≡ length mid.entries
  pub says : IsLineSaidIn low high mid planned i g.outcome.said
  pub made : IsLineMade mid planned i g.outcome.said g.state
  pub keeps : (opening : State) → IsBoard opening s → IsLineFormed i → AllByRecursion HasFormedPlan planned → IsBoard opening g.state
  pub carries : (opening : State) → IsBoard opening s → IsLineFormed i → AllByRecursion HasFormedPlan planned → (n : ℕ) → IsLineUnkept n g.outcome.said → IsWithin low high n

not_yet : (s : State) (at : ℕ) (came : Came) (says : LineSaid) → s.moment < at → AcceptsCame s at came says → ⊥
not_yet s at (Says x) says later accepts = accepts
not_yet s at (Makes call) (line.Said x) later accepts = let come = accepts.0 in absurd (omega (arith, later, come))
not_yet s at (Makes call) (line.Refused why) later accepts = accepts

line_made : (u : State) (planned : List Filed) (l : PlannedLine) (says : LineSaid) (t : State) → IsCameMade u (line_at l) (comes_to u planned l) says t → IsLineMade u planned (Ok l) says t
line_made u planned l says t (inl still) = inl still
line_made u planned l says t (inr own) = inr (own.0, record { e = own.1.e; its = own.1.its; may = own.1.may; is = own.1.is; grown = own.1.grown })

line_led : (l : PlannedLine) (s mid : State) → (mid ≡ s) ⊎ LineTicked (line_at l) s mid → (mid ≡ s) ⊎ TickedLine (Ok l) s mid
line_led l s mid (inl is) = inl is
line_led l s mid (inr t) = inr (record { to = line_at l; comes = refl; ticked = t })

module _ (low high : ℕ) (s : State) (planned : List Filed) (l : PlannedLine) (fault : Option ℕ) (t : Stepped) where
  line_refused : TickRefused low high s (line_at l) t → LineDid low high s planned (Ok l) (after_tick fault t planned l)
  line_refused r =
      let later = r.later in
      subst (λ (o : Option Reply). LineDid low high s planned (Ok l) (once_ticked fault o t.state (comes_to t.state planned l))) (sym r.replies_is)
      (subst (λ (v : State). LineDid low high s planned (Ok l) (once_ticked fault (Some r.reply) v (comes_to v planned l))) (sym r.stays) (record {
        mid = s;
        ticked = inl refl;
        position = refl;
        says = subst (λ (b : Bool). MatchBool b (IsCame low high s (comes_to s planned l) (replies r.reply)) (OnSaid (IsRefusedBy low high (tick_to s 1 (line_at l)).reply) (replies r.reply)))
            (sym (is_to_come (line_at l) s.moment r.later)) r.by_tick;
        made = inl (refl, λ accepts. not_yet s (line_at l) (comes_to s planned l) (replies r.reply) r.later accepts);
        keeps = λ opening board forms all. board;
        carries = λ opening board forms all n is. r.carries n is;
      }))

  line_passed : TickPassed s (line_at l) t → IfSome fault (IsWithin low high) → LineDid low high s planned (Ok l) (after_tick fault t planned l)
  line_passed p within =
      let d : CameDid low high t.state (line_at l) (comes_to t.state planned l) (made_of fault t.state (comes_to t.state planned l)) =
      came_did low high t.state (line_at l) (comes_to t.state planned l) fault p.here within in
      let g : LineGiven = made_of fault t.state (comes_to t.state planned l) in
      subst (λ (o : Option Reply). LineDid low high s planned (Ok l) (once_ticked fault o t.state (comes_to t.state planned l))) (sym p.replies_none) (record {
        mid = t.state;
        ticked = line_led l s t.state p.led;
        position = d.position;
        says = subst (λ (b : Bool). MatchBool b (IsCame low high t.state (comes_to t.state planned l) g.outcome.said) (OnSaid (IsRefusedBy low high (tick_to t.state 1 (line_at l)).reply) g.outcome.said))
            (sym (is_come (line_at l) t.state.moment p.here)) d.says;
        made = line_made t.state planned l g.outcome.said g.state d.made;
        keeps = λ opening board forms all.
            d.keeps opening (p.keeps opening board (forms_moment l forms)) (forms_moment l forms) (λ call is. made_forms t.state planned l call forms all is);
        carries = λ opening board forms all n is.
            d.carries opening (p.keeps opening board (forms_moment l forms)) (forms_moment l forms) (λ call e. made_forms t.state planned l call forms all e)
            (λ x m e unkept. says_quiet t.state planned l x m e unkept) n is;
      })

  line_by : TickDid low high s (line_at l) t → IfSome fault (IsWithin low high) → LineDid low high s planned (Ok l) (after_tick fault t planned l)
  line_by (inl r) within = line_refused r
  line_by (inr p) within = line_passed p within

bad_unkept : (n : ℕ) (fault : BadCall) → IsLineUnkept n (line.Said (said.Bad fault)) → ⊥
bad_unkept n fault is = absurd (cc)

pub line_did : (low high : ℕ) (s : State) (planned : List Filed) (i : PlannedItem) (c : Choice) → Counted low (c ∷ []) high → LineDid low high s planned i (line_with c s planned i)
line_did low high s planned (Err fault) c counted = record {
  mid = s;
  ticked = inl refl;
  position = refl;
  says = refl;
  made = inl (refl, λ accepts. accepts);
  keeps = λ opening board forms all. board;
  carries = λ opening board forms all n is. absurd (bad_unkept n fault is);
}
line_did low high s planned (Ok l) c counted =
    let both = numbers_within low high c.tick c.call counted in
    line_by low high s planned l c.call (ticked_before c.tick s (line_at l)) (tick_if low high (nat_lt s.moment (line_at l)) c.tick s (line_at l) refl both.0) both.1

-- ---- what it adds

grows_by : (s t : State) (e : Entry) → MayCome s e.lane e.what → next s e.lane e.what ≡ t → t.entries ≡ s.entries ++ e ∷ [] → Grows s t
grows_by s t e may is grown = record { entries = e ∷ []; grown = grown; legal = (may, is) }

pub grows_mid : (low high : ℕ) (s : State) (planned : List Filed) (i : PlannedItem) (g : LineGiven) → (d : LineDid low high s planned i g) → Grows s d.mid
grows_mid low high s planned i g d = by d.mid d.ticked
  where
    by : (mid : State) → (mid ≡ s) ⊎ TickedLine i s mid → Grows s mid
    by mid (inl is) = grows_none s mid is
    by mid (inr t) = grows_by s mid (entry 1 (what.Tick t.to)) t.ticked.may t.ticked.is t.ticked.grown

pub grows_made : (u : State) (planned : List Filed) (i : PlannedItem) (says : LineSaid) (t : State) → IsLineMade u planned i says t → Grows u t
grows_made u planned i says t (inl still) = grows_none u t still.0
grows_made u planned i says t (inr own) = grows_by u t own.1.e own.1.may own.1.is own.1.grown
