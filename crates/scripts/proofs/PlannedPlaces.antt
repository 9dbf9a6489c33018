-- The lines of a script in the one history: what is said of each follows from its place.
use Rattle.std.proofs.Common.{◌≡◌, ℕ, zero, suc, ◌+◌, ◌-◌, ◌<◌, ◌≤◌, ◌⊎◌, inl, inr, Bool, true, false, MatchBool, List, [], ◌∷◌, ◌++◌, length, map, take, slice_get, append-nil, length-append, None, Some, Ok, Err, refl, ap, sym, ◌∙◌, subst, arith}
use Rattle.std.specs.Prelude.{Result, IfOk, OnOk, nat_le}
use Rattle.std.specs.List.{AllByRecursion, concat}
use Rattle.std.proofs.lemmas.Bool.{leb-false, leb-true}
use Rattle.std.proofs.lemmas.List.{append_cancel_left}
use Rattle.asks.specs.declared.call.Call.{Call}
use Rattle.asks.specs.declared.reply.Reply.{Reply}
use Rattle.desk.proofs.Choices.{rise_within}
use Rattle.desk.proofs.Growing.{Grows, IsWithin, entry_stands, grown_on, grows_long, grows_on, legal_after, prefix_is}
use Rattle.desk.proofs.Positions.{same_tick, tick_call, wider_answer, wider_refusal}
use Rattle.desk.specs.Keeping.{Choice, Counted, KeptAt, Rise, numbers_of}
use Rattle.desk.specs.Positions.{IsEntryOf, IsRefusedBy, after_entries, prefix}
use Rattle.desk.specs.Run.{lines_of}
use Rattle.desk_json.specs.declared.planned.PlannedLine.{PlannedLine}
use Rattle.desk_json.specs.declared.planned.PlannedLine.TheVariants.{Turn}
use Rattle.desk_state.specs.Legal.{Legal, next as next_state}
use Rattle.desk_state.specs.Requests.{kept_at}
use Rattle.desk_state.proofs.Boards.{tick_keeps}
use Rattle.desk_state.specs.Sound.{IsBoard, Sound}
use Rattle.desk_state.specs.State.{State}
use Rattle.desk_state.specs.Step.{entry, tick_to, without_key}
use Rattle.desk_state.specs.declared.entry.Entry.{Entry}
use Rattle.desk_state.specs.declared.entry.What.TheVariants as what
use Rattle.desk_state.specs.declared.lanes.Item.TheVariants as item
use Rattle.desk_state.specs.declared.lanes.Said.{Said}
use Rattle.plan.specs.declared.flights.Plan.{Plan}
use Rattle.redispatch.specs.Filed.{HasFormedPlan}
use Rattle.redispatch.specs.declared.planned.Filed.{Filed}
use Rattle.scripts.proofs.PendingLaws.{next_pending, ticked_pending}
use Rattle.scripts.proofs.PlannedCome.{made_proposes, new_turn_passes}
use Rattle.scripts.proofs.PlannedHeld.{later_formed}
use Rattle.scripts.proofs.PlannedTelling.{run_lower}
use Rattle.scripts.proofs.PlannedDoing.{IsLineMade, LineDid, LineOwns, TickedLine, forms_moment, grows_made, grows_mid, line_did}
use Rattle.scripts.specs.PlannedHistory.{AcceptsCame, AcceptsLine, AreInPlannedHistory, IsCame, IsEntryOfCame, IsLineEntry, IsLineSaidIn, IsLineUnkept, IsPlace, IsPlanned, IsPlannedHistory, IsProposedBefore, LineComesAt, LineProposes, OnSaid, TurnPasses, filed_before}
use Rattle.scripts.specs.PlannedRuns.{IsPlannedRun, IsPlannedRunOf, LineGiven, PlannedItem, after_lines, filed_by, first_choice, later_choices, line_at, line_with, lines_with, planned_items}
use Rattle.scripts.specs.PlannedShown.{IsLineFormed}
use Rattle.scripts.specs.PlannedTests.{comes_to}
use Rattle.scripts.specs.Proposals.{IsProposedBy, Proposes, pending_plan_at}
use Rattle.scripts.specs.declared.planned_said.Came.{Came}
use Rattle.scripts.specs.declared.planned_said.Came.TheVariants.{Says, Makes}
use Rattle.scripts.specs.declared.planned_said.LineOutcome.{LineOutcome}
use Rattle.scripts.specs.declared.planned_said.LineSaid.{LineSaid}
use Rattle.scripts.specs.declared.planned_said.LineSaid.TheVariants as line

-- ---- lists

take_past : {X : Type 0} (xs ys : List X) (k n : ℕ) → n ≡ length xs + k → take n (xs ++ ys) ≡ xs ++ take k ys
take_past [] ys k n is = ap (λ (m : ℕ). take m ys) (omega (arith, is))
take_past (x ∷ xs) ys k zero is = absurd (omega (arith, is))
take_past (x ∷ xs) ys k (suc n) is = ap (λ zs. x ∷ zs) (take_past xs ys k n (omega (arith, is)))

record Later {X : Type 0} (ys : List X) (front q : ℕ) (e : X) : Type 0 where
  k : ℕ
  is : q ≡ front + k
  at : slice_get ys k ≡ Some e

one_later : {X : Type 0} (xs ys : List X) (x : X) (q : ℕ) (e : X) → (slice_get xs q ≡ Some e) ⊎ Later ys (length xs) q e → (slice_get (x ∷ xs) (suc q) ≡ Some e) ⊎ Later ys (length (x ∷ xs)) (suc q) e
one_later xs ys x q e (inl at) = inl at
one_later xs ys x q e (inr l) = inr (record { k = l.k; is = let is = l.is in omega (arith, is); at = l.at })

-- an element stands in the first list or in the second
pick : {X : Type 0} (xs ys : List X) (q : ℕ) (e : X) → slice_get (xs ++ ys) q ≡ Some e → (slice_get xs q ≡ Some e) ⊎ Later ys (length xs) q e
pick [] ys q e at = inr (record { k = q; is = omega arith; at = at })
pick (x ∷ xs) ys zero e at = inl at
pick (x ∷ xs) ys (suc q) e at = one_later xs ys x q e (pick xs ys q e at)

get_past : {X : Type 0} (xs ys : List X) (n k : ℕ) → k ≡ length xs + n → slice_get (xs ++ ys) k ≡ slice_get ys n
get_past [] ys n k is = ap (slice_get ys) (omega (arith, is))
get_past (x ∷ xs) ys n zero is = absurd (omega (arith, is))
get_past (x ∷ xs) ys n (suc k) is = get_past xs ys n k (omega (arith, is))

some_is : {X : Type 0} (x y : X) → Some x ≡ Some y → x ≡ y
some_is x y is = cc

only_one : {X : Type 0} (x : X) (q : ℕ) (e : X) → slice_get (x ∷ []) q ≡ Some e → (q ≡ 0) × (e ≡ x)
only_one x zero e at = (refl, sym (some_is x e at))
only_one x (suc q) e at = absurd (cc)

none_at : {X : Type 0} (q : ℕ) (e : X) → slice_get [] q ≡ Some e → ⊥
none_at q e at = absurd (cc)

after_append : (s : State) (es fs : List Entry) → after_entries s (es ++ fs) ≡ after_entries (after_entries s es) fs
after_append s [] fs = refl
after_append s (e ∷ es) fs = after_append (next_state s e.lane e.what) es fs

-- the state at a later position, from a state on the way
prefix_past : (s m : State) (g : Grows s m) (fs : List Entry) (position : ℕ) → length m.entries ≤ position → prefix s (g.entries ++ fs) position ≡ prefix m fs position
prefix_past s m g fs position past =
    let long : length m.entries ≡ length s.entries + length g.entries = ap length g.grown ∙ length-append s.entries g.entries in
    ap (after_entries s) (take_past g.entries fs (position - length m.entries) (position - length s.entries) (omega (arith, long, past)))
    ∙ (after_append s g.entries (take (position - length m.entries) fs)
    ∙ ap (λ (u : State). after_entries u (take (position - length m.entries) fs)) (legal_after s g.entries m g.legal))

legal_on : (s : State) (es : List Entry) (m : State) (fs : List Entry) (t : State) → Legal s es m → Legal m fs t → Legal s (es ++ fs) t
legal_on s [] m fs t one two = subst (λ (u : State). Legal u fs t) (sym one) two
legal_on s (e ∷ es) m fs t one two = (one.0, legal_on (next_state s e.lane e.what) es m fs t one.1 two)

-- ---- wider counts

wider_said : (P Q : Said → Type 0) → ((x : Said) → P x → Q x) → (says : LineSaid) → OnSaid P says → OnSaid Q says
wider_said P Q more (line.Said x) is = more x is
wider_said P Q more (line.Refused why) is = is

wider_came : (low high less more : ℕ) (u : State) (came : Came) (says : LineSaid) → less ≤ low → high ≤ more → IsCame low high u came says → IsCame less more u came says
wider_came low high less more u (Says x) says under over is = is
wider_came low high less more u (Makes call) says under over is = wider_said _ _ (λ x a. wider_answer low high less more 1 u call x under over a) says is

wider_by : (b : Bool) (low high less more : ℕ) (u : State) (planned : List Filed) (l : PlannedLine) (says : LineSaid) → less ≤ low → high ≤ more
    → MatchBool b (IsCame low high u (comes_to u planned l) says) (OnSaid (IsRefusedBy low high (tick_to u 1 (line_at l)).reply) says)
    → MatchBool b (IsCame less more u (comes_to u planned l) says) (OnSaid (IsRefusedBy less more (tick_to u 1 (line_at l)).reply) says)
wider_by true low high less more u planned l says under over is = wider_came low high less more u (comes_to u planned l) says under over is
wider_by false low high less more u planned l says under over is = wider_said _ _ (λ x a. wider_refusal low high less more (tick_to u 1 (line_at l)).reply x under over a) says is

wider_line : (low high less more : ℕ) (u : State) (planned : List Filed) (i : PlannedItem) (says : LineSaid) → less ≤ low → high ≤ more → IsLineSaidIn low high u planned i says → IsLineSaidIn less more u planned i says
wider_line low high less more u planned (Err fault) says under over is = is
wider_line low high less more u planned (Ok l) says under over is = wider_by (nat_le (line_at l) u.moment) low high less more u planned l says under over is

-- ---- entries

said_no_tick : (m to lane : ℕ) (call : Call) (says : LineSaid) (at : ℕ) → OnSaid (IsEntryOf (entry m (what.Tick to)) 1 (item.Call at call)) says → ⊥
said_no_tick m to lane call (line.Said x) at is = tick_call 1 m to (without_key call) is.0 (sym is.2)
said_no_tick m to lane call (line.Refused why) at is = is

came_no_tick : (m to at : ℕ) (came : Came) (says : LineSaid) → IsEntryOfCame (entry m (what.Tick to)) at came says → ⊥
came_no_tick m to at (Says x) says is = is
came_no_tick m to at (Makes call) says is = said_no_tick m to 1 call says at is

-- the entry of a tick isn't that of a call
no_tick : (m to : ℕ) (u : State) (planned : List Filed) (i : PlannedItem) (says : LineSaid) → IsLineEntry (entry m (what.Tick to)) u planned i says → ⊥
no_tick m to u planned (Err fault) says is = is
no_tick m to u planned (Ok l) says is = came_no_tick m to (line_at l) (comes_to u planned l) says is

-- the entry of a line's call proposes what the line does

said_proposes : (e : Entry) (at : ℕ) (call : Call) (says : LineSaid) (id : ℕ) (plan : Plan) → OnSaid (IsEntryOf e 1 (item.Call at call)) says → IsProposedBy id plan e.what → Proposes id plan call.ask
said_proposes e at call (line.Said x) id plan is by = subst (λ (f : Entry). IsProposedBy id plan f.what) is.2 by
said_proposes e at call (line.Refused why) id plan is by = absurd is

came_proposes : (e : Entry) (at : ℕ) (came : Came) (says : LineSaid) (u : State) (planned : List Filed) (l : PlannedLine) (id : ℕ) (plan : Plan) → comes_to u planned l ≡ came → IsEntryOfCame e at came says
    → IsProposedBy id plan e.what → LineProposes id plan planned (Ok l)
came_proposes e at (Says x) says u planned l id plan comes is by = absurd is
came_proposes e at (Makes call) says u planned l id plan comes is by = made_proposes u planned l call id plan comes (said_proposes e at call says id plan is by)

entry_proposes : (e : Entry) (u : State) (planned : List Filed) (i : PlannedItem) (says : LineSaid) (id : ℕ) (plan : Plan) → IsLineEntry e u planned i says → IsProposedBy id plan e.what
    → LineProposes id plan planned i
entry_proposes e u planned (Err fault) says id plan is by = absurd is
entry_proposes e u planned (Ok l) says id plan is by = came_proposes e (line_at l) (comes_to u planned l) says u planned l id plan refl is by

-- no entry leads anywhere

none_leads : (s : State) (n : ℕ) (es : List Entry) → es ≡ [] → after_entries s (take n es) ≡ s
none_leads s zero [] none = refl
none_leads s (suc n) [] none = refl
none_leads s n (e ∷ es) none = absurd (cc)

first_leads : (s : State) (es : List Entry) → after_entries s (take 0 es) ≡ s
first_leads s [] = refl
first_leads s (e ∷ es) = refl

turn_accepted : (came : Came) (u : State) (planned : List Filed) (at : ℕ) (actor key : List ℕ) (number id : ℕ) (says : LineSaid) → comes_to u planned (Turn at actor key number id) ≡ came → AcceptsCame u at came says
    → kept_at actor number u.kept ≡ None → TurnPasses u planned id
turn_accepted (Says x) u planned at actor key number id says is accepts new = absurd accepts
turn_accepted (Makes call) u planned at actor key number id says is accepts new = new_turn_passes u planned actor key number id call at is new

-- ---- one more line in front

pub record InHistory (low high : ℕ) (s : State) (planned : List Filed) (items : List PlannedItem) (outcomes : List LineOutcome) (t : State) : Type 0 where
  pub grows : Grows s t
  pub merged : AreInPlannedHistory low high s planned items outcomes grows.entries
  pub counts : (n : ℕ) (i : PlannedItem) (o : LineOutcome) → IsPlace items outcomes n i o → (a : ℕ) → IsLineUnkept a o.said → IsWithin low high a

module _ (low middle high : ℕ) (s : State) (planned : List Filed) (i : PlannedItem) (g : LineGiven) (d : LineDid low middle s planned i g) (under : low ≤ middle) (over : middle ≤ high)
    (carried : (n : ℕ) → IsLineUnkept n g.outcome.said → IsWithin low middle n) (sound : Sound d.mid) (rest : List PlannedItem) (outcomes : List LineOutcome) (t : State)
    (w : InHistory middle high g.state (filed_by i g.outcome.said planned) rest outcomes t) where
  abbrev o : LineOutcome
  o = g.outcome

  abbrev next : State
  next = g.state

  abbrev later_planned : List Filed
  later_planned = filed_by i o.said planned

  abbrev items : List PlannedItem
  items = i ∷ rest

  abbrev outs : List LineOutcome
  outs = o ∷ outcomes

  to_mid : Grows s d.mid
  to_mid = grows_mid low middle s planned i g d

  from_mid : Grows d.mid next
  from_mid = grows_made d.mid planned i o.said next d.made

  abbrev to_next : Grows s next
  to_next = record {
    entries = to_mid.entries ++ from_mid.entries;
    grown = grown_on s d.mid next to_mid.entries from_mid.entries to_mid.grown from_mid.grown;
    legal = legal_on s to_mid.entries d.mid from_mid.entries next to_mid.legal from_mid.legal;
  }

  abbrev to_end : Grows s t
  to_end = record {
    entries = to_next.entries ++ w.grows.entries;
    grown = grown_on s next t to_next.entries w.grows.entries to_next.grown w.grows.grown;
    legal = legal_on s to_next.entries next w.grows.entries t to_next.legal w.grows.legal;
  }

  abbrev entries : List Entry
  entries = to_end.entries

  abbrev later_entries : List Entry
  later_entries = w.grows.entries

  -- the states at the positions

  at_head : prefix s entries o.position ≡ d.mid
  at_head = prefix_is s d.mid t entries o.position to_mid (grows_on d.mid next t from_mid w.grows) to_end.grown d.position

  at_tail : (position : ℕ) → length next.entries ≤ position → prefix s entries position ≡ prefix next later_entries position
  at_tail position past = prefix_past s next to_next later_entries position past

  tail_past : (n : ℕ) (j : PlannedItem) (p : LineOutcome) → IsPlace rest outcomes n j p → length next.entries ≤ p.position
  tail_past n j p at = (w.merged.within n j p at).0

  long_mid : length s.entries ≤ length d.mid.entries
  long_mid = grows_long s d.mid to_mid

  long_next : length d.mid.entries ≤ length next.entries
  long_next = grows_long d.mid next from_mid

  long_is : length next.entries ≡ length s.entries + length to_next.entries
  long_is = ap length to_next.grown ∙ length-append s.entries to_next.entries

  all_long : length entries ≡ length to_next.entries + length later_entries
  all_long = length-append to_next.entries later_entries

  end_long : length t.entries ≡ length next.entries + length later_entries
  end_long = ap length w.grows.grown ∙ length-append next.entries later_entries

  -- the place at the head and those after it

  head_item : (j : PlannedItem) (p : LineOutcome) → IsPlace items outs zero j p → (i ≡ j) × (o ≡ p)
  head_item j p at = (some_is i j at.item_is, some_is o p at.outcome_is)

  of_head : (P : PlannedItem → LineOutcome → Type 0) (j : PlannedItem) (p : LineOutcome) → IsPlace items outs zero j p → P i o → P j p
  of_head P j p at holds = let is = head_item j p at in subst (λ (x : PlannedItem). P x p) is.0 (subst (λ (x : LineOutcome). P i x) is.1 holds)

  to_head : (P : PlannedItem → LineOutcome → Type 0) (j : PlannedItem) (p : LineOutcome) → IsPlace items outs zero j p → P j p → P i o
  to_head P j p at holds = let is = head_item j p at in subst (λ (x : PlannedItem). P x o) (sym is.0) (subst (λ (x : LineOutcome). P j x) (sym is.1) holds)

  of_tail : (n : ℕ) (j : PlannedItem) (p : LineOutcome) → IsPlace items outs (suc n) j p → IsPlace rest outcomes n j p
  of_tail n j p at = record { item_is = at.item_is; outcome_is = at.outcome_is }

  to_tail : (n : ℕ) (j : PlannedItem) (p : LineOutcome) → IsPlace rest outcomes n j p → IsPlace items outs (suc n) j p
  to_tail n j p at = record { item_is = at.item_is; outcome_is = at.outcome_is }

  head_place : IsPlace items outs zero i o
  head_place = record { item_is = refl; outcome_is = refl }

  -- acceptance

  abbrev Accepted : ℕ → PlannedItem → LineOutcome → Type 0
  Accepted n j p = AcceptsLine (prefix s entries p.position) (filed_before planned items outs n) j p.said

  abbrev AcceptedLater : ℕ → PlannedItem → LineOutcome → Type 0
  AcceptedLater n j p = AcceptsLine (prefix next later_entries p.position) (filed_before later_planned rest outcomes n) j p.said

  head_accepts : (j : PlannedItem) (p : LineOutcome) → IsPlace items outs zero j p → Accepted zero j p → AcceptsLine d.mid planned i o.said
  head_accepts j p at accepts = subst (λ (u : State). AcceptsLine u planned i o.said) at_head (to_head (λ x y. AcceptsLine (prefix s entries y.position) planned x y.said) j p at accepts)

  longer_by : IsLineMade d.mid planned i o.said next → AcceptsLine d.mid planned i o.said → length d.mid.entries < length next.entries
  longer_by (inl still) accepts = absurd (still.1 accepts)
  longer_by (inr own) accepts = let long = ap length own.1.grown ∙ length-append d.mid.entries (own.1.e ∷ []) in omega (arith, long)

  longer : AcceptsLine d.mid planned i o.said → length d.mid.entries < length next.entries
  longer accepts = longer_by d.made accepts

  tail_accepts : (n : ℕ) (j : PlannedItem) (p : LineOutcome) → IsPlace rest outcomes n j p → Accepted (suc n) j p → AcceptedLater n j p
  tail_accepts n j p at accepts = subst (λ (u : State). AcceptsLine u (filed_before later_planned rest outcomes n) j p.said) (at_tail p.position (tail_past n j p at)) accepts

  accepts_tail : (n : ℕ) (j : PlannedItem) (p : LineOutcome) → IsPlace rest outcomes n j p → AcceptedLater n j p → Accepted (suc n) j p
  accepts_tail n j p at accepts = subst (λ (u : State). AcceptsLine u (filed_before later_planned rest outcomes n) j p.said) (sym (at_tail p.position (tail_past n j p at))) accepts

  -- the entries of the head

  record HeadTick (q : ℕ) (e : Entry) : Type 0 where
    to : ℕ
    comes : LineComesAt to i
    is : e ≡ entry 1 (what.Tick to)
    stands : o.position ≡ length s.entries + (q + 1)

  record HeadOwn (q : ℕ) (e : Entry) : Type 0 where
    accepts : AcceptsLine d.mid planned i o.said
    its : IsLineEntry e d.mid planned i o.said
    stands : o.position ≡ length s.entries + q

  tick_by : (ticked : (d.mid ≡ s) ⊎ TickedLine i s d.mid) (q : ℕ) (e : Entry) → slice_get to_mid.entries q ≡ Some e → HeadTick q e
  tick_by (inl is) q e at =
      let none : to_mid.entries ≡ [] = append_cancel_left s.entries to_mid.entries [] (sym to_mid.grown ∙ (ap (λ (u : State). u.entries) is ∙ sym (append-nil s.entries))) in
      absurd (none_at q e (sym (ap (λ es. slice_get es q) none) ∙ at))
  tick_by (inr t) q e at =
      let one : to_mid.entries ≡ entry 1 (what.Tick t.to) ∷ [] = append_cancel_left s.entries to_mid.entries (entry 1 (what.Tick t.to) ∷ []) (sym to_mid.grown ∙ t.ticked.grown) in
      let its = only_one (entry 1 (what.Tick t.to)) q e (sym (ap (λ es. slice_get es q) one) ∙ at) in
      let first = its.0 in
      let position = d.position in
      let long = ap length t.ticked.grown ∙ length-append s.entries (entry 1 (what.Tick t.to) ∷ []) in
      record { to = t.to; comes = t.comes; is = its.1; stands = omega (arith, first, position, long) }

  own_by : (made : IsLineMade d.mid planned i o.said next) (q k : ℕ) (e : Entry) → q ≡ length to_mid.entries + k → slice_get from_mid.entries k ≡ Some e → HeadOwn q e
  own_by (inl still) q k e is at =
      let none : from_mid.entries ≡ [] = append_cancel_left d.mid.entries from_mid.entries [] (sym from_mid.grown ∙ (ap (λ (u : State). u.entries) still.0 ∙ sym (append-nil d.mid.entries))) in
      absurd (none_at k e (sym (ap (λ es. slice_get es k) none) ∙ at))
  own_by (inr own) q k e is at =
      let one : from_mid.entries ≡ own.1.e ∷ [] = append_cancel_left d.mid.entries from_mid.entries (own.1.e ∷ []) (sym from_mid.grown ∙ own.1.grown) in
      let its = only_one own.1.e k e (sym (ap (λ es. slice_get es k) one) ∙ at) in
      let first = its.0 in
      let position = d.position in
      let long = ap length to_mid.grown ∙ length-append s.entries to_mid.entries in
      record { accepts = own.0; its = subst (λ (x : Entry). IsLineEntry x d.mid planned i o.said) (sym its.1) own.1.its; stands = omega (arith, is, first, position, long) }

  head_by : (q : ℕ) (e : Entry) → (slice_get to_mid.entries q ≡ Some e) ⊎ Later from_mid.entries (length to_mid.entries) q e → HeadTick q e ⊎ HeadOwn q e
  head_by q e (inl at) = inl (tick_by d.ticked q e at)
  head_by q e (inr l) = inr (own_by d.made q l.k e l.is l.at)

  found_by : (q : ℕ) (e : Entry) → (slice_get to_next.entries q ≡ Some e) ⊎ Later later_entries (length to_next.entries) q e → (HeadTick q e ⊎ HeadOwn q e) ⊎ Later later_entries (length to_next.entries) q e
  found_by q e (inl at) = inl (head_by q e (pick to_mid.entries from_mid.entries q e at))
  found_by q e (inr l) = inr l

  found : (q : ℕ) (e : Entry) → slice_get entries q ≡ Some e → (HeadTick q e ⊎ HeadOwn q e) ⊎ Later later_entries (length to_next.entries) q e
  found q e at = found_by q e (pick to_next.entries later_entries q e at)

  -- ---- the parts, by the place: at the head or after it

  the_within : (n : ℕ) (j : PlannedItem) (p : LineOutcome) → IsPlace items outs n j p → (length s.entries ≤ p.position) × (p.position ≤ length s.entries + length entries)
  the_within zero j p at =
      let position = d.position in
      of_head (λ x y. (length s.entries ≤ y.position) × (y.position ≤ length s.entries + length entries)) j p at
      (omega (arith, position, long_mid), omega (arith, position, long_next, long_is, all_long))
  the_within (suc n) j p at =
      let is = w.merged.within n j p (of_tail n j p at) in
      let low_end = is.0 in
      let high_end = is.1 in
      (omega (arith, low_end, long_mid, long_next), omega (arith, high_end, long_is, all_long))

  head_first : (m : ℕ) (j x : PlannedItem) (p y : LineOutcome) → IsPlace items outs zero j p → IsPlace rest outcomes m x y → (p.position ≤ length next.entries) × (length next.entries ≤ y.position)
  head_first m j x p y one two =
      let position = d.position in
      (of_head (λ k z. z.position ≤ length next.entries) j p one (omega (arith, position, long_next)), tail_past m x y two)

  the_ordered : (n m : ℕ) (j x : PlannedItem) (p y : LineOutcome) → IsPlace items outs n j p → IsPlace items outs m x y → n < m → p.position ≤ y.position
  the_ordered zero zero j x p y one two less = absurd (omega (arith, less))
  the_ordered (suc n) zero j x p y one two less = absurd (omega (arith, less))
  the_ordered zero (suc m) j x p y one two less = let both = head_first m j x p y one (of_tail m x y two) in let a = both.0 in let b = both.1 in omega (arith, a, b)
  the_ordered (suc n) (suc m) j x p y one two less = w.merged.ordered n m j x p y (of_tail n j p one) (of_tail m x y two) (omega (arith, less))

  head_under : (j : PlannedItem) (p : LineOutcome) → IsPlace items outs zero j p → Accepted zero j p → p.position < length next.entries
  head_under j p at accepts =
      let position = d.position in
      let more = longer (head_accepts j p at accepts) in
      of_head (λ k z. z.position < length next.entries) j p at (omega (arith, position, more))

  the_after : (n m : ℕ) (j x : PlannedItem) (p y : LineOutcome) → IsPlace items outs n j p → IsPlace items outs m x y → n < m → Accepted n j p → p.position < y.position
  the_after zero zero j x p y one two less accepts = absurd (omega (arith, less))
  the_after (suc n) zero j x p y one two less accepts = absurd (omega (arith, less))
  the_after zero (suc m) j x p y one two less accepts =
      let a = head_under j p one accepts in
      let b = tail_past m x y (of_tail m x y two) in
      omega (arith, a, b)
  the_after (suc n) (suc m) j x p y one two less accepts =
      w.merged.after_own n m j x p y (of_tail n j p one) (of_tail m x y two) (omega (arith, less)) (tail_accepts n j p (of_tail n j p one) accepts)

  the_answered : (n : ℕ) (j : PlannedItem) (p : LineOutcome) → IsPlace items outs n j p → IsLineSaidIn low high (prefix s entries p.position) (filed_before planned items outs n) j p.said
  the_answered zero j p at =
      of_head (λ x y. IsLineSaidIn low high (prefix s entries y.position) planned x y.said) j p at
      (subst (λ (u : State). IsLineSaidIn low high u planned i o.said) (sym at_head) (wider_line low middle low high d.mid planned i o.said (omega arith) over d.says))
  the_answered (suc n) j p at =
      subst (λ (u : State). IsLineSaidIn low high u (filed_before later_planned rest outcomes n) j p.said) (sym (at_tail p.position (tail_past n j p (of_tail n j p at))))
      (wider_line middle high low high (prefix next later_entries p.position) (filed_before later_planned rest outcomes n) j p.said under (omega arith) (w.merged.answered n j p (of_tail n j p at)))

  abbrev HasOwn : ℕ → PlannedItem → LineOutcome → Type 0
  HasOwn n j p = (e : Entry) × (slice_get entries (p.position - length s.entries) ≡ Some e) × IsLineEntry e (prefix s entries p.position) (filed_before planned items outs n) j p.said

  own_head : (made : IsLineMade d.mid planned i o.said next) → AcceptsLine d.mid planned i o.said → HasOwn zero i o
  own_head (inl still) accepts = absurd (still.1 accepts)
  own_head (inr own) accepts = (
    own.1.e,
    entry_stands s d.mid next t entries own.1.e o.position to_mid own.1.grown w.grows to_end.grown d.position,
    subst (λ (u : State). IsLineEntry own.1.e u planned i o.said) (sym at_head) own.1.its,
  )

  the_own : (n : ℕ) (j : PlannedItem) (p : LineOutcome) → IsPlace items outs n j p → Accepted n j p → HasOwn n j p
  the_own zero j p at accepts = of_head (λ x y. HasOwn zero x y) j p at (own_head d.made (head_accepts j p at accepts))
  the_own (suc n) j p at accepts =
      let place = of_tail n j p at in
      let own = w.merged.own n j p place (tail_accepts n j p place accepts) in
      let past = tail_past n j p place in (
        own.0,
        get_past to_next.entries later_entries (p.position - length next.entries) (p.position - length s.entries) (omega (arith, past, long_is)) ∙ own.1,
        subst (λ (u : State). IsLineEntry own.0 u (filed_before later_planned rest outcomes n) j p.said) (sym (at_tail p.position past)) own.2,
      )

  abbrev OwnedBy : ℕ → Entry → Type 0
  OwnedBy q e = (n : ℕ) × (j : PlannedItem) × (p : LineOutcome) × IsPlace items outs n j p × Accepted n j p × (p.position ≡ length s.entries + q) × IsLineEntry e (prefix s entries p.position) (filed_before planned items outs n) j p.said

  owned_by : (q k : ℕ) (call : Call) (reply : Reply) → (HeadTick q (entry k (what.Asked call reply)) ⊎ HeadOwn q (entry k (what.Asked call reply))) ⊎ Later later_entries (length to_next.entries) q (entry k (what.Asked call reply))
      → OwnedBy q (entry k (what.Asked call reply))
  owned_by q k call reply (inl (inl tick)) = absurd (tick_call k 1 tick.to call reply tick.is)
  owned_by q k call reply (inl (inr own)) = (
    zero,
    i,
    o,
    head_place,
    subst (λ (u : State). AcceptsLine u planned i o.said) (sym at_head) own.accepts,
    own.stands,
    subst (λ (u : State). IsLineEntry (entry k (what.Asked call reply)) u planned i o.said) (sym at_head) own.its,
  )
  owned_by q k call reply (inr later) =
      let r = w.merged.owned later.k k call reply later.at in
      let past = tail_past r.0 r.1 r.2 r.3 in
      let stands = r.5 in
      let is = later.is in (
        suc r.0,
        r.1,
        r.2,
        to_tail r.0 r.1 r.2 r.3,
        accepts_tail r.0 r.1 r.2 r.3 r.4,
        omega (arith, stands, is, long_is),
        subst (λ (u : State). IsLineEntry (entry k (what.Asked call reply)) u (filed_before later_planned rest outcomes r.0) r.1 r.2.said) (sym (at_tail r.2.position past)) r.6,
      )

  the_alone : (n m : ℕ) (j x : PlannedItem) (p y : LineOutcome) → IsPlace items outs n j p → IsPlace items outs m x y → Accepted n j p → Accepted m x y → p.position ≡ y.position → n ≡ m
  the_alone zero zero j x p y one two a b same = refl
  the_alone zero (suc m) j x p y one two a b same =
      let less = head_under j p one a in
      let past = tail_past m x y (of_tail m x y two) in
      absurd (omega (arith, less, past, same))
  the_alone (suc n) zero j x p y one two a b same =
      let less = head_under x y two b in
      let past = tail_past n j p (of_tail n j p one) in
      absurd (omega (arith, less, past, same))
  the_alone (suc n) (suc m) j x p y one two a b same =
      ap suc
      (w.merged.alone n m j x p y (of_tail n j p one) (of_tail m x y two) (tail_accepts n j p (of_tail n j p one) a) (tail_accepts m x y (of_tail m x y two) b) same)

  abbrev TickedFor : ℕ → ℕ → Type 0
  TickedFor q to = (n : ℕ) × (j : PlannedItem) × (p : LineOutcome) × IsPlace items outs n j p × LineComesAt to j × (p.position ≡ length s.entries + (q + 1))
      × ((m : ℕ) (x : PlannedItem) (y : LineOutcome) → IsPlace items outs m x y → m < n → y.position ≤ length s.entries + q)

  before_later : (q k n : ℕ) → q ≡ length to_next.entries + k
      → ((m : ℕ) (x : PlannedItem) (y : LineOutcome) → IsPlace rest outcomes m x y → m < n → y.position ≤ length next.entries + k)
      → (m : ℕ) (x : PlannedItem) (y : LineOutcome) → IsPlace items outs m x y → m < suc n → y.position ≤ length s.entries + q
  before_later q k n is firsts zero x y at less =
      let position = d.position in
      of_head (λ a z. z.position ≤ length s.entries + q) x y at (omega (arith, position, long_next, long_is, is))
  before_later q k n is firsts (suc m) x y at less = let under = firsts m x y (of_tail m x y at) (omega (arith, less)) in omega (arith, under, long_is, is)

  ticks_by : (q k to : ℕ) → (HeadTick q (entry k (what.Tick to)) ⊎ HeadOwn q (entry k (what.Tick to))) ⊎ Later later_entries (length to_next.entries) q (entry k (what.Tick to)) → TickedFor q to
  ticks_by q k to (inl (inl tick)) = (
    zero,
    i,
    o,
    head_place,
    subst (λ (n : ℕ). LineComesAt n i) (sym (same_tick k 1 to tick.to tick.is)) tick.comes,
    tick.stands,
    λ m x y at less. absurd (omega (arith, less)),
  )
  ticks_by q k to (inl (inr own)) = absurd (no_tick k to d.mid planned i o.said own.its)
  ticks_by q k to (inr later) =
      let r = w.merged.ticks later.k k to later.at in
      let stands = r.5 in
      let is = later.is in (
        suc r.0,
        r.1,
        r.2,
        to_tail r.0 r.1 r.2 r.3,
        r.4,
        omega (arith, stands, is, long_is),
        before_later q later.k r.0 is r.6,
      )

  the_counts : (n : ℕ) (j : PlannedItem) (p : LineOutcome) → IsPlace items outs n j p → (a : ℕ) → IsLineUnkept a p.said → IsWithin low high a
  the_counts zero j p at a is =
      let within = carried a (to_head (λ x y. IsLineUnkept a y.said) j p at is) in
      let one = within.0 in
      let two = within.1 in
      (one, omega (arith, two, over))
  the_counts (suc n) j p at a is = let within = w.counts n j p (of_tail n j p at) a is in let one = within.0 in let two = within.1 in (omega (arith, under, one), two)

  the_rise : (n m : ℕ) (j x : PlannedItem) (p y : LineOutcome) (a b : ℕ) → IsPlace items outs n j p → IsPlace items outs m x y → n < m → IsLineUnkept a p.said → IsLineUnkept b y.said → a < b
  the_rise zero zero j x p y a b one two less is is' = absurd (omega (arith, less))
  the_rise (suc n) zero j x p y a b one two less is is' = absurd (omega (arith, less))
  the_rise zero (suc m) j x p y a b one two less is is' =
      let first = (carried a (to_head (λ k z. IsLineUnkept a z.said) j p one is)).1 in
      let last = (w.counts m x y (of_tail m x y two) b is').0 in
      omega (arith, first, last)
  the_rise (suc n) (suc m) j x p y a b one two less is is' = w.merged.counts_rise n m j x p y a b (of_tail n j p one) (of_tail m x y two) (omega (arith, less)) is is'

  -- pending plans

  mid_pending : (ticked : (d.mid ≡ s) ⊎ TickedLine i s d.mid) (id : ℕ) (plan : Plan) → pending_plan_at id d.mid ≡ Some plan → pending_plan_at id s ≡ Some plan
  mid_pending (inl is) id plan pending = subst (λ (u : State). pending_plan_at id u ≡ Some plan) is pending
  mid_pending (inr ticked) id plan pending = ticked_pending s 1 ticked.to id plan (subst (λ (u : State). pending_plan_at id u ≡ Some plan) (sym ticked.ticked.is) pending)

  made_by : (own : AcceptsLine d.mid planned i o.said × LineOwns d.mid planned i o.said next) (id : ℕ) (plan : Plan) → (pending_plan_at id d.mid ≡ Some plan) ⊎ IsProposedBy id plan own.1.e.what
      → (pending_plan_at id d.mid ≡ Some plan) ⊎ (AcceptsLine d.mid planned i o.said × LineProposes id plan planned i)
  made_by own id plan (inl same) = inl same
  made_by own id plan (inr by) = inr (own.0, entry_proposes own.1.e d.mid planned i o.said id plan own.1.its by)

  made_pending : (made : IsLineMade d.mid planned i o.said next) (id : ℕ) (plan : Plan) → pending_plan_at id next ≡ Some plan
      → (pending_plan_at id d.mid ≡ Some plan) ⊎ (AcceptsLine d.mid planned i o.said × LineProposes id plan planned i)
  made_pending (inl still) id plan pending = inl (subst (λ (u : State). pending_plan_at id u ≡ Some plan) still.0 pending)
  made_pending (inr own) id plan pending =
      made_by own id plan (next_pending d.mid own.1.e.lane own.1.e.what sound id plan (subst (λ (u : State). pending_plan_at id u ≡ Some plan) (sym own.1.is) pending))

  abbrev ProposedBefore : ℕ → ℕ → Plan → Type 0
  ProposedBefore position id plan = IsProposedBefore low high s planned items outs entries position id plan

  -- at the end of the head, or later

  head_proposed : (position id : ℕ) (plan : Plan) → length next.entries ≤ position → (pending_plan_at id d.mid ≡ Some plan) ⊎ (AcceptsLine d.mid planned i o.said × LineProposes id plan planned i)
      → (pending_plan_at id s ≡ Some plan) ⊎ ProposedBefore position id plan
  head_proposed position id plan past (inl same) = inl (mid_pending d.ticked id plan same)
  head_proposed position id plan past (inr by) =
      let place = d.position in
      let more = longer by.0 in
      inr (record {
        n = zero;
        i = i;
        o = o;
        at = head_place;
        accepts = subst (λ (u : State). AcceptsLine u planned i o.said) (sym at_head) by.0;
        earlier = omega (arith, place, more, past);
        proposes = by.1;
      })

  later_by : (position id : ℕ) (plan : Plan) → length next.entries ≤ position
      → (pending_plan_at id next ≡ Some plan) ⊎ IsProposedBefore middle high next later_planned rest outcomes later_entries position id plan
      → (pending_plan_at id s ≡ Some plan) ⊎ ProposedBefore position id plan
  later_by position id plan past (inl same) = head_proposed position id plan past (made_pending d.made id plan same)
  later_by position id plan past (inr r) =
      inr (record { n = suc r.n; i = r.i; o = r.o; at = to_tail r.n r.i r.o r.at; accepts = accepts_tail r.n r.i r.o r.at r.accepts; earlier = r.earlier; proposes = r.proposes })

  -- before the end of the head

  starts : (position : ℕ) → position ≡ length s.entries → prefix s entries position ≡ s
  starts position is =
      let none : position - length s.entries ≡ 0 = omega (arith, is) in
      ap (λ n. after_entries s (take n entries)) none ∙ first_leads s entries

  is_start : (ticked : (d.mid ≡ s) ⊎ TickedLine i s d.mid) (position : ℕ) → length s.entries ≤ position → position < length d.mid.entries → position ≡ length s.entries
  is_start (inl is) position from under = let long = ap (λ (u : State). length u.entries) is in absurd (omega (arith, long, from, under))
  is_start (inr ticked) position from under =
      let long = ap length ticked.ticked.grown ∙ length-append s.entries (entry 1 (what.Tick ticked.to) ∷ []) in
      omega (arith, long, from, under)

  early_by : (b : Bool) (position id : ℕ) (plan : Plan) → nat_le (length d.mid.entries) position ≡ b → length s.entries ≤ position → position ≤ length d.mid.entries
      → pending_plan_at id (prefix s entries position) ≡ Some plan → pending_plan_at id s ≡ Some plan
  early_by true position id plan test from under pending =
      let past = leb-true (length d.mid.entries) position test in
      let place = d.position in
      let here : position ≡ o.position = omega (arith, past, under, place) in
      mid_pending d.ticked id plan (subst (λ (u : State). pending_plan_at id u ≡ Some plan) (ap (λ n. prefix s entries n) here ∙ at_head) pending)
  early_by false position id plan test from under pending =
      let before = leb-false (length d.mid.entries) position test in
      subst (λ (u : State). pending_plan_at id u ≡ Some plan) (starts position (is_start d.ticked position from before)) pending

  is_early : (made : IsLineMade d.mid planned i o.said next) (position : ℕ) → position < length next.entries → position ≤ length d.mid.entries
  is_early (inl still) position under = let long = ap (λ (u : State). length u.entries) still.0 in omega (arith, long, under)
  is_early (inr own) position under = let long = ap length own.1.grown ∙ length-append d.mid.entries (own.1.e ∷ []) in omega (arith, long, under)

  proposed_by : (b : Bool) (position id : ℕ) (plan : Plan) → nat_le (length next.entries) position ≡ b → length s.entries ≤ position → position ≤ length s.entries + length entries
      → pending_plan_at id (prefix s entries position) ≡ Some plan → (pending_plan_at id s ≡ Some plan) ⊎ ProposedBefore position id plan
  proposed_by true position id plan test from upto pending =
      let past = leb-true (length next.entries) position test in
      later_by position id plan past
      (w.merged.proposed position id plan past (omega (arith, upto, long_is, all_long)) (subst (λ (u : State). pending_plan_at id u ≡ Some plan) (at_tail position past) pending))
  proposed_by false position id plan test from upto pending =
      inl (early_by (nat_le (length d.mid.entries) position) position id plan refl from (is_early d.made position (leb-false (length next.entries) position test)) pending)

  one_more : InHistory low high s planned items outs t
  one_more = record {
    grows = to_end;
    merged = record {
      whole = ap suc w.merged.whole;
      within = the_within;
      ordered = the_ordered;
      after_own = the_after;
      answered = the_answered;
      own = the_own;
      owned = λ q k call reply at. owned_by q k call reply (found q (entry k (what.Asked call reply)) at);
      alone = the_alone;
      ticks = λ q k to at. ticks_by q k to (found q (entry k (what.Tick to)) at);
      counts_rise = the_rise;
      passes = λ n at actor key number id p place accepts new.
          turn_accepted (comes_to (prefix s entries p.position) (filed_before planned items outs n) (Turn at actor key number id)) (prefix s entries p.position) (filed_before planned items outs n) at actor key number id p.said refl accepts new;
      proposed = λ position id plan from upto pending. proposed_by (nat_le (length next.entries) position) position id plan refl from upto pending;
    };
    counts = the_counts;
  }

-- ---- all lines

no_place : (n : ℕ) (i : PlannedItem) (o : LineOutcome) → IsPlace [] [] n i o → ⊥
no_place n i o at = none_at n i at.item_is

no_lines : (low high : ℕ) (s : State) (planned : List Filed) → InHistory low high s planned [] [] s
no_lines low high s planned = record {
  grows = record { entries = []; grown = sym (append-nil s.entries); legal = refl };
  merged = record {
    whole = refl;
    within = λ n i o at. absurd (no_place n i o at);
    ordered = λ n m i j o p one two less. absurd (no_place n i o one);
    after_own = λ n m i j o p one two less accepts. absurd (no_place n i o one);
    answered = λ n i o at. absurd (no_place n i o at);
    own = λ n i o at accepts. absurd (no_place n i o at);
    owned = λ q k call reply at. absurd (none_at q (entry k (what.Asked call reply)) at);
    alone = λ n m i j o p one two a b same. absurd (no_place n i o one);
    ticks = λ q k to at. absurd (none_at q (entry k (what.Tick to)) at);
    counts_rise = λ n m i j o p a b one two less is is'. absurd (no_place n i o one);
    passes = λ n at actor key number id o place accepts new. absurd (no_place n (Ok (Turn at actor key number id)) o place);
    proposed = λ position id plan from upto pending. inl (subst (λ (u : State). pending_plan_at id u ≡ Some plan) (none_leads s (position - length s.entries) [] refl) pending);
  };
  counts = λ n i o at a is. absurd (no_place n i o at);
}

-- the counts of the first choice, and those of the others

record Split (low : ℕ) (xs ys : List ℕ) (high : ℕ) : Type 0 where
  middle : ℕ
  first : Rise low xs middle
  last : Rise middle ys high

split_on : (low n : ℕ) (xs ys : List ℕ) (high : ℕ) → low < n → Split n xs ys high → Split low (n ∷ xs) ys high
split_on low n xs ys high less s = record { middle = s.middle; first = (less, s.first); last = s.last }

rise_split : (low : ℕ) (xs ys : List ℕ) (high : ℕ) → Rise low (xs ++ ys) high → Split low xs ys high
rise_split low [] ys high rise = record { middle = low; first = omega arith; last = rise }
rise_split low (n ∷ xs) ys high rise = split_on low n xs ys high rise.0 (rise_split n xs ys high rise.1)

record FirstCounted (low : ℕ) (choices : List Choice) (high : ℕ) : Type 0 where
  middle : ℕ
  first : Counted low (first_choice choices ∷ []) middle
  last : Counted middle (later_choices choices) high

first_counted : (low : ℕ) (choices : List Choice) (high : ℕ) → Counted low choices high → FirstCounted low choices high
first_counted low [] high counted = record { middle = low; first = omega arith; last = counted }
first_counted low (c ∷ cs) high counted =
    let s = rise_split low (numbers_of c) (concat (map numbers_of cs)) high counted in
    record { middle = s.middle; first = subst (λ ns. Rise low ns s.middle) (sym (append-nil (numbers_of c))) s.first; last = s.last }

-- the state after the tick of a line is sound

ticked_within : (i : PlannedItem) (to : ℕ) → LineComesAt to i → IsLineFormed i → to ≤ 68_374_079
ticked_within (Err fault) to comes formed = absurd comes
ticked_within (Ok l) to comes formed = subst (λ n. n ≤ 68_374_079) comes (forms_moment l formed)

mid_sound : (opening s mid : State) (i : PlannedItem) → (mid ≡ s) ⊎ TickedLine i s mid → IsBoard opening s → IsLineFormed i → Sound mid
mid_sound opening s mid i (inl is) board formed = subst Sound (sym is) board.sound
mid_sound opening s mid i (inr ticked) board formed =
    (tick_keeps opening s mid 1 ticked.to board ticked.ticked.may.0 (ticked_within i ticked.to ticked.comes formed) (sym ticked.ticked.is)).sound

rise_over : (low : ℕ) (choices : List Choice) (high : ℕ) → Counted low choices high → low ≤ high
rise_over low choices high counted = rise_within low (concat (map numbers_of choices)) high counted

lines_in : (low high : ℕ) (opening s : State) (planned : List Filed) (items : List PlannedItem) (choices : List Choice) → Counted low choices high → IsBoard opening s → AllByRecursion IsLineFormed items
    → AllByRecursion HasFormedPlan planned → InHistory low high s planned items (lines_with s planned items choices) (after_lines s planned items choices)
lines_in low high opening s planned [] choices counted board formed all = no_lines low high s planned
lines_in low high opening s planned (i ∷ rest) choices counted board formed all =
    let c : Choice = first_choice choices in
    let f : FirstCounted low choices high = first_counted low choices high counted in
    let g : LineGiven = line_with c s planned i in
    let d : LineDid low f.middle s planned i g = line_did low f.middle s planned i c f.first in
    one_more low f.middle high s planned i g d (rise_over low (c ∷ []) f.middle f.first) (rise_over f.middle (later_choices choices) high f.last) (λ n is. d.carries opening board formed.0 all n is)
    (mid_sound opening s d.mid i d.ticked board formed.0) rest
    (lines_with g.state (filed_by i g.outcome.said planned) rest (later_choices choices)) (after_lines g.state (filed_by i g.outcome.said planned) rest (later_choices choices))
    (lines_in f.middle high opening g.state (filed_by i g.outcome.said planned) rest (later_choices choices) f.last (d.keeps opening board formed.0 all) formed.1 (later_formed i g.outcome.said planned formed.0 all))

-- the run of a script is in one history
pub run_in_history : (before after : KeptAt) (opening s : State) (script : List ℕ) (t : State) (text : List ℕ) → IsPlannedRun before after s script t text → IsBoard opening s
    → AllByRecursion IsLineFormed (planned_items (lines_of script)) → IsPlannedHistory before.faults after.faults s script t text
run_in_history before after opening s script t text run board formed =
    let items : List PlannedItem = planned_items (lines_of script) in
    let all = lines_in before.faults after.faults opening s [] items run.choices run.counted board formed tt in
    record {
      outcomes = lines_with s [] items run.choices;
      says = run.says;
      entries = all.grows.entries;
      grown = ap (λ (u : State). u.entries) run.state ∙ all.grows.grown;
      legal = subst (λ (u : State). Legal s all.grows.entries u) (sym run.state) all.grows.legal;
      merged = all.merged;
    }

-- a run as a call gives it, of the lines that code found in a script
given_planned : {V E : Type 0} (r : Result V E) (text : V → List ℕ) (before after : KeptAt) (opening s : State) (script : List ℕ) (t : State)
    → IfOk r (λ v. IsPlannedRun before after s script t (text v)) → OnOk r (AllByRecursion IsLineFormed (planned_items (lines_of script))) → IsBoard opening s
    → IfOk r (λ v. IsPlanned before after s script t (text v))
given_planned (Ok v) text before after opening s script t run formed board = record { run = run; history = run_in_history before after opening s script t (text v) run board formed }
given_planned (Err e) text before after opening s script t run formed board = tt

pub found_planned : {V E : Type 0} (r : Result V E) (text : V → List ℕ) (before after : KeptAt) (opening s : State) (script : List ℕ) (lines : List (List ℕ)) (t : State) → lines ≡ lines_of script
    → IfOk r (λ v. IsPlannedRunOf before after s (planned_items lines) t (text v)) → OnOk r (AllByRecursion IsLineFormed (planned_items lines)) → IsBoard opening s
    → IfOk r (λ v. IsPlanned before after s script t (text v))
found_planned r text before after opening s script lines t same run formed board =
    given_planned r text before after opening s script t (subst (λ (ls : List (List ℕ)). IfOk r (λ v. IsPlannedRunOf before after s (planned_items ls) t (text v))) same run)
    (subst (λ (ls : List (List ℕ)). OnOk r (AllByRecursion IsLineFormed (planned_items ls))) same formed) board

-- ---- the same where the keeper's faults are counted from before

module _ (less low high : ℕ) (s : State) (planned : List Filed) (items : List PlannedItem) (outcomes : List LineOutcome) (entries : List Entry) (under : less ≤ low) where
  proposed_lower : (position id : ℕ) (plan : Plan) → (pending_plan_at id s ≡ Some plan) ⊎ IsProposedBefore low high s planned items outcomes entries position id plan
      → (pending_plan_at id s ≡ Some plan) ⊎ IsProposedBefore less high s planned items outcomes entries position id plan
  proposed_lower position id plan (inl same) = inl same
  proposed_lower position id plan (inr r) = inr (record { n = r.n; i = r.i; o = r.o; at = r.at; accepts = r.accepts; earlier = r.earlier; proposes = r.proposes })

  merged_lower : AreInPlannedHistory low high s planned items outcomes entries → AreInPlannedHistory less high s planned items outcomes entries
  merged_lower m = record {
    whole = m.whole;
    within = m.within;
    ordered = m.ordered;
    after_own = m.after_own;
    answered = λ n i o at. wider_line low high less high (prefix s entries o.position) (filed_before planned items outcomes n) i o.said under (omega arith) (m.answered n i o at);
    own = m.own;
    owned = m.owned;
    alone = m.alone;
    ticks = m.ticks;
    counts_rise = m.counts_rise;
    passes = m.passes;
    proposed = λ position id plan from upto pending. proposed_lower position id plan (m.proposed position id plan from upto pending);
  }

pub planned_lower : (less : ℕ) (before after : KeptAt) (s : State) (script : List ℕ) (t : State) (text : List ℕ) → less ≤ before.faults → IsPlanned before after s script t text
    → IsPlanned (record before { faults = less }) after s script t text
planned_lower less before after s script t text under is = record {
  run = run_lower less before after s (planned_items (lines_of script)) t text under is.run;
  history = record {
    outcomes = is.history.outcomes;
    says = is.history.says;
    entries = is.history.entries;
    grown = is.history.grown;
    legal = is.history.legal;
    merged = merged_lower less before.faults after.faults s [] (planned_items (lines_of script)) is.history.outcomes is.history.entries under is.history.merged;
  };
}
