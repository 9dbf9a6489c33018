-- How each outcome of a script of planned redispatches follows from its position in the one history, and from the plans
-- that earlier lines filed.
use Rattle.std.specs.Prelude.{◌≡◌, ◌⊎◌, ℕ, ◌+◌, ◌-◌, ◌<◌, ◌≤◌, nat_le, MatchBool, List, [], ◌++◌, length, take, slice_get, Some, None, Ok, Err}
use Rattle.asks.specs.declared.call.Call.{Call}
use Rattle.asks.specs.declared.reply.Reply.{Reply}
use Rattle.desk.specs.Keeping.{KeptAt}
use Rattle.desk.specs.Positions.{Accepts, IsAnswered, IsEntryOf, IsRefusedBy, IsUnkept, prefix}
use Rattle.desk.specs.Run.{lines_of}
use Rattle.desk_json.specs.declared.planned.PlannedLine.TheVariants.{Asked, File, Check, Turn}
use Rattle.desk_state.specs.Legal.{Legal}
use Rattle.desk_state.specs.Requests.{kept_at}
use Rattle.desk_state.specs.State.{State, grounds_of}
use Rattle.desk_state.specs.Step.{entry, tick_to}
use Rattle.desk_state.specs.Texts.{closing}
use Rattle.desk_state.specs.declared.entry.Entry.{Entry}
use Rattle.desk_state.specs.declared.entry.What.TheVariants as what
use Rattle.desk_state.specs.declared.lanes.Item.TheVariants as item
use Rattle.desk_state.specs.declared.lanes.Said.{Said}
use Rattle.desk_state.specs.declared.lanes.Said.TheVariants as said
use Rattle.plan.specs.declared.flights.Plan.{Plan}
use Rattle.redispatch.specs.Filed.{filed_for}
use Rattle.redispatch.specs.declared.planned.Filed.{Filed}
use Rattle.scripts.specs.PlannedRuns.{IsPlannedRun, PlannedItem, filed_in, line_at, lines_text, planned_items}
use Rattle.scripts.specs.PlannedTests.{comes_to, final_findings}
use Rattle.scripts.specs.Proposals.{Proposes, pending_plan_at}
use Rattle.scripts.specs.declared.planned_said.Came.{Came}
use Rattle.scripts.specs.declared.planned_said.Came.TheVariants.{Says, Makes}
use Rattle.scripts.specs.declared.planned_said.LineOutcome.{LineOutcome}
use Rattle.scripts.specs.declared.planned_said.LineSaid.{LineSaid}
use Rattle.scripts.specs.declared.planned_said.LineSaid.TheVariants as line

-- ---- the answer to a line in a state

-- what is said has a property, and could be said to a call
abbrev pub OnSaid : (Said → Type 0) → LineSaid → Type 0
OnSaid P (line.Said says) = P says
OnSaid P (line.Refused why) = ⊥

-- the refusal `Unkept` with this count of the keeper's faults
abbrev pub IsLineUnkept : ℕ → LineSaid → Type 0
IsLineUnkept faults says = OnSaid (IsUnkept faults) says

-- What a line came to is said. Or its call gets its answer, or `Unkept` if that answer adds an entry.
abbrev pub IsCame : ℕ → ℕ → State → Came → LineSaid → Type 0
IsCame low high u (Says x) says = says ≡ x
IsCame low high u (Makes call) says = OnSaid (IsAnswered low high 1 u call) says

-- The answer to a line in a state, over the plans that are filed. A line with a later moment, whose tick wasn't made,
-- gets the tick's refusal. Counts in refusals `Unkept` are above `low` and at most `high`.
abbrev pub IsLineSaidIn : ℕ → ℕ → State → List Filed → PlannedItem → LineSaid → Type 0
IsLineSaidIn low high u planned (Err fault) says = says ≡ line.Said (said.Bad fault)
IsLineSaidIn low high u planned (Ok l) says =
    MatchBool (nat_le (line_at l) u.moment) (IsCame low high u (comes_to u planned l) says) (OnSaid (IsRefusedBy low high (tick_to u 1 (line_at l)).reply) says)

abbrev pub AcceptsCame : State → ℕ → Came → LineSaid → Type 0
AcceptsCame u at (Says x) says = ⊥
AcceptsCame u at (Makes call) says = OnSaid (Accepts 1 u (item.Call at call)) says

-- The line comes to an accepted call: its moment has come, the call's answer adds an entry, and this is its reply. A
-- line that files or checks never does.
abbrev pub AcceptsLine : State → List Filed → PlannedItem → LineSaid → Type 0
AcceptsLine u planned (Err fault) says = ⊥
AcceptsLine u planned (Ok l) says = AcceptsCame u (line_at l) (comes_to u planned l) says

abbrev pub IsEntryOfCame : Entry → ℕ → Came → LineSaid → Type 0
IsEntryOfCame e at (Says x) says = ⊥
IsEntryOfCame e at (Makes call) says = OnSaid (IsEntryOf e 1 (item.Call at call)) says

-- The entry of the call to which a line comes, without its key, and its reply. The call of a turn is its amendment.
abbrev pub IsLineEntry : Entry → State → List Filed → PlannedItem → LineSaid → Type 0
IsLineEntry e u planned (Err fault) says = ⊥
IsLineEntry e u planned (Ok l) says = IsEntryOfCame e (line_at l) (comes_to u planned l) says

-- a line at this moment
abbrev pub LineComesAt : ℕ → PlannedItem → Type 0
LineComesAt moment (Err fault) = ⊥
LineComesAt moment (Ok l) = line_at l ≡ moment

-- ---- the lines of a script

-- the line and the outcome at a place, from 0
pub record IsPlace (items : List PlannedItem) (outcomes : List LineOutcome) (n : ℕ) (i : PlannedItem) (o : LineOutcome) : Type 0 where
  pub item_is : slice_get items n ≡ Some i
  pub outcome_is : slice_get outcomes n ≡ Some o

-- the plans that were filed before the first line, and by the lines before a place
abbrev pub filed_before : List Filed → List PlannedItem → List LineOutcome → ℕ → List Filed
filed_before planned items outcomes n = filed_in planned (take n items) (take n outcomes)

-- this is the final plan that is filed for a release
pub record IsFinalPlan (planned : List Filed) (id : ℕ) (plan : Plan) : Type 0 where
  pub filed : Filed
  pub found : filed_for id planned ≡ Some filed
  pub plan_is : filed.plan ≡ plan

-- A line proposes a plan for a release: its call does, or it is a turn, and this is the final plan of the release.
abbrev pub LineProposes : ℕ → Plan → List Filed → PlannedItem → Type 0
LineProposes id plan planned (Err fault) = ⊥
LineProposes id plan planned (Ok (Asked at call)) = Proposes id plan call.ask
LineProposes id plan planned (Ok (File at actor key release leg last)) = ⊥
LineProposes id plan planned (Ok (Check at actor key release)) = ⊥
LineProposes id plan planned (Ok (Turn at actor key number release)) = (release ≡ id) × IsFinalPlan planned id plan

-- a turn whose number had no kept reply: a final plan was filed, and it fails no rule at this moment
pub record TurnPasses (u : State) (planned : List Filed) (id : ℕ) : Type 0 where
  pub filed : Filed
  pub found : filed_for id planned ≡ Some filed
  pub good : final_findings (grounds_of u) filed ≡ []

module _ (low high : ℕ) (s : State) (planned : List Filed) (items : List PlannedItem) (outcomes : List LineOutcome) (entries : List Entry) where
  -- the line at a place is accepted in the state at its position
  abbrev pub AcceptsAt : ℕ → PlannedItem → LineOutcome → Type 0
  AcceptsAt n i o = AcceptsLine (prefix s entries o.position) (filed_before planned items outcomes n) i o.said

  -- the entry is that of the line at a place
  abbrev pub IsEntryAt : Entry → ℕ → PlannedItem → LineOutcome → Type 0
  IsEntryAt e n i o = IsLineEntry e (prefix s entries o.position) (filed_before planned items outcomes n) i o.said

  abbrev pub At : ℕ → PlannedItem → LineOutcome → Type 0
  At n i o = IsPlace items outcomes n i o

  -- an accepted line with an earlier position proposed the plan
  pub record IsProposedBefore (position id : ℕ) (plan : Plan) : Type 0 where
    pub n : ℕ
    pub i : PlannedItem
    pub o : LineOutcome
    pub at : At n i o
    pub accepts : AcceptsAt n i o
    pub earlier : o.position < position
    pub proposes : LineProposes id plan (filed_before planned items outcomes n) i

  -- Lines in a history. The entries follow the state `s`. The keeper's count of faults is `low` before them and `high`
  -- after them.
  pub record AreInPlannedHistory : Type 0 where
    -- each line has an outcome
    pub whole : length outcomes ≡ length items
    -- each position is that of an entry, or right after the last
    pub within : (n : ℕ) (i : PlannedItem) (o : LineOutcome) → At n i o → (length s.entries ≤ o.position) × (o.position ≤ length s.entries + length entries)
    -- the positions never fall
    pub ordered : (n m : ℕ) (i j : PlannedItem) (o p : LineOutcome) → At n i o → At m j p → n < m → o.position ≤ p.position
    -- after an accepted line, the next positions are greater
    pub after_own : (n m : ℕ) (i j : PlannedItem) (o p : LineOutcome) → At n i o → At m j p → n < m → AcceptsAt n i o → o.position < p.position
    -- each outcome is the answer to its line in the state at its position, over the plans that earlier lines filed
    pub answered : (n : ℕ) (i : PlannedItem) (o : LineOutcome) → At n i o → IsLineSaidIn low high (prefix s entries o.position) (filed_before planned items outcomes n) i o.said
    -- an accepted line has its own entry, at its position
    pub own : (n : ℕ) (i : PlannedItem) (o : LineOutcome) → At n i o → AcceptsAt n i o
        → (e : Entry) × (slice_get entries (o.position - length s.entries) ≡ Some e) × IsEntryAt e n i o
    -- each entry of a call belongs to an accepted line
    pub owned : (q k : ℕ) (call : Call) (reply : Reply) → slice_get entries q ≡ Some (entry k (what.Asked call reply))
        → (n : ℕ) × (i : PlannedItem) × (o : LineOutcome) × At n i o × AcceptsAt n i o × (o.position ≡ length s.entries + q) × IsEntryAt (entry k (what.Asked call reply)) n i o
    -- no entry belongs to two accepted lines
    pub alone : (n m : ℕ) (i j : PlannedItem) (o p : LineOutcome) → At n i o → At m j p → AcceptsAt n i o → AcceptsAt m j p → o.position ≡ p.position → n ≡ m
    -- a tick is made for a line with its moment, which is answered right after the tick
    pub ticks : (q k to : ℕ) → slice_get entries q ≡ Some (entry k (what.Tick to))
        → (n : ℕ) × (i : PlannedItem) × (o : LineOutcome) × At n i o × LineComesAt to i × (o.position ≡ length s.entries + (q + 1))
        × ((m : ℕ) (j : PlannedItem) (p : LineOutcome) → At m j p → m < n → p.position ≤ length s.entries + q)
    -- the counts in refusals `Unkept` rise
    pub counts_rise : (n m : ℕ) (i j : PlannedItem) (o p : LineOutcome) (a b : ℕ) → At n i o → At m j p → n < m → IsLineUnkept a o.said → IsLineUnkept b p.said → a < b
    -- a turn whose number was new is accepted only if the final plan fails no rule at that moment
    pub passes : (n at : ℕ) (actor key : List ℕ) (number id : ℕ) (o : LineOutcome) → At n (Ok (Turn at actor key number id)) o → AcceptsAt n (Ok (Turn at actor key number id)) o
        → kept_at actor number (prefix s entries o.position).kept ≡ None → TurnPasses (prefix s entries o.position) (filed_before planned items outcomes n) id
    -- A plan that is pending for a release, and that a concurrence would put in force, was pending before the first line,
    -- or an accepted line has proposed it: a draft, an amendment, or a turn, whose final plan it is.
    pub proposed : (position id : ℕ) (plan : Plan) → length s.entries ≤ position → position ≤ length s.entries + length entries → pending_plan_at id (prefix s entries position) ≡ Some plan
        → (pending_plan_at id s ≡ Some plan) ⊎ IsProposedBefore position id plan

-- One history leads from one state to another. The text has a line for each outcome and then the closing text, and each
-- outcome follows from its position in that history. Nothing is filed before the first line.
pub record IsPlannedHistory (low high : ℕ) (s : State) (script : List ℕ) (t : State) (text : List ℕ) : Type 0 where
  pub outcomes : List LineOutcome
  pub says : text ≡ lines_text outcomes ++ closing t
  pub entries : List Entry
  pub grown : t.entries ≡ s.entries ++ entries
  pub legal : Legal s entries t
  pub merged : AreInPlannedHistory low high s [] (planned_items (lines_of script)) outcomes entries

-- A run of a script: the text and the keeper's commits follow from its lines in turn, and the text by their positions in
-- one history.
pub record IsPlanned (before after : KeptAt) (s : State) (script : List ℕ) (t : State) (text : List ℕ) : Type 0 where
  pub run : IsPlannedRun before after s script t text
  pub history : IsPlannedHistory before.faults after.faults s script t text
