-- The result of a prepared step, and what `answer` may return.
use Rattle.std.specs.Prelude.{◌≡◌, ◌⊎◌, ℕ, ◌<◌}
use Rattle.asks.specs.declared.call.Call.{Call}
use Rattle.asks.specs.declared.kept.KeptReply.{KeptReply}
use Rattle.asks.specs.declared.reply.Reply.TheVariants.{Done}
use Rattle.board.specs.Prepare.{installed}
use Rattle.board.specs.declared.prepared.Prepared.{Prepared}
use Rattle.desk_state.specs.Lanes as lanes
use Rattle.desk_state.specs.State.{State}
use Rattle.desk_state.specs.Step.{Stepped, tick_to}
use Rattle.desk_state.specs.declared.lanes.Item.{Item}
use Rattle.desk_state.specs.declared.lanes.Said.TheVariants as said
use Rattle.desk.specs.Keeping.{Choice, Given, IsGiven, GivenBetween, answer_with, asked_item, asked_with, item_with}
use Rattle.desk.specs.Seen.{DeskSeen}
use Rattle.desk.specs.declared.answering.Answered.{Answered}
use Rattle.desk.specs.declared.answering.AnsweredWith.{AnsweredWith}
use Rattle.desk.specs.declared.settling.Settled.{Settled}

-- a prepared step: its reply, the state once it is installed, and its notices
abbrev pub stepped_by : State → Prepared → Stepped
stepped_by s p = record { reply = p.reply; state = installed p s; notices = p.notices }

-- the reply, the state and the notices are those of the step
pub record IsSettled (r : Settled) (s : State) (t : Stepped) : Type 0 where
  pub reply : r.reply ≡ t.reply
  pub state : s ≡ t.state
  pub notices : r.notices ≡ t.notices

-- at which steps of the call the keeper failed
abbrev pub choice_of : AnsweredWith → Choice
choice_of j = record { tick = j.tick; call = j.call }

-- memory ran out: the state is as before, or as after the tick
abbrev pub MayHaveTicked : ℕ → ℕ → State → State → Type 0
MayHaveTicked lane at s t = (t ≡ s) ⊎ ((s.moment < at) × (t ≡ (tick_to s lane at).state))

-- ---- answers

-- the answer and the state after it are those given
abbrev pub Gives : Given → State → Answered → Type 0
Gives given t a = IsGiven given t a.outcome a.ticked a.called

-- The answer to a call of a lane at a moment, under some choice that the keeper's counts allow, with the commits it
-- requested, of which each failed exactly where the choice says so.
abbrev pub AnswersCall : ℕ → ℕ → Call → DeskSeen → DeskSeen → Answered → Type 0
AnswersCall lane at call old new a =
    GivenBetween old.keeper new.keeper (λ c. asked_with c lane old.state at call) (λ c. answer_with c lane old.state at call) new.state a.outcome a.ticked a.called

-- the same for an item
abbrev pub AnswersItem : ℕ → Item → DeskSeen → DeskSeen → Answered → Type 0
AnswersItem lane i old new a =
    GivenBetween old.keeper new.keeper (λ c. asked_item c lane old.state i) (λ c. item_with c lane old.state i) new.state a.outcome a.ticked a.called

-- the outcome and the state after it are those of a lane over a keeper that never fails
abbrev pub IsSaid : lanes.Answered → State → Answered → Type 0
IsSaid lane_says t a = (a.outcome ≡ lane_says.outcome) × (t ≡ lane_says.state)

-- a repeated command gets its original reply, and changes nothing
abbrev pub done_again : KeptReply → State → lanes.Answered
done_again k s = lanes.said_at s (said.Reply (Done k.done)) s
