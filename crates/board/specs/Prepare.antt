-- A prepared step, and the state after it is installed.
use Rattle.std.specs.Prelude.{◌≡◌, Bool, Option, IfSome}
use Rattle.desk_io.specs.Rows.{Rows, changed_by}
use Rattle.row_changes.specs.Rows.{AreKept}
use Rattle.desk_state.specs.State.{State}
use Rattle.desk_state.specs.Events.{effected}
use Rattle.desk_state.specs.Step.{Stepped, kept_of}
use Rattle.desk_state.specs.Sound.{IsBoard}
use Rattle.desk_state.specs.Contents.{Held}
use Rattle.desk_state.specs.Install.{MayPut, with_events}
use Rattle.desk_state.specs.declared.event.Event.{Event}
use Rattle.desk_state.specs.declared.effect.Effect.{Effect}
use Rattle.board.specs.declared.prepared.Prepared.{Prepared}
use Rattle.board.specs.declared.prepared.Installed.{Installed}
use Rattle.board.specs.declared.steps.Recorded.{Recorded}

-- the state after a prepared step is installed
unfoldable pub installed : Prepared → State → State
installed p s = with_events p.event s

-- the reply, the next state and the notices of a prepared step are those of this step
pub record IsStepped (s : State) (p : Prepared) (stepped : Stepped) : Type 0 where
  pub reply : p.reply ≡ stepped.reply
  pub state : installed p s ≡ stepped.state
  pub notices : p.notices ≡ stepped.notices

-- the reply and the notices are those of this step
pub record IsAnswered (i : Installed) (stepped : Stepped) : Type 0 where
  pub reply : i.reply ≡ stepped.reply
  pub notices : i.notices ≡ stepped.notices

-- The changes of a prepared step lead from the rows of a state to the rows of the next state.
unfoldable pub KeepsRows : State → Prepared → Type 0
KeepsRows s p = (rows : Rows) → AreKept rows s → AreKept (changed_by p.changes.items rows) (installed p s)

-- an event may be installed without memory
abbrev pub MayInstall : Held → Option Event → Type 0
MayInstall held event = IfSome event (MayPut held)

-- the kept reply is the one that goes with the entry, after the effect
abbrev pub IsRecordedOf : State → Effect → Recorded → Type 0
IsRecordedOf s effect r = r.kept ≡ kept_of (effected effect s) r.entered.what

-- a prepared step may be installed, and keeps the invariant of a board
pub record IsReady (opening : State) (held : Held) (p : Prepared) : Type 0 where
  pub may : MayInstall held p.event
  pub keeps : IsBoard opening (installed p held.state)

-- The model of a board: the state in which it opened, its state, and the prepared step that may be installed without
-- memory. The flag listed is true if it stores the entries of its history, and doesn't only count them.
pub record Shown : Type 0 where
  pub opening : State
  pub state : State
  pub room : Option Prepared
  pub listed : Bool

abbrev pub shown : State → State → Option Prepared → Bool → Shown
shown opening s room listed = record { opening = opening; state = s; room = room; listed = listed }
