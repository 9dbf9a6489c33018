-- How the desk installs an event: the memory that it needs first, and the state afterwards.
use Rattle.std.specs.Prelude.{◌≡◌, ℕ, ◌<◌, ◌≤◌, true, IsTrue, All, List, [], ◌∷◌, ◌++◌, length, option_to_list, Option, None, Some, IfSome}
use Rattle.std.specs.List.{AllByRecursion}
use Rattle.alerts.specs.declared.alert.Alert.{Alert}
use Rattle.asks.specs.declared.kept.KeptReply.{KeptReply}
use Rattle.asks.specs.Forms.{FloorsRise}
use Rattle.deferrals.specs.Held.{OpenDeferrals, IsNewest}
use Rattle.deferrals.specs.declared.items.Deferral.{Deferral}
use Rattle.facts.specs.Reading.{IsRead}
use Rattle.facts.specs.Reports.{Admissions, room_for}
use Rattle.facts.specs.declared.report.Report.{Report}
use Rattle.release_index.specs.Changes.{MayChange}
use Rattle.release_index.specs.declared.change.OnReleases.{OnReleases}
use Rattle.release_index.specs.declared.change.OnReleases.TheVariants as on_releases
use Rattle.desk_state.specs.Contents.{Held, RoomFor, state_of}
use Rattle.desk_state.specs.Events.{effected, put_changes}
use Rattle.desk_state.specs.State.{State}
use Rattle.desk_state.specs.Step.{counted}
use Rattle.desk_state.specs.declared.change.AlertChange.{AlertChange}
use Rattle.desk_state.specs.declared.effect.Effect.{Effect}
use Rattle.desk_state.specs.declared.effect.OnDeferrals.{OnDeferrals}
use Rattle.desk_state.specs.declared.effect.OnDeferrals.TheVariants as on_deferrals
use Rattle.desk_state.specs.declared.event.Event.{Event}
use Rattle.desk_state.specs.declared.holdings.Holdings.{Holdings}

-- ---- the state after an event

abbrev pub with_event : Event → State → State
with_event e s = record (effected e.effect s) {
  counters = counted e.entered.what (effected e.effect s).counters;
  alerts = put_changes e.changes.items s.alerts;
  kept = (effected e.effect s).kept ++ option_to_list e.kept;
  entries = (effected e.effect s).entries ++ e.entered ∷ [];
}

abbrev pub with_events : Option Event → State → State
with_events None s = s
with_events (Some e) s = with_event e s

-- the state after its alerts are judged again, with this number of events
abbrev pub with_judged : List AlertChange → ℕ → State → State
with_judged changes events s = record s { counters = record s.counters { events = events }; alerts = put_changes changes s.alerts }

-- ---- which changes are allowed

-- a number that can be incremented
abbrev pub IsSmall : ℕ → Type 0
IsSmall n = n < 10_000_000_000_000_000

-- a report may be admitted: its id is above all others, its text is canonical, and its reading is that of its text
pub record MayAdmit (held : List Report) (r : Report) : Type 0 where
  pub above : All (λ other. other.id < r.id) held
  pub read : IsRead r
  pub small : IsSmall r.id

-- a deferral may be added: its id is above all others, and fewer than 50,000 are open
pub record MayAdd (held : List Deferral) (d : Deferral) : Type 0 where
  pub newest : IsNewest d.id held
  pub few : length held < 50_000
  pub small : IsSmall d.id

abbrev pub MayDefer : List Deferral → OnDeferrals → Type 0
MayDefer held on_deferrals.Nothing = Unit {0}
MayDefer held (on_deferrals.Open d) = MayAdd held d
MayDefer held (on_deferrals.Clear id) = Unit {0}

abbrev pub IsSmallRelease : OnReleases → Type 0
IsSmallRelease on_releases.Nothing = Unit {0}
IsSmallRelease (on_releases.File r) = IsSmall r.id
IsSmallRelease (on_releases.Put r) = Unit {0}
IsSmallRelease (on_releases.Remove id) = Unit {0}

-- an effect is allowed in this state
pub record MayBeMade (s : State) (e : Effect) : Type 0 where
  pub report : IfSome e.report (MayAdmit s.reports)
  pub deferral : MayDefer s.deferrals e.on_deferrals
  pub change : MayChange e.on_releases s.releases
  pub release : IsSmallRelease e.on_releases
  pub floors : IfSome e.sweep (λ w. FloorsRise w.floors)

-- an alert belongs to this release
abbrev pub IsOf : ℕ → Alert → Type 0
IsOf id a = a.release ≡ id

-- a changed alert belongs to the release that the change names
abbrev pub IsOwn : AlertChange → Type 0
IsOwn c = IfSome c.after (IsOf c.release)

-- a reply to keep has the next id
abbrev pub IsNextReply : State → KeptReply → Type 0
IsNextReply s k = k.id ≡ s.counters.next_kept

-- a reply has a higher id than all kept replies
abbrev pub IsLatest : KeptReply → List KeptReply → Type 0
IsLatest k kept = All (λ other. other.id < k.id) kept

-- ---- which memory is reserved

abbrev pub room_of : Effect → ℕ → RoomFor
room_of e more = record { effect = e; more = more }

-- the room that an event needs
abbrev pub room_for_event : Event → RoomFor
room_for_event e = room_of e.effect (length e.changes.items)

abbrev pub HasReportRoom : Admissions → Option Report → Type 0
HasReportRoom held report = IfSome report (λ r. held.room ≡ Some (room_for r))

abbrev pub HasOneMore : OpenDeferrals → OnDeferrals → Type 0
HasOneMore held on_deferrals.Nothing = Unit {0}
HasOneMore held (on_deferrals.Open d) = held.room ≡ true
HasOneMore held (on_deferrals.Clear id) = Unit {0}

-- room is reserved for an entry, a kept reply, up to r.more changed alerts, and what an effect changes
pub record HasRoom (p : Holdings) (r : RoomFor) : Type 0 where
  pub history : IsTrue p.history.room
  pub replies : IsTrue p.replies.room
  pub alerts : r.more ≤ p.alerts.room
  pub report : HasReportRoom p.reports r.effect.report
  pub deferral : HasOneMore p.deferrals r.effect.on_deferrals
  pub release : p.releases.room ≡ Some r.effect.on_releases
  pub may : MayBeMade (state_of p) r.effect

-- an event may be installed: its room is reserved, and its alerts and reply have the right ids
pub record MayPut (h : Held) (e : Event) : Type 0 where
  pub room : h.room ≡ Some (room_for_event e)
  pub own : AllByRecursion IsOwn e.changes.items
  pub kept : IfSome e.kept (IsNextReply h.state)
