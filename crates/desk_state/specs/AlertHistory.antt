-- An alert stays open until the captain concurs, the release is cancelled, or its last leg arrives.
use Rattle.std.specs.Prelude.{◌≡◌, ◌⊎◌, ℕ, ◌<◌, ◌≤◌, List, length, take, slice_get, Option, None, Some, IfSome}
use Rattle.plan.specs.declared.release.Release.{Release}
use Rattle.alerts.specs.declared.alert.Alert.{Alert}
use Rattle.asks.specs.declared.call.Ask.{Ask}
use Rattle.asks.specs.declared.call.Ask.TheVariants as ask
use Rattle.desk_state.specs.declared.entry.Entry.{Entry}
use Rattle.desk_state.specs.declared.entry.What.{What}
use Rattle.desk_state.specs.declared.entry.What.TheVariants as what
use Rattle.desk_state.specs.Allowed.{HasNoMore}
use Rattle.desk_state.specs.Legal.{after_entries}
use Rattle.desk_state.specs.State.{State, release_at, alert_at}

-- The ask ends what an alert of the release is about. The captain concurs with a new revision, the release is
-- cancelled, or its last leg arrives.
pub data Settles (s : State) (id : ℕ) : Ask → Type 0 where
  concurs : {number : ℕ} {digest : List ℕ} → Settles s id (ask.Concur id number digest)
  cancels : Settles s id (ask.Cancel id)
  arrives : {leg : ℕ} {r : Release} → release_at id s.releases ≡ Some r → HasNoMore r.active leg → Settles s id (ask.Arrive id leg)

-- the event is a call with such an ask
abbrev pub IsSettledBy : State → ℕ → What → Type 0
IsSettledBy s id (what.Tick to) = ⊥
IsSettledBy s id (what.Asked call reply) = Settles s id call.ask

-- one of the entries, after the first p and among the first q, settles the alert of the release
pub record IsSettledBetween (opening : State) (entries : List Entry) (p q id : ℕ) : Type 0 where
  pub place : ℕ
  pub since : p ≤ place
  pub by : place < q
  pub one : Entry
  pub found : slice_get entries place ≡ Some one
  pub settles : IsSettledBy (after_entries opening (take place entries)) id one.what

-- the alert is open still: it was opened at the same moment, and its version is no lower
abbrev pub IsStill : Alert → Option Alert → Type 0
IsStill a None = ⊥
IsStill a (Some later) = (later.opened ≡ a.opened) × (a.version ≤ later.version)

-- the alert of the release after the first entries
abbrev pub alert_after_first : State → List Entry → ℕ → ℕ → Option Alert
alert_after_first opening entries count id = alert_at id (after_entries opening (take count entries)).alerts

-- An alert that is open after p entries is open still after q entries, unless one of the entries between settled it.
unfoldable pub StayOpen : State → List Entry → Type 0
StayOpen opening entries =
    (p q id : ℕ) → p ≤ q → q ≤ length entries
    → IfSome (alert_after_first opening entries p id) (λ a. IsStill a (alert_after_first opening entries q id) ⊎ IsSettledBetween opening entries p q id)
