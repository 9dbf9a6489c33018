-- The notices about alerts between two states, release by release.
use Rattle.std.specs.Prelude.{◌≡◌, ◌≢◌, ℕ, ◌==◌, ◌&&◌, not, Bool, true, false, List, [], ◌∷◌, ◌++◌, option_to_list, Option, None, Some}
use Rattle.plan.specs.declared.release.Release.{Release}
use Rattle.alerts.specs.declared.alert.Alert.{Alert}
use Rattle.alerts.specs.declared.notices.Notice.{Notice}
use Rattle.alerts.specs.Notices.{notice_of}
use Rattle.asks.specs.declared.call.Ask.{Ask}
use Rattle.asks.specs.declared.call.Ask.TheVariants as ask
use Rattle.desk_state.specs.State.{State, release_at, alert_at}
use Rattle.desk_state.specs.Decide.{has_more}

-- The notices about one release's alert. If the event itself removes the alert, it is reported as closed, whatever
-- alert follows.
abbrev pub told_of : Bool → Option Alert → Option Alert → List Notice
told_of true before after = option_to_list (notice_of before None) ++ option_to_list (notice_of None after)
told_of false before after = option_to_list (notice_of before after)

-- it is the last leg of a release
abbrev pub is_last : Option Release → ℕ → Bool
is_last None leg = false
is_last (Some r) leg = not (has_more r leg)

-- the ask removes the alert of a release before the release is judged
abbrev pub takes_alert : State → Ask → ℕ → Bool
takes_alert s (ask.Admit text) id = false
takes_alert s (ask.Defer tail item found) id = false
takes_alert s (ask.Clear deferral) id = false
takes_alert s (ask.Draft plan) id = false
takes_alert s (ask.Prepare release) id = false
takes_alert s (ask.Sign release revision digest) id = false
takes_alert s (ask.Concur release revision digest) id = id == release
takes_alert s (ask.Amend release plan) id = false
takes_alert s (ask.Cancel release) id = id == release
takes_alert s (ask.Depart release leg) id = false
takes_alert s (ask.Arrive release leg) id = (id == release) && is_last (release_at release s.releases) leg
takes_alert s (ask.Acknowledge release version) id = false
takes_alert s (ask.Purge release) id = false
takes_alert s (ask.Sweep before) id = false
takes_alert s ask.ViewBoard id = false
takes_alert s ask.ViewAlerts id = false
takes_alert s (ask.ViewRelease release) id = false
takes_alert s (ask.ViewWeather station) id = false
takes_alert s (ask.ViewDeferred tail) id = false

-- the notices about the alerts of releases, in their order
abbrev pub told_over : (ℕ → Bool) → List Alert → List Alert → List Release → List Notice
told_over takes before after [] = []
told_over takes before after (r ∷ rs) = told_of (takes r.id) (alert_at r.id before) (alert_at r.id after) ++ told_over takes before after rs

-- The notices between two states: none if nothing changed, and otherwise the differences of all alerts.
pub record AreDifferences (takes : ℕ → Bool) (s t : State) (notices : List Notice) : Type 0 where
  pub unchanged : t ≡ s → notices ≡ []
  pub changed : t ≢ s → notices ≡ told_over takes s.alerts t.alerts t.releases

abbrev pub takes_none : ℕ → Bool
takes_none id = false
