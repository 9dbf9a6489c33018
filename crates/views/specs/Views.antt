-- The views of the desk: what each shows, as data and as text.
use Rattle.std.specs.Prelude.{◌≡◌, ℕ, List, Result, Ok, Err}
use Rattle.serde_json.specs.Data.{Members, object}
use Rattle.serde_json.specs.Written.{compact_text}
use Rattle.asks.specs.declared.call.Ask.{Ask}
use Rattle.asks.specs.declared.call.Ask.TheVariants.{ViewBoard, ViewAlerts, ViewRelease, ViewWeather, ViewDeferred}
use Rattle.asks.specs.declared.reply.Refusal.{Refusal}
use Rattle.asks.specs.declared.reply.Reply.TheVariants.{Seen}
use Rattle.desk_state.specs.Chain.{◌>>-◌, unless}
use Rattle.desk_state.specs.Decide.{aircraft, decide_ask, held, no_airport}
use Rattle.desk_state.specs.State.{State}
use Rattle.desk_state.specs.declared.effect.Decision.{Decision}
use Rattle.desk_state.specs.declared.effect.Decision.TheVariants.{Show}
use Rattle.views.specs.Objects.{alerts_members, board_members, deferred_members, detail_members, weather_members}
use Rattle.views.specs.Shown.{AlertsShown, BoardShown, DeferredShown, DetailShown, WeatherShown, alerts_shown, board_shown, deferred_shown, detail_shown, weather_shown}
use Rattle.views.specs.Texts.{alerts_text, board_text, deferred_text, detail_text, weather_text}
use Rattle.views.specs.declared.view.View.{View}
use Rattle.views.specs.declared.view.View.TheVariants as view

-- what a view shows
pub data Shown : Type 0 where
  Board : BoardShown → Shown
  Alerts : AlertsShown → Shown
  Detail : DetailShown → Shown
  Weather : WeatherShown → Shown
  Deferred : DeferredShown → Shown

-- what a view shows in a state, or why it shows nothing
abbrev pub shown : State → View → Result Shown Refusal
shown s view.Board = Ok (Board (board_shown s))
shown s view.Alerts = Ok (Alerts (alerts_shown s))
shown s (view.Release id) = held s id >>- λ r. Ok (Detail (detail_shown s r))
shown s (view.Weather station) = unless (no_airport s station) (Ok (Weather (weather_shown s station)))
shown s (view.Deferred tail) = aircraft s tail >>- λ kind. Ok (Deferred (deferred_shown s tail kind.kind))

abbrev pub shown_members : Shown → Members
shown_members (Board b) = board_members b
shown_members (Alerts a) = alerts_members a
shown_members (Detail d) = detail_members d
shown_members (Weather w) = weather_members w
shown_members (Deferred d) = deferred_members d

-- what was made has the members of what is shown, or the refusal is that of the view
abbrev pub Shows : {A : Type 0} → (A → Members) → Result Shown Refusal → Result A Refusal → Type 0
Shows seen (Ok x) (Ok made) = seen made ≡ shown_members x
Shows seen (Ok x) (Err refusal) = ⊥
Shows seen (Err why) (Ok made) = ⊥
Shows seen (Err why) (Err refusal) = refusal ≡ why

-- what a view shows, as JSON without white space
abbrev pub shown_json : Shown → List ℕ
shown_json x = compact_text (object (shown_members x))

abbrev pub json_or_refusal : Result Shown Refusal → Result (List ℕ) Refusal
json_or_refusal (Ok x) = Ok (shown_json x)
json_or_refusal (Err refusal) = Err refusal

-- a view in a state, as JSON without white space
abbrev pub view_json : State → View → Result (List ℕ) Refusal
view_json s v = json_or_refusal (shown s v)

-- ---- the same as text

abbrev pub shown_text : Shown → List ℕ
shown_text (Board b) = board_text b
shown_text (Alerts a) = alerts_text a
shown_text (Detail d) = detail_text d
shown_text (Weather w) = weather_text w
shown_text (Deferred d) = deferred_text d

-- the ask for the same as text
abbrev pub ask_of : View → Ask
ask_of view.Board = ViewBoard
ask_of view.Alerts = ViewAlerts
ask_of (view.Release id) = ViewRelease id
ask_of (view.Weather station) = ViewWeather station
ask_of (view.Deferred tail) = ViewDeferred tail

abbrev pub decision_of : Result Shown Refusal → Result Decision Refusal
decision_of (Ok x) = Ok (Show (Seen (shown_text x)))
decision_of (Err refusal) = Err refusal

-- The ask for a view as text is answered with the text of what the view shows, or refused just as the view is.
abbrev pub IsShownAsText : State → View → Type 0
IsShownAsText s v = (actor : List ℕ) → decide_ask s actor (ask_of v) ≡ decision_of (shown s v)
