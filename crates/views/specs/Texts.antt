-- The text of what a view shows.
use Rattle.std.specs.Prelude.{ℕ, List, [], ◌∷◌, ◌++◌, Option, None, Some, codes, decimal}
use Rattle.std.specs.List.{concat}
use Rattle.desk_state.specs.Texts as texts
use Rattle.desk_time.specs.Moments.{shown}
use Rattle.facts.specs.Lines.{line_of_latest}
use Rattle.plan.specs.Texts.{phase_text}
use Rattle.views.specs.Shown.{AlertsShown, BoardShown, DeferredShown, DetailShown, FlightShown, ItemShown, PendingShown, ReleaseShown, WeatherShown}

abbrev pub flight_text : Option FlightShown → List ℕ
flight_text None = codes "- -"
flight_text (Some f) = f.flight ++ codes " " ++ f.tail

-- a number, or 0 if there is none
abbrev pub number_or_zero : Option ℕ → ℕ
number_or_zero None = 0
number_or_zero (Some n) = n

abbrev pub pending_number : Option PendingShown → ℕ
pending_number None = 0
pending_number (Some p) = p.revision

abbrev pub head_text : ReleaseShown → List ℕ
head_text r = concat (decimal r.release ∷ codes " " ∷ flight_text r.flight ∷ codes " " ∷ phase_text r.phase ∷ [])

abbrev pub numbers_text : ReleaseShown → List ℕ
numbers_text r = concat (codes " rev " ∷ decimal (number_or_zero r.active) ∷ codes " pending " ∷ decimal (pending_number r.pending) ∷ codes " " ∷ [])

abbrev pub desk_text : ReleaseShown → List ℕ
desk_text r = concat (r.dispatcher ∷ codes " " ∷ texts.alert_text r.alert ∷ codes "\n" ∷ [])

-- the line of a release
abbrev pub release_line : ReleaseShown → List ℕ
release_line r = head_text r ++ numbers_text r ++ desk_text r

abbrev pub release_lines : List ReleaseShown → List ℕ
release_lines [] = []
release_lines (r ∷ rest) = release_line r ++ release_lines rest

abbrev pub board_text : BoardShown → List ℕ
board_text b = texts.board_head b.at ++ release_lines b.releases

abbrev pub alerts_text : AlertsShown → List ℕ
alerts_text a = texts.alerts_view a.at a.alerts

abbrev pub detail_text : DetailShown → List ℕ
detail_text d = texts.release_view d.release

abbrev pub weather_text : WeatherShown → List ℕ
weather_text w = line_of_latest w.metar ++ line_of_latest w.taf

-- when an item is due, or a dash
abbrev pub due_text : Option ℕ → List ℕ
due_text None = codes "-"
due_text (Some at) = shown at

abbrev pub item_line : ItemShown → List ℕ
item_line i = concat (decimal i.deferral ∷ codes " " ∷ i.item ∷ codes " " ∷ []) ++ concat (shown i.found ∷ codes " due " ∷ due_text i.due ∷ codes "\n" ∷ [])

abbrev pub item_lines : List ItemShown → List ℕ
item_lines [] = []
item_lines (i ∷ rest) = item_line i ++ item_lines rest

abbrev pub deferred_text : DeferredShown → List ℕ
deferred_text d = item_lines d.items
