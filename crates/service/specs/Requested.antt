-- What a request asks of the desk.
use Rattle.std.specs.Prelude.{ℕ, nat_le, Bool, ◌&&◌, if◌then◌else◌, List, [], length, Option, None, Some, Result, Ok, Err}
use Rattle.std.specs.Str.{is_utf8}
use Rattle.asks.specs.declared.bad_call.BadCall.{BadCall}
use Rattle.asks.specs.declared.call.Ask.{Ask}
use Rattle.asks.specs.declared.call.Ask.TheVariants.{ViewBoard, ViewAlerts, ViewRelease, ViewWeather, ViewDeferred}
use Rattle.asks.specs.declared.call.Call.{Call}
use Rattle.desk_http.specs.Routes.{route_of, takes}
use Rattle.desk_http.specs.declared.routes.Routed.{Routed}
use Rattle.desk_http.specs.declared.routes.Routed.TheVariants.{Post, Board, Alerts, Release, Weather, Deferred}
use Rattle.desk_http.specs.declared.wire.Wire.{Wire}
use Rattle.desk_json.specs.Faults.{call_or_fault}
use Rattle.service.specs.declared.requested.Requested.{Requested}
use Rattle.service.specs.declared.requested.Requested.TheVariants as requested

-- a text in UTF-8 of at most 64 bytes
abbrev pub is_short : List ℕ → Bool
is_short t = is_utf8 t && nat_le (length t) 64

-- The actor or the key of a view. Any other text counts as empty, which nobody has.
abbrev pub short_or_empty : List ℕ → List ℕ
short_or_empty t = if is_short t then t else []

-- the view with the actor and the key from the request's head
abbrev pub view_by : Wire → Ask → Call
view_by wire ask = record { actor = short_or_empty wire.actor; key = short_or_empty wire.key; number = 0; ask = ask }

abbrev pub viewed : Wire → Ask → Requested
viewed wire ask = requested.Call (view_by wire ask)

-- the call in a body, or the body's first fault
abbrev pub of_text : Result Call BadCall → Requested
of_text (Ok call) = requested.Call call
of_text (Err fault) = requested.Bad fault

-- what a request on a route asks for
abbrev pub asked_by : Wire → Routed → Requested
asked_by wire Post = of_text (call_or_fault wire.body)
asked_by wire Board = viewed wire ViewBoard
asked_by wire Alerts = viewed wire ViewAlerts
asked_by wire (Release id) = viewed wire (ViewRelease id)
asked_by wire (Weather station) = viewed wire (ViewWeather station)
asked_by wire (Deferred tail) = viewed wire (ViewDeferred tail)

-- The path is checked before the method.
abbrev pub requested_on : Wire → Option Routed → Requested
requested_on wire None = requested.NoRoute
requested_on wire (Some route) = if takes wire.get route then asked_by wire route else requested.WrongMethod

unfoldable pub requested_by : Wire → Requested
requested_by wire = requested_on wire (route_of wire.path)
