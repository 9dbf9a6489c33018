-- The path patterns of the routes, and the route of each.
use Rattle.std.specs.Prelude.{ℕ, List, [], ◌∷◌, ◌++◌, codes, Option, Some, None, unwrap_or}
use Rattle.matchit.specs.Rows.{RowsOf, param_token}
use Rattle.desk_http.specs.Routes.{after, release_route, weather_route, deferred_route}
use Rattle.desk_http.specs.declared.router.Named.{Named}
use Rattle.desk_http.specs.declared.router.Named.TheVariants.{ToCall, ToBoard, ToAlerts, ToRelease, ToWeather, ToDeferred}
use Rattle.desk_http.specs.declared.routes.Routed.{Routed}
use Rattle.desk_http.specs.declared.routes.Routed.TheVariants.{Post, Board, Alerts}

-- the patterns in the router's order, each with its route's name; a parameter is one token
abbrev pub patterns : RowsOf Named
patterns =
    (codes "/alerts", ToAlerts) ∷ (codes "/board", ToBoard) ∷ (codes "/call", ToCall) ∷ (codes "/deferred/" ++ param_token ∷ [], ToDeferred)
    ∷ (codes "/release/" ++ param_token ∷ [], ToRelease) ∷ (codes "/weather/" ++ param_token ∷ [], ToWeather) ∷ []

-- the rest of the path after a prefix, or nothing
abbrev pub rest_after : List ℕ → List ℕ → List ℕ
rest_after front path = unwrap_or (after front path) []

-- the route of that name, with its parameter from the path
abbrev pub named_route : Option Named → List ℕ → Option Routed
named_route None path = None
named_route (Some ToCall) path = Some Post
named_route (Some ToBoard) path = Some Board
named_route (Some ToAlerts) path = Some Alerts
named_route (Some ToRelease) path = release_route (rest_after (codes "/release/") path)
named_route (Some ToWeather) path = weather_route (rest_after (codes "/weather/") path)
named_route (Some ToDeferred) path = deferred_route (rest_after (codes "/deferred/") path)
