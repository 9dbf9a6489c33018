-- Which requests and routes are well formed.
use Rattle.std.specs.Prelude.{◌≡◌, true}
use Rattle.desk_io.specs.Station.{is_station}
use Rattle.desk_http.specs.declared.routes.Routed.{Routed}
use Rattle.desk_http.specs.declared.routes.Routed.TheVariants.{Post, Board, Alerts, Release, Weather, Deferred}
use Rattle.asks.specs.Forms.{CallHasForms, IsId, IsShort}
use Rattle.service.specs.declared.requested.Requested.{Requested}
use Rattle.service.specs.declared.requested.Requested.TheVariants as requested
use Rattle.service.specs.declared.wanted.Wanted.{Wanted}
use Rattle.service.specs.declared.wanted.Wanted.TheVariants as wanted

-- if the request is a call, each of its fields has its form
abbrev pub RequestedHasForms : Requested → Type 0
RequestedHasForms (requested.Call call) = CallHasForms call
RequestedHasForms (requested.Bad fault) = Unit {0}
RequestedHasForms requested.NoRoute = Unit {0}
RequestedHasForms requested.WrongMethod = Unit {0}

abbrev pub WantedHasForms : Wanted → Type 0
WantedHasForms (wanted.Asked asked) = RequestedHasForms asked
WantedHasForms (wanted.Page page) = Unit {0}

-- the number, station or tail of the route has its form
abbrev pub RouteHasForms : Routed → Type 0
RouteHasForms Post = Unit {0}
RouteHasForms Board = Unit {0}
RouteHasForms Alerts = Unit {0}
RouteHasForms (Release id) = IsId id
RouteHasForms (Weather station) = is_station station ≡ true
RouteHasForms (Deferred tail) = IsShort tail
