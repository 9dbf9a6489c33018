-- The desk's routes: what a path and a method ask for.
use Rattle.std.specs.Prelude.{◌≡◌, ℕ, ◌==◌, Bool, not, ◌&&◌, List, codes, length, take, drop, if◌then◌else◌, Option, Some, None, Result, Ok, Err, MatchResult}
use Rattle.std.specs.List.{list_any}
use Rattle.std.specs.Option.{option_map}
use Rattle.std.specs.Str.{bytes_eq, is_utf8}
use Rattle.desk_io.specs.Station.{station_of}
use Rattle.desk_http.specs.Digits.{has_length, number_of}
use Rattle.desk_http.specs.declared.wire.Wire.{Wire}
use Rattle.desk_http.specs.declared.routes.Routed.{Routed}
use Rattle.desk_http.specs.declared.routes.Routed.TheVariants.{Post, Board, Alerts, Release, Weather, Deferred}
use Rattle.desk_http.specs.declared.routes.RouteFault.{RouteFault}
use Rattle.desk_http.specs.declared.routes.RouteFault.TheVariants.{NoRoute, WrongMethod, OutOfMemory}

-- the rest of the path after a prefix
abbrev pub after : List ℕ → List ℕ → Option (List ℕ)
after front path = if bytes_eq (take (length front) path) front then Some (drop (length front) path) else None

-- the route of a path without parameters
abbrev pub fixed_route : List ℕ → Option Routed
fixed_route path =
    if bytes_eq path (codes "/call") then Some Post else (
    if bytes_eq path (codes "/board") then Some Board else (
    if bytes_eq path (codes "/alerts") then Some Alerts else None))

-- a release by its number, of 1 to 10 digits
abbrev pub release_route : List ℕ → Option Routed
release_route id = option_map Release (number_of 10 id)

-- the weather of a station
abbrev pub weather_route : List ℕ → Option Routed
weather_route name = option_map Weather (station_of name)

-- 1 to 8 bytes without a slash
abbrev pub is_tail : List ℕ → Bool
is_tail tail = has_length 8 tail && not (list_any (λ b. b == 47) tail)

-- the deferred items of an aircraft
abbrev pub deferred_route : List ℕ → Option Routed
deferred_route tail = if is_tail tail then Some (Deferred tail) else None

-- the fixed route, or else the route of the first prefix that the path has
abbrev pub route_among : Option Routed → Option (List ℕ) → Option (List ℕ) → Option (List ℕ) → Option Routed
route_among (Some fixed) release weather deferred = Some fixed
route_among None (Some id) weather deferred = release_route id
route_among None None (Some name) deferred = weather_route name
route_among None None None (Some tail) = deferred_route tail
route_among None None None None = None

-- the route of a path that is UTF-8
abbrev pub route_in : List ℕ → Option Routed
route_in path = route_among (fixed_route path) (after (codes "/release/") path) (after (codes "/weather/") path) (after (codes "/deferred/") path)

-- the route of a path, if it has one
unfoldable pub route_of : List ℕ → Option Routed
route_of path = if is_utf8 path then route_in path else None

-- A call takes POST, and every view takes GET.
abbrev pub takes : Bool → Routed → Bool
takes get Post = not get
takes get Board = get
takes get Alerts = get
takes get (Release id) = get
takes get (Weather station) = get
takes get (Deferred tail) = get

-- the path is checked first, then the method
abbrev pub routed_by : Bool → Option Routed → Result Routed RouteFault
routed_by get None = Err NoRoute
routed_by get (Some route) = if takes get route then Ok route else Err WrongMethod

abbrev pub routed : Wire → Result Routed RouteFault
routed wire = routed_by wire.get (route_of wire.path)

-- the fault is the one wanted, or memory ran out
abbrev pub Refuses : Result Routed RouteFault → RouteFault → Type 0
Refuses wanted OutOfMemory = Unit {0}
Refuses wanted NoRoute = wanted ≡ Err NoRoute
Refuses wanted WrongMethod = wanted ≡ Err WrongMethod

-- the result is the one wanted, or memory ran out
abbrev pub Routes : Result Routed RouteFault → Result Routed RouteFault → Type 0
Routes wanted result = MatchResult result (λ route. wanted ≡ Ok route) (Refuses wanted)
