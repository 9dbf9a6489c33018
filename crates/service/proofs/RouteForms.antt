-- What a request names has its form.
use Rattle.std.proofs.Common.{suc, ◌≡◌, ℕ, ◌+◌, ◌*◌, ◌-◌, ◌^◌, ◌≤◌, nat_le, ◌==◌, Bool, true, false, not, if◌then◌else◌, List, [], ◌∷◌, codes, length, take, drop, get_or, length-drop, Option, Some, None, IfSome, Result, Ok, Err, refl, ap, sym, subst, ◌∙◌, arith}
use Rattle.std.specs.Prelude.{IfOk}
use Rattle.std.specs.List.{list_all, list_any}
use Rattle.std.specs.Option.{option_map}
use Rattle.std.specs.Str.{bytes_eq, is_utf8, IsUtf8}
use Rattle.std.proofs.Math.Nat.{pow-le-pow_right}
use Rattle.std.proofs.lemmas.Bool.{leb-true, and_parts}
use Rattle.std.proofs.lemmas.Grind.{pow_more}
use Rattle.std.proofs.lemmas.List.{get_or-take}
use Rattle.std.proofs.lemmas.Result.{IfOk-weaker}
use Rattle.std.proofs.lemmas.Slice.Eq.{bytes_eq-Decides}
use Rattle.std.proofs.lemmas.Str.{IsUtf8-from_is_utf8, IsUtf8-nil, IsUtf8-drop, IsCharBoundary-after_ascii}
use Rattle.desk_io.specs.Station.{is_station}
use Rattle.desk_time.specs.Numbers.{is_digit, digits_after}
use Rattle.desk_http.specs.Digits.{are_digits, has_length, number_of}
use Rattle.desk_http.specs.Routes.{after, fixed_route, is_tail, release_route, weather_route, deferred_route, route_among, route_of, routed_by, routed, takes}
use Rattle.desk_http.specs.declared.routes.RouteFault.{RouteFault}
use Rattle.desk_http.specs.declared.routes.RouteFault.TheVariants.{WrongMethod}
use Rattle.desk_http.specs.declared.routes.Routed.{Routed}
use Rattle.desk_http.specs.declared.routes.Routed.TheVariants.{Post, Board, Alerts, Release, Weather, Deferred}
use Rattle.desk_http.specs.declared.wire.Wire.{Wire}
use Rattle.asks.specs.Forms.{IsId, IsShort}
use Rattle.service.specs.Forms.{RouteHasForms}
use Rattle.service.specs.Requested.{is_short, short_or_empty, requested_on, requested_by, asked_by}
use Rattle.service.specs.declared.requested.Requested.TheVariants as requested

-- ---- a name or a key

short_by : (t : List ℕ) (b : Bool) → is_short t ≡ b → IsShort (if b then t else [])
short_by t true is =
    let both = and_parts (is_utf8 t) (nat_le (length t) 64) is in
    record { text = IsUtf8-from_is_utf8 t both.0; few = leb-true (length t) 64 both.1 }
short_by t false is = record { text = IsUtf8-nil; few = omega arith }

short_or : (t : List ℕ) → IsShort (short_or_empty t)
short_or t = short_by t (is_short t) refl

pub short_ok : {E : Type 0} (t : List ℕ) (r : Result (List ℕ) E) → true ≡ is_short t → IfOk r (λ u. u ≡ t) → IfOk r IsShort
short_ok t r short is = IfOk-weaker r _ _ (λ u same. subst IsShort (sym same) (short_by t true (sym short))) is

pub short_short : (t u : List ℕ) → u ≡ short_or_empty t → IsShort u
short_short t u is = subst IsShort (sym is) (short_or t)

-- ---- a number

digits_small : (i n : ℕ) (ds : List ℕ) → n + 1 ≤ 10 ^ i → list_all is_digit ds ≡ true → digits_after n ds + 1 ≤ 10 ^ (i + length ds)
digits_small i n [] few all = let same : i + 0 ≡ i = omega arith in subst (λ k. n + 1 ≤ 10 ^ k) (sym same) few
digits_small i n (d ∷ ds) few all =
    let both = and_parts (is_digit d) (list_all is_digit ds) all in
    let small = leb-true d 57 (and_parts (nat_le 48 d) (nat_le d 57) both.0).1 in
    let more : (10 * n + (d - 48)) + 1 ≤ 10 ^ (i + 1) = omega (arith, few, small, pow_more 10 i) in
    let same : (i + 1) + length ds ≡ i + suc (length ds) = omega arith in
    subst (λ k. digits_after (10 * n + (d - 48)) ds + 1 ≤ 10 ^ k) same (digits_small (i + 1) (10 * n + (d - 48)) ds more both.1)

number_by : (b : Bool) (text : List ℕ) → are_digits 10 text ≡ b → IfSome (if b then Some (digits_after 0 text) else None) IsId
number_by true text is =
    let both = and_parts (has_length 10 text) (list_all is_digit text) is in
    let few = leb-true (length text) 10 (and_parts (nat_le 1 (length text)) (nat_le (length text) 10) both.0).1 in
    let small = digits_small 0 0 text (omega arith) both.1 in
    let most : 10 ^ (0 + length text) ≤ 10 ^ 10 = pow-le-pow_right {n = 10} (omega arith) {i = 0 + length text} {j = 10} (omega (arith, few)) in
    omega (arith, small, most)
number_by false text is = tt

release_some : (o : Option ℕ) → IfSome o IsId → IfSome (option_map Release o) RouteHasForms
release_some (Some id) is = is
release_some None is = tt

release_forms : (id : List ℕ) → IfSome (release_route id) RouteHasForms
release_forms id = release_some (number_of 10 id) (number_by (are_digits 10 id) id refl)

-- ---- a station

weather_by : (b : Bool) (name : List ℕ) → is_station name ≡ b → IfSome (option_map Weather (if b then Some name else None)) RouteHasForms
weather_by true name is = is
weather_by false name is = tt

weather_forms : (name : List ℕ) → IfSome (weather_route name) RouteHasForms
weather_forms name = weather_by (is_station name) name refl

-- ---- a tail

tail_by : (b : Bool) (tail : List ℕ) → is_tail tail ≡ b → (1 ≤ length tail → IsUtf8 tail) → IfSome (if b then Some (Deferred tail) else None) RouteHasForms
tail_by true tail is text =
    let both = and_parts (has_length 8 tail) (not (list_any (λ b. b == 47) tail)) is in
    let lengths = and_parts (nat_le 1 (length tail)) (nat_le (length tail) 8) both.0 in
    let few = leb-true (length tail) 8 lengths.1 in
    record { text = text (leb-true 1 (length tail) lengths.0); few = omega (arith, few) }
tail_by false tail is text = tt

slash_at : (path : List ℕ) → take 10 path ≡ codes "/deferred/" → get_or path 9 0 ≡ 47
slash_at path is = sym (get_or-take 10 path 9 0 (omega arith)) ∙ ap (λ t. get_or t 9 0) is

-- what stands after a slash is text, where the whole is
rest_text : (path : List ℕ) → IsUtf8 path → take 10 path ≡ codes "/deferred/" → 1 ≤ length (drop 10 path) → IsUtf8 (drop 10 path)
rest_text path text is some =
    let slash = slash_at path is in
    let long = length-drop 10 path in
    IsUtf8-drop path 10 text (IsCharBoundary-after_ascii path 9 text (omega (arith, some, long)) (omega (arith, slash)))

deferred_by : (b : Bool) (path : List ℕ) → IsUtf8 path → bytes_eq (take 10 path) (codes "/deferred/") ≡ b
    → IfSome (if b then Some (drop 10 path) else None) (λ tail. IfSome (deferred_route tail) RouteHasForms)
deferred_by true path text is = let tail = drop 10 path in tail_by (is_tail tail) tail refl (rest_text path text ((bytes_eq-Decides (take 10 path) (codes "/deferred/")).0 is))
deferred_by false path text is = tt

-- ---- a route

fixed_by : (call board alerts : Bool) → IfSome (if call then Some Post else (if board then Some Board else (if alerts then Some Alerts else None))) RouteHasForms
fixed_by true board alerts = tt
fixed_by false true alerts = tt
fixed_by false false true = tt
fixed_by false false false = tt

fixed_forms : (path : List ℕ) → IfSome (fixed_route path) RouteHasForms
fixed_forms path = fixed_by (bytes_eq path (codes "/call")) (bytes_eq path (codes "/board")) (bytes_eq path (codes "/alerts"))

among_forms : (fixed : Option Routed) (release weather deferred : Option (List ℕ)) → IfSome fixed RouteHasForms → IfSome deferred (λ tail. IfSome (deferred_route tail) RouteHasForms)
    → IfSome (route_among fixed release weather deferred) RouteHasForms
among_forms (Some fixed) release weather deferred one two = one
among_forms None (Some id) weather deferred one two = release_forms id
among_forms None None (Some name) deferred one two = weather_forms name
among_forms None None None (Some tail) one two = two
among_forms None None None None one two = tt

text_forms : (b : Bool) (path : List ℕ) → is_utf8 path ≡ b
    → IfSome (if b then route_among (fixed_route path) (after (codes "/release/") path) (after (codes "/weather/") path) (after (codes "/deferred/") path) else None) RouteHasForms
text_forms true path is =
    among_forms (fixed_route path) (after (codes "/release/") path) (after (codes "/weather/") path) (after (codes "/deferred/") path) (fixed_forms path)
    (deferred_by (bytes_eq (take 10 path) (codes "/deferred/")) path (IsUtf8-from_is_utf8 path is) refl)
text_forms false path is = tt

path_forms : (path : List ℕ) → IfSome (route_of path) RouteHasForms
unfolding route_of
path_forms path = text_forms (is_utf8 path) path refl

-- ---- the route of a request

abbrev took : Bool → Routed → Result Routed RouteFault
took b route = if b then Ok route else Err WrongMethod

route_took : (b : Bool) (route r : Routed) → RouteHasForms route → took b route ≡ Ok r → RouteHasForms r
route_took true route r forms is = let same : route ≡ r = cc in subst RouteHasForms same forms
route_took false route r forms is = absurd (cc)

routed_forms_by : (get : Bool) (o : Option Routed) (r : Routed) → IfSome o RouteHasForms → routed_by get o ≡ Ok r → RouteHasForms r
routed_forms_by get None r forms is = absurd (cc)
routed_forms_by get (Some route) r forms is = route_took (takes get route) route r forms is

pub routed_forms : (wire : Wire) (r : Routed) → routed wire ≡ Ok r → RouteHasForms r
routed_forms wire r is = routed_forms_by wire.get (route_of wire.path) r (path_forms wire.path) is

asks_took : (b : Bool) (wire : Wire) (route r : Routed) → took b route ≡ Ok r
    → (if b then asked_by wire route else requested.WrongMethod) ≡ asked_by wire r
asks_took true wire route r is = let same : route ≡ r = cc in ap (asked_by wire) same
asks_took false wire route r is = absurd (cc)

asks_on : (wire : Wire) (o : Option Routed) (r : Routed) → routed_by wire.get o ≡ Ok r → requested_on wire o ≡ asked_by wire r
asks_on wire None r is = absurd (cc)
asks_on wire (Some route) r is = asks_took (takes wire.get route) wire route r is

-- what is asked where there is a route
pub asks_routed : (wire : Wire) (r : Routed) → routed wire ≡ Ok r → requested_by wire ≡ asked_by wire r
unfolding requested_by
asks_routed wire r is = asks_on wire (route_of wire.path) r is
