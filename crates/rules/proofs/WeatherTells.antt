-- What tests of the weather tell of the values that reports name.
use Rattle.std.proofs.Common.{◌≡◌, ℕ, zero, suc, ◌+◌, ◌-◌, ◌<◌, ◌≤◌, ◌==◌, eq-eqb, Bool, true, false, ◌&&◌, List, [], ◌∷◌, map, Option, None, Some, IfSome, refl, ap, sym, subst, ◌∙◌, arith}
use Rattle.std.specs.Prelude.{nat_le, nat_lt, min, Any}
use Rattle.std.proofs.lemmas.Bool.Decides.{nat_tests}
use Rattle.std.specs.List.{All, list_all, range_with_len}
use Rattle.std.proofs.lemmas.Bool.{ne_eqb, eqb-true, leb-true, le-leb, ltb-true, ltb-false}
use Rattle.std.proofs.lemmas.List.Elements.{All-nil, All-cons, All-head, All-tail}
use Rattle.std.proofs.lemmas.List.Folds.{list_all-map}
use Rattle.codes.specs.Cond.{lesser}
use Rattle.codes.specs.Minima.{reaches, is_met, meets}
use Rattle.desk_io.specs.Station.{Station}
use Rattle.desk_io.specs.declared.pair.Pair.{Pair}
use Rattle.weather_reports.specs.declared.metar.Metar.{Metar}
use Rattle.weather_reports.specs.declared.forecast.Taf.{Taf}
use Rattle.plan.specs.declared.flights.Leg.{Leg}
use Rattle.weather_window.specs.Values.{Element, ceiling, visibility, values_at}
use Rattle.weather_window.specs.Window.{least_of, value_at, cond_at, minutes, worst_of, worst_value, worst_cond}
use Rattle.weather_window.specs.Running.{worse}
use Rattle.weather_window.proofs.WindowLaws.{minutes_step, worse_first, worst_alone}
use Rattle.facts.specs.Latest.{metar_latest, taf_latest}
use Rattle.rules.specs.Grounds.{Grounds}
use Rattle.rules.specs.Circumstances.{weather_at, worst_weather}
use Rattle.rules.specs.Regulation.{IsAtLeast, named_at, IsAtOrAbove, StaysAtOrAbove}
use Rattle.rules.proofs.Tells.{Tells, tells_by, told, tested, tells_same, tells_and, tells_any}

abbrev AtLeast : ℕ → Option ℕ → Type 0
AtLeast least o = IfSome o (λ value. least ≤ value)

parted : (x least : ℕ) (o : Option ℕ) → AtLeast least (lesser (Some x) o) → (least ≤ x) × AtLeast least o
parted x least None h = (h, tt)
parted x least (Some y) h = (omega (arith, h), omega (arith, h))

joined : (x least : ℕ) (o : Option ℕ) → least ≤ x → AtLeast least o → AtLeast least (lesser (Some x) o)
joined x least None h rest = h
joined x least (Some y) h rest = omega (arith, h, rest)

each_at_least : (least : ℕ) (xs : List ℕ) → AtLeast least (least_of xs) → All (λ value. least ≤ value) xs
each_at_least least [] h = All-nil (λ value. least ≤ value)
each_at_least least (x ∷ xs) h =
    let parts = parted x least (least_of xs) h in All-cons (λ value. least ≤ value) x xs parts.0 (each_at_least least xs parts.1)

least_at_least : (least : ℕ) (xs : List ℕ) → All (λ value. least ≤ value) xs → AtLeast least (least_of xs)
least_at_least least [] all = tt
least_at_least least (x ∷ xs) all =
    joined x least (least_of xs) (All-head (λ value. least ≤ value) x xs all) (least_at_least least xs (All-tail (λ value. least ≤ value) x xs all))

reached : (x least : ℕ) (o : Option ℕ) → reaches (lesser (Some x) o) least ≡ true → AtLeast least (lesser (Some x) o)
reached x least None e = leb-true least x e
reached x least (Some y) e = leb-true least _ e

reaching : (x least : ℕ) (o : Option ℕ) → AtLeast least (lesser (Some x) o) → reaches (lesser (Some x) o) least ≡ true
reaching x least None h = le-leb least x h
reaching x least (Some y) h = le-leb least _ h

asks_nothing : (least : ℕ) → (0 < least → 0 < 0) → least ≡ 0
asks_nothing zero known = refl
asks_nothing (suc n) known = absurd (let never = known (omega arith) in omega (arith, never))

-- the least value reaches so much
pub least_tells : (values : List ℕ) (least : ℕ) → Tells (reaches (least_of values) least) (IsAtLeast values least)
least_tells [] least =
    tells_by (least == 0) (IsAtLeast [] least)
    (λ e. record { known = λ some. absurd (let none = eqb-true least 0 e in omega (arith, some, none)); none_is_less = All-nil (λ value. least ≤ value) })
    (λ is. eq-eqb least 0 (asks_nothing least is.known))
least_tells (x ∷ xs) least =
    tells_by (reaches (least_of (x ∷ xs)) least) (IsAtLeast (x ∷ xs) least)
    (λ e. record { known = λ some. omega arith; none_is_less = each_at_least least (x ∷ xs) (reached x least (least_of xs) e) })
    (λ is. reaching x least (least_of xs) (least_at_least least (x ∷ xs) is.none_is_less))

both_reach : (least a b : ℕ) (s t : Bool) → nat_le least a ≡ s → nat_le least b ≡ t → nat_le least (min a b) ≡ (s && t)
both_reach least a b s t is also = grind (arith, nat_tests, is, also)

and_false : (b : Bool) → (b && false) ≡ false
and_false true = refl
and_false false = refl

unknown_reaches : (n : ℕ) → (suc n == 0) ≡ false
unknown_reaches n = ne_eqb (suc n) 0 (λ e. omega (arith, e))

worse_reaches : (least : ℕ) (x y : Option ℕ) → reaches (worse x y) least ≡ (reaches x least && reaches y least)
worse_reaches zero None None = refl
worse_reaches zero None (Some b) = sym (le-leb 0 b (omega arith))
worse_reaches zero (Some a) None = ap (λ t. t && true) (sym (le-leb 0 a (omega arith)))
worse_reaches (suc n) None y = rw (unknown_reaches n) refl
worse_reaches (suc n) (Some a) None = rw (unknown_reaches n) (sym (and_false (nat_le (suc n) a)))
worse_reaches least (Some a) (Some b) = both_reach least a b (nat_le least a) (nat_le least b) refl refl

and_true : (b : Bool) → (b && true) ≡ b
and_true true = refl
and_true false = refl

and_joins : (a b d : Bool) → (a && b && d) ≡ (a && (b && d))
and_joins true b d = refl
and_joins false b d = refl

-- the worst of some values reaches so much where each does
worst_reaches : (least : ℕ) (x : Option ℕ) (xs : List (Option ℕ)) → reaches (worst_of (x ∷ xs)) least ≡ list_all (λ o. reaches o least) (x ∷ xs)
worst_reaches least x [] = ap (λ o. reaches o least) (sym (worst_alone x)) ∙ sym (and_true (reaches x least))
worst_reaches least x (y ∷ ys) =
    ap (λ o. reaches o least) (sym (worse_first x y ys))
    ∙ worst_reaches least (worse x y) ys
    ∙ ap (λ t. t && list_all (λ o. reaches o least) ys) (worse_reaches least x y)
    ∙ and_joins (reaches x least) (reaches y least) (list_all (λ o. reaches o least) ys)

both : (a b : Bool) → (a && b) ≡ true → (a ≡ true) × (b ≡ true)
both true b e = (refl, e)
both false b e = absurd (cc)

-- a test of each number of a stretch
each_number : (p : ℕ → Bool) (a n : ℕ) → list_all p (range_with_len a n) ≡ true → (m : ℕ) → a ≤ m → m < a + n → p m ≡ true
each_number p a zero e m low high = absurd (omega (arith, low, high))
each_number p a (suc n) e m low high =
    let parts = both (p a) (list_all p (range_with_len (a + 1) n)) e in
    elim (nat_lt a m) as (λ t. nat_lt a m ≡ t → p m ≡ true) [
      | true ↦ λ t. let less = ltb-true a m t in each_number p (a + 1) n parts.1 m (omega (arith, less)) (omega (arith, high))
      | false ↦ λ t. let more = ltb-false a m t in let same : a ≡ m = omega (arith, low, more) in subst (λ k. p k ≡ true) same parts.0
    ] refl

all_numbers : (p : ℕ → Bool) (a n : ℕ) → ((m : ℕ) → a ≤ m → m < a + n → p m ≡ true) → list_all p (range_with_len a n) ≡ true
all_numbers p a zero each = refl
all_numbers p a (suc n) each =
    rw (each a (omega arith) (omega arith), all_numbers p (a + 1) n (λ m low high. each m (omega (arith, low)) (omega (arith, high)))) refl

-- the worst value of a stretch, by a test of each minute
worst_by_minutes : (f : ℕ → Option ℕ) (least from to : ℕ) → from ≤ to
    → reaches (worst_of (map f (minutes from to))) least ≡ list_all (λ m. reaches (f m) least) (minutes from to)
worst_by_minutes f least from to order =
    ap (λ ms. reaches (worst_of (map f ms)) least) (minutes_step from to order)
    ∙ worst_reaches least (f from) (map f (minutes (from + 1) to))
    ∙ list_all-map (λ o. reaches o least) f (from ∷ minutes (from + 1) to)
    ∙ ap (λ ms. list_all (λ m. reaches (f m) least) ms) (sym (minutes_step from to order))

-- the worst value of a stretch reaches so much
worst_tells : (of : Element) (taf : Option Taf) (metar : Option Metar) (hold from to least : ℕ) → from ≤ to
    → Tells (reaches (worst_value of taf metar hold from to) least) ((m : ℕ) → from ≤ m → m ≤ to → IsAtLeast (values_at of taf metar hold m) least)
unfolding worst_value value_at
worst_tells of taf metar hold from to least order =
    let f : ℕ → Option ℕ = λ m. least_of (values_at of taf metar hold m) in
    let by = worst_by_minutes f least from to order in
    tells_by (reaches (worst_of (map f (minutes from to))) least) ((m : ℕ) → from ≤ m → m ≤ to → IsAtLeast (values_at of taf metar hold m) least)
    (λ e m low high. told (reaches (f m) least) (IsAtLeast (values_at of taf metar hold m) least) (least_tells (values_at of taf metar hold m) least)
    (each_number (λ k. reaches (f k) least) from (to + 1 - from) (sym by ∙ e) m low (omega (arith, low, high))))
    (λ each. by ∙ all_numbers (λ k. reaches (f k) least) from (to + 1 - from)
    (λ m low high. tested (reaches (f m) least) (IsAtLeast (values_at of taf metar hold m) least) (least_tells (values_at of taf metar hold m) least) (each m low (omega (arith, order, high)))))

-- the weather at a minute is at or above minima
pub above_tells : (g : Grounds) (station : Station) (minute : ℕ) (minima : Pair) → Tells (is_met (weather_at g station minute) minima) (IsAtOrAbove g station minute minima)
unfolding cond_at value_at
above_tells g station minute minima =
    let high = named_at ceiling g station minute in
    let far = named_at visibility g station minute in
    tells_same (reaches (least_of high) minima.ceiling && reaches (least_of far) minima.vis) (IsAtLeast high minima.ceiling × IsAtLeast far minima.vis) (IsAtOrAbove g station minute minima)
    (λ two. record { feet = two.0; millimetres = two.1 }) (λ is. (is.feet, is.millimetres))
    (tells_and (reaches (least_of high) minima.ceiling) (reaches (least_of far) minima.vis) (IsAtLeast high minima.ceiling) (IsAtLeast far minima.vis)
    (least_tells high minima.ceiling) (least_tells far minima.vis))

-- or some of them
pub meets_tells : (g : Grounds) (station : Station) (minute : ℕ) (minima : List Pair) → Tells (meets (weather_at g station minute) minima) (Any (IsAtOrAbove g station minute) minima)
unfolding meets
meets_tells g station minute minima =
    tells_any (λ pair. is_met (weather_at g station minute) pair) (IsAtOrAbove g station minute) (λ pair. above_tells g station minute pair) minima

-- for each element, from an hour before the ETA to an hour after it
abbrev EachAtLeast : Element → Grounds → Leg → ℕ → Type 0
EachAtLeast of g leg least = (m : ℕ) → leg.eta - 60 ≤ m → m ≤ leg.eta + 60 → IsAtLeast (named_at of g leg.to m) least

pub stays_tells : (g : Grounds) (leg : Leg) (minima : Pair) → Tells (is_met (worst_weather g leg.to (leg.eta - 60) (leg.eta + 60)) minima) (StaysAtOrAbove g leg minima)
unfolding worst_cond
stays_tells g leg minima =
    let taf = taf_latest g.reports leg.to in
    let metar = metar_latest g.reports leg.to in
    let hold = g.tables.settings.hold_minutes in
    let from : ℕ = leg.eta - 60 in
    let to : ℕ = leg.eta + 60 in
    let high : Bool = reaches (worst_value ceiling taf metar hold from to) minima.ceiling in
    let far : Bool = reaches (worst_value visibility taf metar hold from to) minima.vis in
    tells_same (high && far) (EachAtLeast ceiling g leg minima.ceiling × EachAtLeast visibility g leg minima.vis) (StaysAtOrAbove g leg minima)
    (λ two m low late. record { feet = two.0 m (omega (arith, low)) late; millimetres = two.1 m (omega (arith, low)) late })
    (λ is. (λ m low late. (is m (omega (arith, low)) late).feet, λ m low late. (is m (omega (arith, low)) late).millimetres))
    (tells_and high far (EachAtLeast ceiling g leg minima.ceiling) (EachAtLeast visibility g leg minima.vis)
    (worst_tells ceiling taf metar hold from to minima.ceiling (omega arith)) (worst_tells visibility taf metar hold from to minima.vis (omega arith)))
