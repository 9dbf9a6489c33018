-- The text of a release is the text of one release alone.
use Rattle.std.proofs.Common.{◌≡◌, ℕ, ◌+◌, List, [], ◌∷◌, ◌++◌, Option, None, Some, codes, decimal, refl, sym, ap, ◌∙◌, append_assoc}
use Rattle.std.specs.List.{AllByRecursion}
use Rattle.std.proofs.lemmas.List.{append_cancel_left}
use Rattle.desk_time.specs.Moments.{shown}
use Rattle.plan.specs.declared.flights.Plan.{Plan}
use Rattle.plan.specs.declared.flights.Kind.{Kind}
use Rattle.plan.specs.declared.flights.Kind.TheVariants.{Domestic, Flag}
use Rattle.plan.specs.declared.flights.Leg.{Leg}
use Rattle.plan.specs.declared.flights.Alternate.{Alternate}
use Rattle.plan.specs.declared.flights.TakeoffAlternate.{TakeoffAlternate}
use Rattle.plan.specs.declared.release.Attached.{Attached}
use Rattle.release_text.specs.Text.{aircraft_line, alternate_line, alternate_lines, alternates_text, distance_text, ends_text, flight_line, fuel_line, head_text, kind_word, leg_line, leg_text, legs_text, minutes_text, planned_fuel, release_text, report_line, report_lines, supply, takeoff_line, times_text}
use Rattle.release_text.specs.Legible.{AreSame, IsLegible, IsLegibleAlternate, IsLegibleLeg, IsLegibleReport, IsLegibleTakeoff, IsNumber, Tells}
use Rattle.release_text.proofs.Pieces.{alike, apart, firsts_differ, last_numbers, moments, never_both, numbers, split, texts}

-- ---- the head

kinds : (k l : Kind) (rest more : List ℕ) → (kind_word k ++ (codes "\n" ++ [])) ++ rest ≡ (kind_word l ++ (codes "\n" ++ [])) ++ more → (k ≡ l) × (rest ≡ more)
kinds Domestic Domestic rest more e = (refl, append_cancel_left (codes "DOMESTIC\n") rest more e)
kinds Domestic Flag rest more e = absurd (firsts_differ 68 70 _ _ refl e)
kinds Flag Domestic rest more e = absurd (firsts_differ 70 68 _ _ refl e)
kinds Flag Flag rest more e = (refl, append_cancel_left (codes "FLAG\n") rest more e)

abbrev number_part : ℕ → List ℕ
number_part m = codes "REVISION " ++ (decimal m ++ codes " ")

abbrev trip_part : Plan → ℕ → List ℕ
trip_part p m = codes "FLIGHT " ++ (p.flight ++ (32 ∷ number_part m))

abbrev kind_part : Plan → List ℕ
kind_part p = kind_word p.kind ++ codes "\n"

module _ (p q : Plan) (f : IsLegible p) (g : IsLegible q) where
  flights : (m n : ℕ) (rest more : List ℕ) → IsNumber m → IsNumber n → flight_line p m ++ rest ≡ flight_line q n ++ more
      → (p.flight ≡ q.flight) × (m ≡ n) × (p.kind ≡ q.kind) × (rest ≡ more)
  flights m n rest more few small e =
      let flight = texts (codes "FLIGHT ") 32 p.flight q.flight (number_part m) (number_part n) (kind_part p ++ rest) (kind_part q ++ more)
      f.flight.unbroken g.flight.unbroken (split (trip_part p m) (kind_part p) (trip_part q n) (kind_part q) rest more e) in
      let number = numbers (codes "REVISION ") 32 m n [] [] (kind_part p ++ rest) (kind_part q ++ more) refl few small flight.1 in
      let kind = kinds p.kind q.kind rest more number.1 in
      (flight.0, number.0, kind.0, kind.1)

  aircraft : (rest more : List ℕ) → aircraft_line p ++ rest ≡ aircraft_line q ++ more → (p.tail ≡ q.tail) × (p.captain ≡ q.captain) × (rest ≡ more)
  aircraft rest more e =
      let tail = texts (codes "AIRCRAFT ") 32 p.tail q.tail _ _ rest more f.tail.unbroken g.tail.unbroken e in
      let captain = texts (codes "CAPTAIN ") 10 p.captain q.captain [] [] rest more f.captain.line g.captain.line tail.1 in
      (tail.0, captain.0, captain.1)

-- ---- a leg

-- the airports of a leg of the same number, its moments and its minutes
record SameLine (l k : Leg) (left right : List ℕ) : Type 0 where
  pub from : l.from ≡ k.from
  pub to : l.to ≡ k.to
  pub etd : l.etd ≡ k.etd
  pub eta : l.eta ≡ k.eta
  pub minutes : l.minutes ≡ k.minutes
  pub rest : left ≡ right

leg_regrouped : (n : ℕ) (l : Leg) (rest : List ℕ) → leg_line n l ++ rest ≡ ends_text n l ++ (times_text l ++ (minutes_text l ++ rest))
unfolding leg_line
leg_regrouped n l rest = append_assoc (ends_text n l ++ times_text l) (minutes_text l) rest ∙ append_assoc (ends_text n l) (times_text l) (minutes_text l ++ rest)

abbrev from_part : Leg → List ℕ
from_part l = codes " " ++ (l.from ++ codes " ")

abbrev number_of_leg : ℕ → Leg → List ℕ
number_of_leg n l = codes "LEG " ++ (decimal n ++ from_part l)

abbrev eta_part : Leg → List ℕ
eta_part l = codes " ETA " ++ (shown l.eta ++ [])

abbrev after_to : Leg → List ℕ → List ℕ
after_to l rest = times_text l ++ (minutes_text l ++ rest)

lines : (n : ℕ) (l k : Leg) (rest more : List ℕ) → IsLegibleLeg l → IsLegibleLeg k → leg_line n l ++ rest ≡ leg_line n k ++ more → SameLine l k rest more
lines n l k rest more f g e =
    let whole = sym (leg_regrouped n l rest) ∙ e ∙ leg_regrouped n k more in
    let named = alike (codes "LEG ") (decimal n) (from_part l) (from_part k) (l.to ++ after_to l rest) (k.to ++ after_to k more)
    (split (number_of_leg n l) l.to (number_of_leg n k) k.to (after_to l rest) (after_to k more) whole) in
    let from = texts (codes " ") 32 l.from k.from [] [] (l.to ++ after_to l rest) (k.to ++ after_to k more) f.from.unbroken g.from.unbroken named in
    let to = apart 32 l.to k.to _ _ f.to.unbroken g.to.unbroken from.1 in
    let etd = moments (codes "ETD ") l.etd k.etd (eta_part l) (eta_part k) (minutes_text l ++ rest) (minutes_text k ++ more) f.etd g.etd to.1 in
    let eta = moments (codes " ETA ") l.eta k.eta [] [] (minutes_text l ++ rest) (minutes_text k ++ more) f.eta g.eta etd.1 in
    let minutes = numbers (codes " MINUTES ") 10 l.minutes k.minutes [] [] rest more refl f.minutes g.minutes eta.1 in
    record { from = from.0; to = to.0; etd = etd.0; eta = eta.0; minutes = minutes.0; rest = minutes.1 }

abbrev takeoff_minutes : TakeoffAlternate → List ℕ
takeoff_minutes a = codes "MINUTES " ++ (decimal a.minutes ++ codes "\n")

takeoffs : (a b : Option TakeoffAlternate) (rest more : List ℕ) → IsLegibleTakeoff a → IsLegibleTakeoff b → takeoff_line a ++ rest ≡ takeoff_line b ++ more → (a ≡ b) × (rest ≡ more)
unfolding takeoff_line
takeoffs None None rest more f g e = (refl, append_cancel_left (codes "TAKEOFF ALTERNATE NONE\n") rest more e)
takeoffs None (Some b) rest more f g e = absurd (never_both (codes "TAKEOFF ALTERNATE ") (codes "NONE") b.station (takeoff_minutes b) rest more refl g.0.line e)
takeoffs (Some a) None rest more f g e = absurd (never_both (codes "TAKEOFF ALTERNATE ") (codes "NONE") a.station (takeoff_minutes a) more rest refl f.0.line (sym e))
takeoffs (Some a) (Some b) rest more f g e =
    let station = texts (codes "TAKEOFF ALTERNATE ") 32 a.station b.station (takeoff_minutes a) (takeoff_minutes b) rest more f.0.unbroken g.0.unbroken e in
    let minutes = numbers (codes "MINUTES ") 10 a.minutes b.minutes [] [] rest more refl f.1 g.1 station.1 in
    ((λ i. Some (record { station = station.0 i; minutes = minutes.0 i })), minutes.1)

abbrev minutes_part : Alternate → List ℕ
minutes_part a = codes "MINUTES " ++ (decimal a.minutes ++ [])

abbrev fuel_part : Alternate → List ℕ
fuel_part a = codes " FUEL " ++ (decimal a.fuel ++ codes "\n")

one : (a b : Alternate) (rest more : List ℕ) → IsLegibleAlternate a → IsLegibleAlternate b → alternate_line a ++ rest ≡ alternate_line b ++ more → (a ≡ b) × (rest ≡ more)
unfolding alternate_line
one a b rest more f g e =
    let station = texts (codes "ALTERNATE ") 32 a.station b.station (minutes_part a) (minutes_part b) (fuel_part a ++ rest) (fuel_part b ++ more)
    f.station.unbroken g.station.unbroken (split (distance_text a) (fuel_part a) (distance_text b) (fuel_part b) rest more e) in
    let minutes = last_numbers (codes "MINUTES ") 32 a.minutes b.minutes _ _ refl f.minutes g.minutes station.1 in
    let fuel = numbers (codes "FUEL ") 10 a.fuel b.fuel [] [] rest more refl f.fuel g.fuel minutes.1 in
    ((λ i. record { station = station.0 i; minutes = minutes.0 i; fuel = fuel.0 i }), fuel.1)

-- the lines of alternates, where the line after them begins with a B
each : (xs ys : List Alternate) (rest more : List ℕ) → AllByRecursion IsLegibleAlternate xs → AllByRecursion IsLegibleAlternate ys
    → alternate_lines xs ++ 66 ∷ rest ≡ alternate_lines ys ++ 66 ∷ more → (xs ≡ ys) × (rest ≡ more)
unfolding alternate_line
each [] [] rest more f g e = (refl, append_cancel_left (66 ∷ []) rest more e)
each [] (b ∷ ys) rest more f g e = absurd (firsts_differ 66 65 _ _ refl e)
each (a ∷ xs) [] rest more f g e = absurd (firsts_differ 65 66 _ _ refl e)
each (a ∷ xs) (b ∷ ys) rest more f g e =
    let first = one a b (alternate_lines xs ++ 66 ∷ rest) (alternate_lines ys ++ 66 ∷ more) f.0 g.0 (split (alternate_line a) (alternate_lines xs) (alternate_line b) (alternate_lines ys) (66 ∷ rest) (66 ∷ more) e) in
    let later = each xs ys rest more f.1 g.1 first.1 in
    ((λ i. first.0 i ∷ later.0 i), later.1)

-- none, and some
never_any : (b : Alternate) (ys : List Alternate) (rest more : List ℕ) → IsLegibleAlternate b → alternates_text [] ++ rest ≡ alternates_text (b ∷ ys) ++ more → ⊥
unfolding alternates_text alternate_line
never_any b ys rest more g e =
    never_both (codes "ALTERNATE ") (codes "NONE") b.station (minutes_part b) rest (fuel_part b ++ (alternate_lines ys ++ more)) refl g.station.line
    (e ∙ append_assoc (alternate_line b) (alternate_lines ys) more ∙ append_assoc (distance_text b) (fuel_part b) (alternate_lines ys ++ more))

all_alternates : (xs ys : List Alternate) (rest more : List ℕ) → AllByRecursion IsLegibleAlternate xs → AllByRecursion IsLegibleAlternate ys
    → alternates_text xs ++ 66 ∷ rest ≡ alternates_text ys ++ 66 ∷ more → (xs ≡ ys) × (rest ≡ more)
unfolding alternates_text
all_alternates [] [] rest more f g e = (refl, append_cancel_left (codes "ALTERNATE NONE\nB") rest more e)
all_alternates [] (b ∷ ys) rest more f g e = absurd (never_any b ys _ _ g.0 e)
all_alternates (a ∷ xs) [] rest more f g e = absurd (never_any a xs _ _ f.0 (sym e))
all_alternates (a ∷ xs) (b ∷ ys) rest more f g e = each (a ∷ xs) (b ∷ ys) rest more f g e

-- the fuel of a leg
record SameFuel (l k : Leg) (left right : List ℕ) : Type 0 where
  pub burn : l.burn ≡ k.burn
  pub extra : l.extra ≡ k.extra
  pub minimum : l.minimum ≡ k.minimum
  pub onboard : l.onboard ≡ k.onboard
  pub rest : left ≡ right

abbrev extra_part : Leg → List ℕ
extra_part l = codes "EXTRA " ++ (decimal l.extra ++ [])

fuels : (l k : Leg) (rest more : List ℕ) → IsLegibleLeg l → IsLegibleLeg k → fuel_line l ++ rest ≡ fuel_line k ++ more → SameFuel l k rest more
unfolding fuel_line
fuels l k rest more f g e =
    let burn = numbers (codes "BURN ") 32 l.burn k.burn (extra_part l) (extra_part k) (supply l ++ rest) (supply k ++ more) refl f.burn g.burn
    (split (planned_fuel l) (supply l) (planned_fuel k) (supply k) rest more e) in
    let extra = last_numbers (codes "EXTRA ") 32 l.extra k.extra _ _ refl f.extra g.extra burn.1 in
    let minimum = numbers (codes "MINIMUM ") 32 l.minimum k.minimum _ _ rest more refl f.minimum g.minimum extra.1 in
    let onboard = numbers (codes "ONBOARD ") 10 l.onboard k.onboard [] [] rest more refl f.onboard g.onboard minimum.1 in
    record { burn = burn.0; extra = extra.0; minimum = minimum.0; onboard = onboard.0; rest = onboard.1 }

regrouped : (n : ℕ) (l : Leg) (rest : List ℕ)
    → leg_text n l ++ rest ≡ leg_line n l ++ (takeoff_line l.takeoff_alternate ++ (alternates_text l.alternates ++ (fuel_line l ++ rest)))
unfolding leg_text
regrouped n l rest =
    append_assoc _ (fuel_line l) rest ∙ append_assoc _ (alternates_text l.alternates) (fuel_line l ++ rest)
    ∙ append_assoc (leg_line n l) (takeoff_line l.takeoff_alternate) (alternates_text l.alternates ++ (fuel_line l ++ rest))

same_legs : (n : ℕ) (l k : Leg) (rest more : List ℕ) → IsLegibleLeg l → IsLegibleLeg k → leg_text n l ++ rest ≡ leg_text n k ++ more → (l ≡ k) × (rest ≡ more)
unfolding fuel_line
same_legs n l k rest more f g e =
    let line = lines n l k _ _ f g (sym (regrouped n l rest) ∙ e ∙ regrouped n k more) in
    let takeoff = takeoffs l.takeoff_alternate k.takeoff_alternate _ _ f.takeoff g.takeoff line.rest in
    let alternates = all_alternates l.alternates k.alternates _ _ f.alternates g.alternates takeoff.1 in
    let fuel = fuels l k rest more f g (ap (λ t. 66 ∷ t) alternates.1) in (
      (λ i. record {
        from = line.from i;
        to = line.to i;
        etd = line.etd i;
        eta = line.eta i;
        minutes = line.minutes i;
        burn = fuel.burn i;
        extra = fuel.extra i;
        minimum = fuel.minimum i;
        onboard = fuel.onboard i;
        takeoff_alternate = takeoff.0 i;
        alternates = alternates.0 i;
      }),
      fuel.rest,
    )

-- ---- the whole

-- what comes after the legs begins with another letter than a leg
after_legs : List Attached → List ℕ
after_legs attached = report_lines attached ++ codes "END\n"

never_leg : (attached : List Attached) (n : ℕ) (l : Leg) (more : List ℕ) → after_legs attached ≡ leg_text n l ++ more → ⊥
unfolding after_legs report_line leg_text leg_line
never_leg [] n l more e = firsts_differ 69 76 _ _ refl e
never_leg (a ∷ attached) n l more e = firsts_differ 82 76 _ _ refl e

all_legs : (n : ℕ) (ls ks : List Leg) (attached list : List Attached) → AllByRecursion IsLegibleLeg ls → AllByRecursion IsLegibleLeg ks
    → legs_text n ls ++ after_legs attached ≡ legs_text n ks ++ after_legs list → (ls ≡ ks) × (after_legs attached ≡ after_legs list)
all_legs n [] [] attached list f g e = (refl, e)
all_legs n [] (k ∷ ks) attached list f g e = absurd (never_leg attached n k _ (e ∙ append_assoc (leg_text n k) _ _))
all_legs n (l ∷ ls) [] attached list f g e = absurd (never_leg list n l _ (sym e ∙ append_assoc (leg_text n l) _ _))
all_legs n (l ∷ ls) (k ∷ ks) attached list f g e =
    let first = same_legs n l k _ _ f.0 g.0 (split (leg_text n l) (legs_text (n + 1) ls) (leg_text n k) (legs_text (n + 1) ks) (after_legs attached) (after_legs list) e) in
    let later = all_legs (n + 1) ls ks attached list f.1 g.1 first.1 in
    ((λ i. first.0 i ∷ later.0 i), later.1)

same_reports : (a b : Attached) (rest more : List ℕ) → IsLegibleReport a → IsLegibleReport b → report_line a ++ rest ≡ report_line b ++ more → (a ≡ b) × (rest ≡ more)
unfolding report_line
same_reports a b rest more f g e =
    let number = numbers (codes "REPORT ") 32 a.report b.report _ _ rest more refl f.report g.report e in
    let words = texts [] 10 a.text b.text [] [] rest more f.text g.text number.1 in
    ((λ i. record { report = number.0 i; text = words.0 i }), words.1)

all_reports : (xs ys : List Attached) → AllByRecursion IsLegibleReport xs → AllByRecursion IsLegibleReport ys → after_legs xs ≡ after_legs ys → xs ≡ ys
unfolding after_legs report_line
all_reports [] [] f g e = refl
all_reports [] (b ∷ ys) f g e = absurd (firsts_differ 69 82 _ _ refl e)
all_reports (a ∷ xs) [] f g e = absurd (firsts_differ 82 69 _ _ refl e)
all_reports (a ∷ xs) (b ∷ ys) f g e =
    let first = same_reports a b _ _ f.0 g.0 (split (report_line a) (report_lines xs) (report_line b) (report_lines ys) (codes "END\n") (codes "END\n") e) in
    let later = all_reports xs ys f.1 g.1 first.1 in
    λ i. first.0 i ∷ later i

head_regrouped : (p : Plan) (m : ℕ) (rest : List ℕ) → head_text p m ++ rest ≡ codes "DISPATCH RELEASE\n" ++ (flight_line p m ++ (aircraft_line p ++ rest))
unfolding head_text
head_regrouped p m rest =
    append_assoc (codes "DISPATCH RELEASE\n" ++ flight_line p m) (aircraft_line p) rest ∙ append_assoc (codes "DISPATCH RELEASE\n") (flight_line p m) (aircraft_line p ++ rest)

whole : (p : Plan) (m : ℕ) (attached : List Attached) → release_text p m attached ≡ codes "DISPATCH RELEASE\n" ++ (flight_line p m ++ (aircraft_line p ++ (legs_text 1 p.legs ++ after_legs attached)))
unfolding release_text after_legs
whole p m attached =
    append_assoc (head_text p m ++ legs_text 1 p.legs) (report_lines attached) (codes "END\n")
    ∙ append_assoc (head_text p m) (legs_text 1 p.legs) (after_legs attached) ∙ head_regrouped p m (legs_text 1 p.legs ++ after_legs attached)

same : (p q : Plan) (m n : ℕ) (attached list : List Attached) → IsLegible p → IsLegible q → IsNumber m → IsNumber n
    → release_text p m attached ≡ release_text q n list → AreSame q p n m list attached
same p q m n attached list f g few small e =
    let opened = append_cancel_left (codes "DISPATCH RELEASE\n") _ _ (sym (whole p m attached) ∙ e ∙ whole q n list) in
    let flight = flights p q f g m n _ _ few small opened in
    let craft = aircraft p q f g _ _ flight.3 in
    let legs = all_legs 1 p.legs q.legs attached list f.legs g.legs craft.2 in
    record {
      plans = λ i. record { flight = flight.0 i; tail = craft.0 i; kind = flight.2 i; captain = craft.1 i; legs = legs.0 i };
      revisions = flight.1;
      reports = λ known others. all_reports attached list others known legs.1;
    }

-- the text of a release tells it
pub tells : (plan : Plan) (revision : ℕ) (attached : List Attached) (text : List ℕ) → IsNumber revision → text ≡ release_text plan revision attached → Tells text plan revision attached
unfolding Tells
tells plan revision attached text few is legible other number list legible_too small is_too =
    same other plan number revision list attached legible_too legible small few (sym is_too ∙ is)
