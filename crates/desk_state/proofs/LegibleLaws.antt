-- A revision whose fields have their forms is told by its text.
use Rattle.std.proofs.Common.{◌≡◌, ℕ, true, not, ◌==◌, List, [], ◌∷◌, Option, None, Some, refl, arith}
use Rattle.std.specs.List.{AllByRecursion, list_all}
use Rattle.std.proofs.lemmas.Bool.{and_parts}
use Rattle.std.proofs.lemmas.Bool.Decides.{nat_tests}
use Rattle.ops_tables.specs.Forms.{in_key}
use Rattle.plan.specs.declared.flights.Alternate.{Alternate}
use Rattle.plan.specs.declared.flights.TakeoffAlternate.{TakeoffAlternate}
use Rattle.plan.specs.declared.flights.Leg.{Leg}
use Rattle.plan.specs.declared.release.Revision.{Revision}
use Rattle.asks.specs.Forms.{IsAlternate, IsAmount, IsLeg, IsRevision, MayBeTakeoff}
use Rattle.asks.proofs.Printable.{names_printable, station_printable}
use Rattle.release_text.specs.Legible.{IsLegible, IsLegibleAlternate, IsLegibleLeg, IsLegibleTakeoff, IsNumber, IsWord}

printable : (b : ℕ) → in_key b ≡ true → (not (b == 32) ≡ true) × (not (b == 10) ≡ true)
printable b is = (grind (arith, nat_tests, is), grind (arith, nat_tests, is))

-- printable characters without blanks are a word
word : (t : List ℕ) → list_all in_key t ≡ true → IsWord t
word [] is = record { unbroken = refl; line = refl }
word (b ∷ t) is =
    let parts = and_parts (in_key b) (list_all in_key t) is in
    let first = printable b parts.0 in
    let later = word t parts.1 in
    record { unbroken = rw first.0 later.unbroken; line = rw first.1 later.line }

amount : (n : ℕ) → IsAmount n → IsNumber n
amount n few = omega (arith, few)

takeoff : (t : Option TakeoffAlternate) → MayBeTakeoff t → IsLegibleTakeoff t
takeoff None is = tt
takeoff (Some t) is = (word t.station (station_printable t.station is.station), amount t.minutes is.minutes)

alternates : (ns : List Alternate) → AllByRecursion IsAlternate ns → AllByRecursion IsLegibleAlternate ns
alternates [] is = tt
alternates (a ∷ ns) is =
    (record { station = word a.station (station_printable a.station is.0.station); minutes = amount a.minutes is.0.minutes; fuel = amount a.fuel is.0.fuel }, alternates ns is.1)

legs : (ls : List Leg) → AllByRecursion IsLeg ls → AllByRecursion IsLegibleLeg ls
legs [] is = tt
legs (l ∷ ls) is = (
  record {
    from = word l.from (station_printable l.from is.0.from);
    to = word l.to (station_printable l.to is.0.to);
    etd = is.0.etd;
    eta = is.0.eta;
    minutes = amount l.minutes is.0.minutes;
    burn = amount l.burn is.0.burn;
    extra = amount l.extra is.0.extra;
    minimum = amount l.minimum is.0.minimum;
    onboard = amount l.onboard is.0.onboard;
    takeoff = takeoff l.takeoff_alternate is.0.takeoff;
    alternates = alternates l.alternates is.0.alternates;
  },
  legs ls is.1,
)

-- the plan and the number of each revision that is held or kept
pub legible : (v : Revision) → IsRevision v → IsLegible v.plan × IsNumber v.number
legible v is = let names = names_printable v.plan is.plan in (
  record {
    flight = word v.plan.flight names.0;
    tail = word v.plan.tail names.1;
    captain = word v.plan.captain names.2;
    legs = legs v.plan.legs is.plan.legs;
  },
  (let few = is.number in omega (arith, few)),
)
