-- The plans of generated flights: from Boston to New York, with Philadelphia as alternate.
use Rattle.std.specs.Prelude.{ℕ, ◌++◌, [], ◌∷◌, List, None, codes, decimal}
use Rattle.plan.specs.declared.flights.Alternate.{Alternate}
use Rattle.plan.specs.declared.flights.Kind.TheVariants.{Domestic}
use Rattle.plan.specs.declared.flights.Leg.{Leg}
use Rattle.plan.specs.declared.flights.Plan.{Plan}

-- 2025-03-12T18:00Z
abbrev pub etd : ℕ
etd = 29_030_040

-- 2025-03-12T19:00Z
abbrev pub eta : ℕ
eta = 29_030_100

abbrev pub alternate : Alternate
alternate = record { station = codes "KPHL"; minutes = 35; fuel = 3_000 }

abbrev pub leg : ℕ → Leg
leg minimum = record {
  from = codes "KBOS";
  to = codes "KJFK";
  etd = etd;
  eta = eta;
  minutes = 55;
  burn = 12_000;
  extra = 0;
  minimum = minimum;
  onboard = 20_000;
  takeoff_alternate = None;
  alternates = alternate ∷ [];
}

-- the flights are DK1, DK2 and so on
abbrev pub flight : ℕ → List ℕ
flight number = codes "DK" ++ decimal number

-- the plan of flight `number` with this minimum fuel
abbrev pub plan_of : ℕ → ℕ → Plan
plan_of number minimum = record { flight = flight number; tail = codes "N801DK"; kind = Domestic; captain = codes "C7"; legs = leg minimum ∷ [] }
