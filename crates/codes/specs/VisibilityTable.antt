-- The table of visibility groups and the millimetres that each reports (FMH-1, 12.6.6; WMO FM 15, 15.6).
use Rattle.std.specs.Prelude.{◌≡◌, ◌≢◌, ℕ, ◌+◌, ◌-◌, ◌*◌, ◌/◌, ◌≤◌, ◌<◌, List, ◌++◌, slice_index, Option, None, Some, codes, decimal}
use Rattle.codes.specs.declared.shapes.Named.{Named}
use Rattle.codes.specs.declared.shapes.Named.TheVariants.{Value, Nothing, Bad}
use Rattle.codes.specs.Digits.{OneOrTwoDigits, FourDigits}

-- the denominators of fractions of a mile
pub data IsPartOfMile : ℕ → Type 0 where
  halves : IsPartOfMile 2
  quarters : IsPartOfMile 4
  eighths : IsPartOfMile 8
  sixteenths : IsPartOfMile 16

-- the text n/d, less than a whole mile and without leading zeros
pub record IsFractionOfMile (text : List ℕ) (n d : ℕ) : Type 0 where
  pub parts : IsPartOfMile d
  pub some : 1 ≤ n
  pub part : n < d
  pub shown : text ≡ decimal n ++ codes "/" ++ decimal d

-- a group in statute miles and its millimetres; P adds one millimetre, and M subtracts one
pub data InMiles : List ℕ → ℕ → Type 0 where
  miles : {text : List ℕ} {n : ℕ} → OneOrTwoDigits text n → InMiles (text ++ codes "SM") (n * 1_609_344)
  above_miles : {text : List ℕ} {n : ℕ} → OneOrTwoDigits text n → InMiles (codes "P" ++ text ++ codes "SM") (n * 1_609_344 + 1)
  fraction : {text : List ℕ} {n d : ℕ} → IsFractionOfMile text n d → InMiles (text ++ codes "SM") (n * (16 / d) * 100_584)
  below_fraction : {text : List ℕ} {n d : ℕ} → IsFractionOfMile text n d → InMiles (codes "M" ++ text ++ codes "SM") (n * (16 / d) * 100_584 - 1)

-- a group in metres and its millimetres; NDV means that the sensor gives no directional variation
pub data InMetres : List ℕ → ℕ → Type 0 where
  metres : {text : List ℕ} {m : ℕ} → FourDigits text m → m ≢ 9999 → InMetres text (m * 1000)
  undirected : {text : List ℕ} {m : ℕ} → FourDigits text m → m ≢ 9999 → InMetres (text ++ codes "NDV") (m * 1000)
  ten_kilometres : InMetres (codes "9999") 10_000_000
  undirected_ten_kilometres : InMetres (codes "9999NDV") 10_000_000

-- what the table gives for a group
pub record IsTabledVisibility (group : List ℕ) (named : Named) : Type 0 where
  pub in_miles : (mm : ℕ) → InMiles group mm → named ≡ Value mm
  pub in_metres : (mm : ℕ) → InMetres group mm → named ≡ Value mm
  pub cavok : group ≡ codes "CAVOK" → named ≡ Value 10_000_000
  -- the group ends in SM, doesn't begin with /, and isn't in miles
  pub bad : (front : List ℕ) → group ≡ front ++ codes "SM" → slice_index group 0 ≢ 47 → ((mm : ℕ) → InMiles group mm → ⊥) → named ≡ Bad
  -- the group doesn't end in SM or begins with /, isn't in metres, and isn't CAVOK
  pub other : ((front : List ℕ) → group ≡ front ++ codes "SM" → slice_index group 0 ≡ 47) → ((mm : ℕ) → InMetres group mm → ⊥) → group ≢ codes "CAVOK" → named ≡ Nothing

-- whole miles and a fraction of a mile in two groups, and their millimetres
pub data InTwoGroups : List ℕ → List ℕ → ℕ → Type 0 where
  miles_and_fraction : {before text : List ℕ} {m n d : ℕ} → OneOrTwoDigits before m → IsFractionOfMile text n d → InTwoGroups before (text ++ codes "SM") (m * 1_609_344 + n * (16 / d) * 100_584)

-- the sum of two groups, or None if they aren't whole miles and a fraction
pub record IsTabledSum (before group : List ℕ) (sum : Option ℕ) : Type 0 where
  pub in_two_groups : (mm : ℕ) → InTwoGroups before group mm → sum ≡ Some mm
  pub alone : ((mm : ℕ) → InTwoGroups before group mm → ⊥) → sum ≡ None
