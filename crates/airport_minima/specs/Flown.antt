-- The approaches of a station that a type can fly, and the landing minima from them (14 CFR 121.613).
use Rattle.std.specs.Prelude.{◌≡◌, ℕ, ◌*◌, List, All, Any, Contains}
use Rattle.desk_io.specs.Station.{Station}
use Rattle.desk_io.specs.declared.pair.Pair.{Pair}
use Rattle.ops_tables.specs.declared.rows.Approach.{Approach}
use Rattle.ops_tables.specs.declared.rows.TypeRow.{TypeRow}
use Rattle.ops_tables.specs.Tables.{TableRows, approaches_of}
use Rattle.airport_minima.specs.Minima.{usable}

-- The type can fly the approach. It has the capability that the approach needs, and hasn't lost it.
pub record CanFly (kind : TypeRow) (lost : List (List ℕ)) (approach : Approach) : Type 0 where
  pub has : Any (λ name. name ≡ approach.capability) kind.capabilities
  pub keeps : Any (λ name. name ≡ approach.capability) lost → ⊥

-- The usable approaches are all those of the station that the type can fly, and no others.
pub record AreFlown (tables : TableRows) (kind : TypeRow) (station : Station) (lost : List (List ℕ)) : Type 0 where
  pub only : All (λ a. Contains (approaches_of tables station) a × CanFly kind lost a) (usable tables kind station lost)
  pub each : All (λ a. CanFly kind lost a → Contains (usable tables kind station lost) a) (approaches_of tables station)

-- the landing minima of an approach
pub record IsLanding (approach : Approach) (pair : Pair) : Type 0 where
  pub ceiling : pair.ceiling ≡ approach.ceiling
  pub visibility : pair.vis ≡ approach.vis16 * 100_584

-- The landing minima are those of all approaches of the station that the type can fly, and no others.
pub record AreLandingMinima (tables : TableRows) (kind : TypeRow) (station : Station) (lost : List (List ℕ)) (pairs : List Pair) : Type 0 where
  pub only : All (λ pair. (a : Approach) × Contains (approaches_of tables station) a × CanFly kind lost a × IsLanding a pair) pairs
  pub each : All (λ a. CanFly kind lost a → (pair : Pair) → IsLanding a pair → Contains pairs pair) (approaches_of tables station)
