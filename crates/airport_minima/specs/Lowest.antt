-- The lowest approaches of a station, and a flag flight's weather without an alternate, from them (14 CFR
-- 121.621(a)(1)).
use Rattle.std.specs.Prelude.{◌≡◌, ℕ, ◌+◌, ◌*◌, ◌<◌, ◌≤◌, max, List, map, All, Contains}
use Rattle.desk_io.specs.Station.{Station}
use Rattle.desk_io.specs.declared.pair.Pair.{Pair}
use Rattle.ops_tables.specs.declared.rows.TypeRow.{TypeRow}
use Rattle.ops_tables.specs.Tables.{TableRows}
use Rattle.airport_minima.specs.Minima.{usable}
use Rattle.airport_minima.specs.Floor.{circle_of}

-- the least of the values: one has it, and none is lower
pub record IsLeastOf (values : List ℕ) (least : ℕ) : Type 0 where
  pub none_is_lower : All (λ value. least ≤ value) values
  pub one_has_it : Contains values least

-- The least weather at a station in which a flag flight needs no alternate. It comes from the lowest height in feet
-- and the lowest visibility in sixteenths of a mile of the approaches that the type can fly.
pub record IsFlagFloor (tables : TableRows) (kind : TypeRow) (station : Station) (lost : List (List ℕ)) (floor : Pair) : Type 0 where
  pub height : ℕ
  pub lowest_height : IsLeastOf (map (λ a. a.height) (usable tables kind station lost)) height
  pub sixteenths : ℕ
  pub lowest_visibility : IsLeastOf (map (λ a. a.vis16) (usable tables kind station lost)) sixteenths
  pub over_circling : 0 < circle_of tables station → floor.ceiling ≡ circle_of tables station + 1_500
  pub over_lowest : circle_of tables station ≡ 0 → floor.ceiling ≡ max (height + 1_500) 2_000
  pub visibility : floor.vis ≡ max (sixteenths * 100_584 + 2 * 1_609_344) (3 * 1_609_344)
