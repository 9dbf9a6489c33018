-- Tables in which each airport, type, item and captain that a row names is in its own table.
use Rattle.std.specs.Prelude.{IsTrue, ◌&&◌, All}
use Rattle.ops_tables.specs.Limits.{FitsSettings}
use Rattle.ops_tables.specs.Tables.{TableRows, has_airport, has_type, has_item, has_captain}

pub record AreLinked (t : TableRows) : Type 0 where
  pub settings : FitsSettings t.settings
  pub approaches : All (λ r. IsTrue (has_airport t r.station)) t.approaches
  pub alternates : All (λ r. IsTrue (has_airport t r.station)) t.alternates
  pub tails : All (λ r. IsTrue (has_type t r.kind)) t.tails
  pub uses : All (λ r. IsTrue (has_type t r.kind && has_airport t r.station)) t.uses
  pub distances : All (λ r. IsTrue (has_airport t r.from && has_airport t r.to)) t.distances
  pub routes : All (λ r. IsTrue (has_airport t r.from && has_airport t r.to)) t.routes
  pub mel : All (λ r. IsTrue (has_type t r.kind)) t.mel
  pub pairs : All (λ r. IsTrue (has_type t r.kind && has_item t r.kind r.item && has_item t r.kind r.other)) t.pairs
  pub hours : All (λ r. IsTrue (has_captain t r.captain && has_type t r.kind)) t.hours
