-- The rows of tables that are being loaded.
use Rattle.ops_tables.specs.Tables.{TableRows}
use Rattle.ops_tables.specs.declared.loading.Loading.{Loading}

abbrev pub shown : Loading → TableRows
shown t = record {
  settings = t.settings;
  airports = t.airports;
  approaches = t.approaches;
  alternates = t.alternates;
  types = t.types;
  tails = t.tails;
  uses = t.uses;
  distances = t.distances;
  routes = t.routes;
  mel = t.mel;
  pairs = t.pairs;
  actors = t.actors;
  hours = t.hours;
}
