-- Tables in which names have their forms and the hours of captains are in range.
use Rattle.std.specs.Prelude.{◌≡◌, ◌≤◌, true}
use Rattle.std.specs.List.{AllByRecursion}
use Rattle.ops_tables.specs.Forms.{is_tail, is_item, is_person}
use Rattle.ops_tables.specs.Tables.{TableRows}

-- the columns that the desk's records repeat: names of aircraft, items and people, and the hours of captains
pub record AreNamed (t : TableRows) : Type 0 where
  pub tails : AllByRecursion (λ r. is_tail r.tail ≡ true) t.tails
  pub items : AllByRecursion (λ r. is_item r.item ≡ true) t.mel
  pub people : AllByRecursion (λ a. is_person a.name ≡ true) t.actors
  pub hours : AllByRecursion (λ h. h.hours ≤ 100_000) t.hours
