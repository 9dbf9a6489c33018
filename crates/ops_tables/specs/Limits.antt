-- The form and range of each column: feet, sixteenths of a statute mile, minutes, pounds, knots and nautical miles.
use Rattle.std.specs.Prelude.{◌≤◌, ◌&&◌, IsTrue}
use Rattle.std.specs.List.{list_all}
use Rattle.ops_tables.specs.Forms.{is_name, is_tail, is_person, is_key, are_names, are_item_names, are_two_items}
use Rattle.ops_tables.specs.declared.rows.Settings.{Settings}
use Rattle.ops_tables.specs.declared.rows.Airport.{Airport}
use Rattle.ops_tables.specs.declared.rows.Approach.{Approach}
use Rattle.ops_tables.specs.declared.rows.AlternateRow.{AlternateRow}
use Rattle.ops_tables.specs.declared.rows.TypeRow.{TypeRow}
use Rattle.ops_tables.specs.declared.rows.Tail.{Tail}
use Rattle.ops_tables.specs.declared.rows.Use.{Use}
use Rattle.ops_tables.specs.declared.rows.Distance.{Distance}
use Rattle.ops_tables.specs.declared.rows.MelRow.{MelRow}
use Rattle.ops_tables.specs.Rows.{ItemPair, Actor, CaptainHours}

pub record FitsSettings (s : Settings) : Type 0 where
  pub hold_minutes : s.hold_minutes ≤ 1440
  pub marginal_ceiling : s.marginal_ceiling ≤ 20000
  pub single_ceiling : s.single_ceiling ≤ 20000
  pub double_ceiling : s.double_ceiling ≤ 20000
  pub marginal_vis16 : s.marginal_vis16 ≤ 160
  pub single_vis16 : s.single_vis16 ≤ 160
  pub double_vis16 : s.double_vis16 ≤ 160
  pub late_off : s.late_off ≤ 1440
  pub late_on : s.late_on ≤ 1440

pub record FitsAirport (a : Airport) : Type 0 where
  pub circle : a.circle ≤ 20000

pub record FitsApproach (a : Approach) : Type 0 where
  pub names : IsTrue (are_names a.name a.runway a.capability)
  pub height : a.height ≤ 20000
  pub ceiling : a.ceiling ≤ 20000
  pub vis16 : a.vis16 ≤ 160

pub record FitsAlternate (a : AlternateRow) : Type 0 where
  pub ceiling : a.ceiling ≤ 20000
  pub vis16 : a.vis16 ≤ 160

pub record FitsType (t : TypeRow) : Type 0 where
  pub kind : IsTrue (is_name t.kind)
  pub least_engines : 2 ≤ t.engines
  pub engines : t.engines ≤ 4
  pub least_speed : 1 ≤ t.oei_knots
  pub oei_knots : t.oei_knots ≤ 1000
  pub least_cruise : 1 ≤ t.cruise_pph
  pub cruise_pph : t.cruise_pph ≤ 100000
  pub least_hold : 1 ≤ t.hold_pph
  pub hold_pph : t.hold_pph ≤ 100000
  pub capabilities : IsTrue (list_all is_name t.capabilities)

pub record FitsTail (r : Tail) : Type 0 where
  pub tail : IsTrue (is_tail r.tail && is_name r.kind)

pub record FitsUse (u : Use) : Type 0 where
  pub kind : IsTrue (is_name u.kind)

pub record FitsDistance (d : Distance) : Type 0 where
  pub miles : d.miles ≤ 20000

pub record FitsItem (r : MelRow) : Type 0 where
  pub names : IsTrue (are_item_names r.kind r.item r.capability)
  pub days : r.days ≤ 365
  pub extra_fuel : r.extra_fuel ≤ 100000
  pub max_minutes : r.max_minutes ≤ 1440

pub record FitsPair (p : ItemPair) : Type 0 where
  pub items : IsTrue (are_two_items p.kind p.item p.other)

pub record FitsActor (a : Actor) : Type 0 where
  pub name : IsTrue (is_person a.name && is_key a.key)

pub record FitsHours (h : CaptainHours) : Type 0 where
  pub names : IsTrue (is_person h.captain && is_name h.kind)
  pub hours : h.hours ≤ 100000
