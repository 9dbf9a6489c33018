-- The definitions of lower crates that the contracts of this crate cite.
pub use Rattle.rules.specs.Circumstances.{Case, case_of}
pub use Rattle.rules.specs.DestinationAlternates.{place_if, places_from}
pub use Rattle.rules.specs.Due.{IsBeforeDue, at_moment}
unfoldable pub use Rattle.rules.specs.Due.{next_due}
pub use Rattle.rules.specs.Equipment.{is_barred, is_barred_takeoff, is_limiting, is_overdue}
pub use Rattle.rules.specs.Frame.{with_deferrals, with_reports}
pub use Rattle.rules.specs.Grounds.{Grounds}
pub use Rattle.rules.specs.Judgement.{case_for, case_unless, finding, findings_by, findings_from, findings_of_tables, is_of_departure, places_at, places_for, places_in_case, places_of, tables_finding}
unfoldable pub use Rattle.rules.specs.Judgement.{findings_of}
pub use Rattle.rules.specs.Time.{is_late, late_places}
pub use Rattle.rules.specs.Touches.{is_of_tail}
unfoldable pub use Rattle.rules.specs.Touches.{names_station}
