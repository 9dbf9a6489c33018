-- The definitions of lower crates that the contracts of this crate cite.
pub use Rattle.records.specs.Below.{HasNoHours, Version}
pub use Rattle.records.specs.Below.VersionVariants.{First, Second}
pub use Rattle.records.specs.Bodies.{row_in, row_of}
pub use Rattle.records.specs.Checks.{IsChecked, IsDesk, IsFaultOf}
unfoldable pub use Rattle.records.specs.Faults.{fit}
pub use Rattle.records.specs.Reading.{are_old, version_if, version_of}
pub use Rattle.records.specs.Valid.{IsRecord}
pub use Rattle.records.specs.declared.checking.Checked.{Checked}
pub use Rattle.records.specs.declared.faults.RowWhy.{RowWhy}
pub use Rattle.records.specs.declared.faults.RowsFault.{RowsFault}
pub use Rattle.records.specs.declared.record.Record.{Record}
pub use Rattle.row_changes.specs.Held.{AreOfDesk}
unfoldable pub use Rattle.row_changes.specs.Held.{state_in}
unfoldable pub use Rattle.row_changes.specs.Judged.{judged_changes}
pub use Rattle.row_changes.specs.Opening.{reopened}
pub use Rattle.row_changes.specs.Rows.{AreKept, AreOldRows, records_of}
unfoldable pub use Rattle.row_changes.specs.Upgraded.{opened_changes, upgraded_changes}
pub use Rattle.records.specs.declared.faults.RowWhy.TheVariants as RowWhyVariants
pub use Rattle.records.specs.declared.faults.RowsFault.TheVariants as RowsFaultVariants
