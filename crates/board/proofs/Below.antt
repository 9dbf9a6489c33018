-- Laws of the crates below that proofs above cite.
pub use Rattle.row_changes.proofs.DeskRecords.{records_formed}
pub use Rattle.row_changes.proofs.Faultless.{no_bad_pair, no_bad_row}
pub use Rattle.row_changes.proofs.OpeningLaws.{reopened_tables}
pub use Rattle.row_changes.proofs.RecordsAgain.{state_again}
pub use Rattle.row_changes.proofs.SameRows.{AreRowsIn, desk_records, first_rows, listed_as, listed_old, rise_as, second_rows}
