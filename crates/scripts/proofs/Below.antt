-- Laws of lower crates that proofs of the commands cite.
pub use Rattle.desk.proofs.AskedLaws.{keeper_later}
pub use Rattle.desk.proofs.Choices.{rise_lower, rise_within}
pub use Rattle.desk.proofs.Merged.{merged_lower, part_lower}
pub use Rattle.desk.proofs.Positions.{history_lower}
unfoldable pub use Rattle.desk.proofs.Opened.{entered_on}
pub use Rattle.desk.proofs.Opened.{opened_stored, opened_tables}
