-- Laws of the crates below that proofs above cite.
pub use Rattle.rules.proofs.FrameLaws.{findings_swept}
pub use Rattle.rules.proofs.Laws.{findings_in_order}
pub use Rattle.rules.proofs.NextDue.{next_due_is}
pub use Rattle.rules.proofs.OpenFrame.{one_of_id}
pub use Rattle.rules.proofs.TouchLaws.{ignores_clearing, ignores_deferral, ignores_report}
pub use Rattle.rules.proofs.UntilDue.{stays_until}
