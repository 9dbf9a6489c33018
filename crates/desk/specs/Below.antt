-- Names from lower crates that this crate's contracts use.
pub use Rattle.board.specs.Below.{IsFaultOf, Record, RowWhy, RowsFault, reopened}
unfoldable pub use Rattle.board.specs.Below.{state_in}
pub use Rattle.board.specs.Prepare.{Shown, shown}
pub use Rattle.board.specs.Below.RowWhyVariants as RowWhyVariants
pub use Rattle.board.specs.Below.RowsFaultVariants as RowsFaultVariants
