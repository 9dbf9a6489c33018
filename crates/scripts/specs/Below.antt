-- Names from lower crates that clauses of the commands use.
pub use Rattle.desk.specs.Below.{IsFaultOf, Record, RowWhy, RowsFault, Shown, reopened, shown}
unfoldable pub use Rattle.desk.specs.Below.{state_in}
pub use Rattle.desk.specs.Heard.{told_by_all}
pub use Rattle.desk.specs.InPart.{AreGivenInPart, IsRunInPart}
pub use Rattle.desk.specs.Items.{items_of_lines}
pub use Rattle.desk.specs.Keeping.{Choice, KeepsState, KeptAt, after_with, from_count, kept_at, numbers_of}
pub use Rattle.desk.specs.Made.{IsMade, IsMadeInPart, made_items}
pub use Rattle.desk.specs.Opening.{AreAsked, AreLoaded, IsEntered, IsLeft, IsOfKeeper, IsOpened, IsWhy, MayHaveAsked, NotEntered, OnLoaded, OpensOver, TellsRowsOf, board_of, stored_at_opening}
pub use Rattle.desk.specs.Race.{IsRace, IsRaceInPart}
pub use Rattle.desk.specs.Run.{IsRun, IsRunOf, items_of, lines_of}
pub use Rattle.desk.specs.Saved.{stored_in}
pub use Rattle.desk.specs.Seen.{DeskAt, DeskGoesOn, desk_at, desk_seen}
pub use Rattle.desk.specs.declared.opening.OpenWhy.{OpenWhy}
pub use Rattle.desk.specs.declared.settling.Desk.{Desk}
pub use Rattle.desk_state.specs.Sound.{IsBoard}
pub use Rattle.desk_state.specs.State.{State, grounds_of}
pub use Rattle.desk_state.specs.Texts.{closing}
pub use Rattle.desk_state.specs.declared.lanes.Item.{Item}
pub use Rattle.rules.specs.Grounds.{grounds_held}
pub use Rattle.desk.specs.Below.RowWhyVariants as RowWhyVariants
pub use Rattle.desk.specs.Below.RowsFaultVariants as RowsFaultVariants
pub use Rattle.desk.specs.declared.opening.OpenWhy.TheVariants as OpenWhyVariants
