-- The model of a history in contracts.
use Rattle.std.specs.Prelude.{Bool, List}
use Rattle.desk_state.specs.declared.entry.Entry.{Entry}

-- the entries, whether room for one more is reserved, and whether code stores the entries or only counts them
pub record Entries : Type 0 where
  pub list : List Entry
  pub room : Bool
  pub listed : Bool

abbrev pub entries_with : List Entry → Bool → Bool → Entries
entries_with list room listed = record { list = list; room = room; listed = listed }
