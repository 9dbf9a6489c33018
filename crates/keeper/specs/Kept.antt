-- What a load returns and a commit changes, if contracts know the keeper's rows.
use Rattle.std.specs.Prelude.{◌≡◌, ℕ, Bool, true, false, List, Option, None, Some, Result, IsErrOf}
use Rattle.desk_io.specs.declared.rows.Row.{Row}
use Rattle.desk_io.specs.declared.rows.Change.{Change}
use Rattle.desk_io.specs.Rows.{Rows, rows_of, changed_by}
use Rattle.keeper.specs.declared.keeping.KeepFault.{KeepFault}
use Rattle.keeper.specs.declared.keeping.KeepFault.TheVariants.{Failed}

-- every kind and key has the same body in both, or in neither
abbrev pub AreSame : Rows → Rows → Type 0
AreSame rows others = (kind key : ℕ) → rows kind key ≡ others kind key

-- the list contains exactly the known rows
abbrev pub Lists : Option Rows → List Row → Type 0
Lists None list = Unit {0}
Lists (Some rows) list = AreSame (rows_of list) rows

-- The changes turn the old rows into the new ones. The rows are known afterwards exactly if they were known before.
abbrev pub Leads : Option Rows → List Change → Option Rows → Type 0
Leads None changes None = Unit {0}
Leads (Some old) changes (Some new) = AreSame new (changed_by changes old)
Leads _ _ _ = ⊥

-- the call returns `Failed` exactly if that is planned
abbrev pub Fails : {T : Type 0} → Bool → Result T KeepFault → Type 0
Fails true r = IsErrOf r Failed
Fails false r = IsErrOf r Failed → ⊥
