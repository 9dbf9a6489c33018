-- When a deferred item is due.
use Rattle.std.proofs.Common.{◌<◌, ◌+◌, ◌*◌, ◌/◌, ℕ, arith}
use Rattle.ops_tables.specs.declared.rows.MelRow.{MelRow}
use Rattle.deferrals.specs.Due.{due, days_allowed}

day_after : (found days : ℕ) → found < 1440 * (found / 1440 + 1 + days)
day_after found days = omega arith

-- an item is due after it was found
pub due_after : (row : MelRow) (found : ℕ) → found < due row found
due_after row found = day_after found (days_allowed row.category row.days)
