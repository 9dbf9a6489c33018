-- The days that a category leaves for the repair, and when an item is due.
use Rattle.std.proofs.Common.{◌≡◌, ℕ, ◌+◌, ◌*◌, ◌/◌, ◌<◌, ◌≤◌, refl, arith}
use Rattle.ops_tables.specs.declared.rows.MelRow.{MelRow}
use Rattle.ops_tables.specs.declared.rows.Category.{Category}
use Rattle.ops_tables.specs.declared.rows.Category.TheVariants.{A, B, C, D}
use Rattle.deferrals.specs.Due.{days_allowed, due, LeavesDays, as_stated, three, ten, hundred_and_twenty, EndsRepair}

pub allowed_are_left : (category : Category) (stated : ℕ) → LeavesDays category stated (days_allowed category stated)
allowed_are_left A stated = as_stated
allowed_are_left B stated = three
allowed_are_left C stated = ten
allowed_are_left D stated = hundred_and_twenty

pub left_are_allowed : {category : Category} {stated days : ℕ} → LeavesDays category stated days → days_allowed category stated ≡ days
left_are_allowed as_stated = refl
left_are_allowed three = refl
left_are_allowed ten = refl
left_are_allowed hundred_and_twenty = refl

in_time : (found days minute : ℕ) → minute < 1440 * (found / 1440 + 1 + days) → minute / 1440 ≤ found / 1440 + days
in_time found days minute h = omega (arith, h)

too_late : (found days minute : ℕ) → 1440 * (found / 1440 + 1 + days) ≤ minute → found / 1440 + days < minute / 1440
too_late found days minute h = omega (arith, h)

pub due_ends_repair : (row : MelRow) (found moment : ℕ) → moment ≡ due row found → EndsRepair row found moment
due_ends_repair row found moment is =
    let days : ℕ = days_allowed row.category row.days in
    rw is (record { days = days; leaves = allowed_are_left row.category row.days; in_time = in_time found days; too_late = too_late found days })
