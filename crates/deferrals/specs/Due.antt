-- The moment by which a deferred item must be repaired (14 CFR 121.628).
use Rattle.std.specs.Prelude.{ℕ, ◌+◌, ◌*◌, ◌/◌, ◌<◌, ◌≤◌}
use Rattle.ops_tables.specs.declared.rows.MelRow.{MelRow}
use Rattle.ops_tables.specs.declared.rows.Category.{Category}
use Rattle.ops_tables.specs.declared.rows.Category.TheVariants.{A, B, C, D}

-- the days that a category allows for the repair; category A allows those in the row
abbrev pub days_allowed : Category → ℕ → ℕ
days_allowed A days = days
days_allowed B days = 3
days_allowed C days = 10
days_allowed D days = 120

-- the start of the day after the last allowed day; allowed days are counted from the day after the fault was found
abbrev pub due : MelRow → ℕ → ℕ
due row found = 1440 * (found / 1440 + 1 + days_allowed row.category row.days)

-- the days that a category allows for the repair, given the days in the row
pub data LeavesDays : Category → ℕ → ℕ → Type 0 where
  as_stated : {days : ℕ} → LeavesDays A days days
  three : {stated : ℕ} → LeavesDays B stated 3
  ten : {stated : ℕ} → LeavesDays C stated 10
  hundred_and_twenty : {stated : ℕ} → LeavesDays D stated 120

-- The moment ends the time for the repair. Each minute before it falls on the day on which the fault was found, or on
-- one of the allowed days after it. No later minute does.
pub record EndsRepair (row : MelRow) (found moment : ℕ) : Type 0 where
  pub days : ℕ
  pub leaves : LeavesDays row.category row.days days
  pub in_time : (minute : ℕ) → minute < moment → minute / 1440 ≤ found / 1440 + days
  pub too_late : (minute : ℕ) → moment ≤ minute → found / 1440 + days < minute / 1440
