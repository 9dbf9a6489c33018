use Rattle.std.proofs.Common.{ℕ, ◌≤◌, sym, subst}
use Rattle.desk_time.specs.Calendar.{civil_of, AreThreeMonths}
use Rattle.desk_time.proofs.MonthLaws.{three_months_later, three_months_range}
use Rattle.desk_time.proofs.calendar.three_months.Goals as goal

pub returns-clause-later : goal.returns-clause-later
returns-clause-later c = subst (λ (r : ℕ). AreThreeMonths (civil_of c.args.day) (civil_of r)) (sym c.three_after.ensures.value) (three_months_later c.args.day c.requires.low c.requires.high)

pub returns-clause-range : goal.returns-clause-range
returns-clause-range c = (c.three_after.ensures.low, subst (λ (r : ℕ). r ≤ 47_571) (sym c.three_after.ensures.value) (three_months_range c.args.day c.requires.low c.requires.high))
