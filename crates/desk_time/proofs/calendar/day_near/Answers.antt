use Rattle.std.proofs.Common.{◌≡◌, ◌+◌, ◌≤◌, min, pos, arith}
use Rattle.jiff_core.specs.Calendar.{days_in_month}
use Rattle.desk_time.specs.Calendar.{day_number}
use Rattle.desk_time.proofs.CalendarLaws.{number_is}
use Rattle.desk_time.proofs.calendar.day_near.Goals as goal

both : (c : goal.After-days_since_min) → (c.days_since_min.result ≡ day_number c.args.year c.args.month (min c.args.day (days_in_month (pos c.args.year) c.args.month)) + 4_371_587) × (10_957 ≤ day_number c.args.year c.args.month (min c.args.day (days_in_month (pos c.args.year) c.args.month)))
both c = number_is c.date_near-date.result c.args.year c.args.month _ c.days_since_min.result c.date_near-date.ensures.year c.date_near-date.ensures.month c.date_near-date.ensures.day c.requires.year.0 c.days_since_min.ensures.value

pub returns-clause-value : goal.returns-clause-value
returns-clause-value c = let b = both c in omega (arith, b.0)

pub returns-clause-low : goal.returns-clause-low
returns-clause-low c = let b = both c in omega (arith, b.0, b.1)

pub overflow_sub-result : goal.overflow_sub-result
overflow_sub-result c = let b = both c in omega (arith, b.0)
