use Rattle.std.proofs.Common.{◌≡◌, ◌≤◌, drop}
use Rattle.desk_time.specs.Numbers.{digits_after}
use Rattle.desk_time.proofs.numbers.number_up_to.Given as goal

abbrev pub invariant-loop-digit : goal.invariant-loop-digit
invariant-loop-digit l = (l.number ≤ l.limit) × (digits_after l.number (drop l.digit-index l.digits) ≡ digits_after 0 l.digits)
