use Rattle.std.proofs.Common.{◌≡◌, ◌≤◌, ◌+◌, ◌*◌, ◌^◌, drop}
use Rattle.desk_time.specs.Numbers.{digits_after}
use Rattle.desk_http.proofs.digits.digits_value.Given as goal

-- A byte less 48 is at most 207, which is nine times 23.
abbrev pub invariant-loop-digit : goal.invariant-loop-digit
invariant-loop-digit l = (l.number + 23 ≤ 23 * 10 ^ l.digit-index) × (digits_after l.number (drop l.digit-index l.digits) ≡ digits_after 0 l.digits)
