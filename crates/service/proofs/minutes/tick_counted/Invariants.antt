use Rattle.std.proofs.Common.{◌≡◌}
use mathlib.Core.List.{IsPrefix}
use Rattle.service.specs.Minutes.{HasTicked}
use Rattle.turn_lock.specs.Passes.{pass_lock, pass_number, pass_numbers, pass_seen}
use Rattle.service.proofs.minutes.tick_counted.Given as goal

abbrev pub invariant-loop : goal.invariant-loop
invariant-loop g l = record {
  lock : pass_lock l.pass ≡ pass_lock l.fn.pass;
  number : pass_number l.pass ≡ l.lane;
  numbers : pass_numbers l.pass ≡ pass_numbers l.fn.pass;
  seen : IsPrefix (pass_seen l.fn.pass) (pass_seen l.pass);
  ticked : HasTicked g.A.Opened.desk.opening g.A.Opened.clock.dial l.lane (pass_seen l.fn.pass) (pass_seen l.pass);
}
