use Rattle.std.proofs.Common.{◌≡◌}
use mathlib.Core.List.{IsPrefix}
use Rattle.turn_lock.specs.Elements.{AddsNoneOf}
use Rattle.turn_lock.specs.Passes.{pass_lock, pass_number, pass_numbers, pass_seen, pass_splits}
use Rattle.workers.specs.Passages.{worker_of}
use Rattle.workers.proofs.turns.take.Given as goal

abbrev pub invariant-loop : goal.invariant-loop
invariant-loop g l = record {
  lock : pass_lock l.pass ≡ pass_lock l.fn.pass;
  number : pass_number l.pass ≡ pass_number l.fn.pass;
  numbers : pass_numbers l.pass ≡ pass_numbers l.fn.pass;
  splits : pass_splits l.pass ≡ pass_splits l.fn.pass;
  seen : IsPrefix (pass_seen l.fn.pass) (pass_seen l.pass);
  own : AddsNoneOf worker_of (pass_numbers l.fn.pass) (pass_seen l.fn.pass) (pass_seen l.pass);
}
