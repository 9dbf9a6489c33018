use Rattle.std.proofs.Common.{◌-◌, ◌≡◌, ◌≤◌, []}
use Rattle.std.specs.Vec.{vec_capacity}
use Rattle.connections.specs.Rounds.{AreServed}
use Rattle.connections.proofs.Counting.{IsFull}
use Rattle.turn_lock.specs.Passes.{pass_lock, pass_number, pass_numbers, pass_seen, pass_splits}
use Rattle.connections.proofs.accepting.serve_rounds.Given as goal

abbrev pub invariant-loop-before : goal.invariant-loop-before
invariant-loop-before g l = record {
  lock : pass_lock l.between.pass ≡ pass_lock l.fn.between.pass;
  number : pass_number l.between.pass ≡ 0;
  splits : pass_splits l.between.pass ≡ l.before;
  within : l.before ≤ l.connections;
  round : IsFull l.before l.connections;
  empty : l.between.room.items ≡ [];
  room : 16 ≤ vec_capacity l.between.room;
  served : AreServed g.T.Listed.bears g.W.Serving.says l.port (g.D.Door.seen l.fn.between.door) (g.D.Door.seen l.between.door) (pass_seen l.between.pass) (pass_numbers l.between.pass) (pass_splits l.between.pass) l.between.met;
}

abbrev pub decreases-loop-before : goal.decreases-loop-before
decreases-loop-before g l = l.connections - l.before
