use Rattle.std.proofs.Common.{◌≡◌, ◌+◌, ◌≤◌, length, drop}
use Rattle.desk_state.specs.Requests.{kept_before}
use Rattle.decisions.proofs.sweeps.count_before.Given as goal

abbrev pub invariant-loop-reply : goal.invariant-loop-reply
invariant-loop-reply l = record {
  counted : l.count + length (kept_before l.before (drop l.reply-index l.kept)) ≡ length (kept_before l.before l.kept);
  few : l.count ≤ l.reply-index;
}
