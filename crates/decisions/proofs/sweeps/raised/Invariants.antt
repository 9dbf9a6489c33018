use Rattle.std.proofs.Common.{◌≡◌, drop}
use Rattle.asks.specs.Forms.{FloorsRise}
use Rattle.desk_state.specs.Requests.{raised_by, kept_before}
use Rattle.decisions.proofs.sweeps.raised.Given as goal

abbrev pub invariant-loop-reply : goal.invariant-loop-reply
invariant-loop-reply l = record {
  raised : raised_by (kept_before l.before (drop l.reply-index l.content.state.kept)) l.floors.items ≡ raised_by (kept_before l.before l.content.state.kept) l.content.state.floors;
  rising : FloorsRise l.floors.items;
}
