use Rattle.std.proofs.Common.{◌≡◌, ◌++◌, take}
use mathlib.Core.List.{IsPrefix}
use Rattle.turn_lock.specs.Passes.{pass_lock, pass_number, pass_numbers, pass_seen}
use Rattle.net_acceptance.specs.Marks.{lane_of, marks}
use Rattle.net_acceptance.proofs.adding.add_all.Given as goal

abbrev pub invariant-loop-item : goal.invariant-loop-item
invariant-loop-item g l =
    (pass_lock l.pass ≡ pass_lock l.fn.pass) × (pass_number l.pass ≡ l.lane) × (pass_numbers l.pass ≡ pass_numbers l.fn.pass) × (l.count ≡ l.item-index)
    × IsPrefix (pass_seen l.fn.pass) (pass_seen l.pass)
    × (lane_of l.lane (pass_seen l.pass) ≡ lane_of l.lane (pass_seen l.fn.pass) ++ marks l.lane (take l.count l.items))
