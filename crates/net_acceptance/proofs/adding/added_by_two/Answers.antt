use Rattle.std.proofs.Common.{rules, ◌≡◌, ℕ, ◌<◌, [], length, take, arith, ap}
use Rattle.turn_lock.specs.Passes.{pass_splits}
use Rattle.net_acceptance.specs.Marks.{lane_of, marks}
use Rattle.net_acceptance.proofs.LaneLaws.{length-marks, two_lanes}
use Rattle.net_acceptance.proofs.adding.added_by_two.Goals as goal

pub returns-clause-all : goal.returns-clause-all
returns-clause-all g c =
    let all = c.end-2.result.marks.items in
    let counts = c.add_both-first_count.result in
    let zero : lane_of 0 c.end-2.result.marks.items ≡ [] = search rules in
    let one : lane_of 1 c.end-2.result.marks.items ≡ marks 1 (take c.add_both-first_count.result.0.0 c.args.first.now) = search rules in
    let two : lane_of 2 c.end-2.result.marks.items ≡ marks 2 (take c.add_both-first_count.result.1.0 c.args.second.now) = search rules in
    let splits : pass_splits c.join-2.new.pass ≡ 2 = search rules in
    let above : (n : ℕ) → 2 < n → lane_of n c.end-2.result.marks.items ≡ [] = λ n l. c.end-2.ensures.given (search rules) n (omega arith) in
    let some = c.add_both-first_count.ensures.some in
    omega (
      arith,
      two_lanes all zero above,
      ap length one,
      ap length two,
      length-marks 1 counts.0.0 c.args.first.now some.0,
      length-marks 2 counts.1.0 c.args.second.now some.1,
    )
