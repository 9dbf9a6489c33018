use Rattle.std.proofs.Common.{◌≤◌, ◌+◌, length, arith, ap}
use Rattle.rules.specs.Grounds.{Grounds, grounds_held}
use Rattle.advise.specs.Candidates.{choices_for}
use Rattle.advise.proofs.TextLaws.{one_line, counts_few, counts_more}
use Rattle.advise.proofs.text.advice_text.Goals as goal

pub returns-in_err-advice-clause-steps : goal.returns-in_err-advice-clause-steps
returns-in_err-advice-clause-steps g c =
    let cs = c.args.candidates.now in
    let counted = c.loop-i.invariant.counted in
    let asked : c.advise.new.steps ≤ c.loop-i.steps + (1 + length (choices_for (c.loop-i.i + 1) cs)) = c.advise.ensures.steps in
    let more = counts_more c.loop-i.i cs in
    let few = counts_few (c.loop-i.i + 1) cs in
    let inside = c.loop-i-test.true in
    let legs = ap length c.as_slice-items.ensures in
    omega (arith, counted, asked, more, few, inside, legs)

pub returns-in_err-push_line-clause-steps : goal.returns-in_err-push_line-clause-steps
returns-in_err-push_line-clause-steps g c =
    let cs = c.args.candidates.now in
    let counted = c.loop-i.invariant.counted in
    let asked : c.advise.new.steps ≤ c.loop-i.steps + (1 + length (choices_for (c.loop-i.i + 1) cs)) = c.advise.ensures.steps in
    let more = counts_more c.loop-i.i cs in
    let few = counts_few (c.loop-i.i + 1) cs in
    let inside = c.loop-i-test.true in
    let legs = ap length c.as_slice-items.ensures in
    omega (arith, counted, asked, more, few, inside, legs)

pub loop-i-preserved : goal.loop-i-preserved
loop-i-preserved g c =
    let cs = c.args.candidates.now in
    let held : Grounds = grounds_held c.args.tables.now c.args.facts.now.reports c.args.deferrals.now.list c.args.moment in
    let counted = c.loop-i.invariant.counted in
    let asked : c.advise.new.steps ≤ c.loop-i.steps + (1 + length (choices_for (c.loop-i.i + 1) cs)) = c.advise.ensures.steps in
    let more = counts_more c.loop-i.i cs in
    record {
      lines = one_line c.args.plan.now cs held c.loop-i.i c.loop-i.out.items c.push_line.new.out.items c.in_ok-advice.advice c.loop-i.invariant.lines c.in_ok-advice.ensures.advice c.in_ok-push_line.ensures;
      counted = omega (arith, counted, asked, more);
    }

pub returns-clause-steps : goal.returns-clause-steps
returns-clause-steps g c =
    let cs = c.args.candidates.now in
    let counted = c.loop-i.invariant.counted in
    let few = counts_few c.loop-i.i cs in
    let within = c.loop-i.auto.i-end in
    let legs = ap length c.as_slice-items.ensures in
    omega (arith, counted, few, within, legs)
