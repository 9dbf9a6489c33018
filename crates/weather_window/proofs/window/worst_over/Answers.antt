use Rattle.std.proofs.Common.{arith, option_copied}
use Rattle.weather_window.specs.Values.{ceiling, visibility}
use Rattle.weather_window.specs.Window.{worst_value}
use Rattle.weather_window.proofs.ChangeLaws.{change_visits, change_count}
use Rattle.weather_window.proofs.WindowLaws.{reach_first, reach_next, reach_last}
use Rattle.weather_window.proofs.window.worst_over.Goals as goal

pub loop-next-init : goal.loop-next-init
loop-next-init g c =
    let a = c.args in
    let first = c.counted_at-worst.ensures in
    let step = first.step in
    let count = change_count (option_copied a.taf) (option_copied a.metar) a.hold a.from a.to in
    record {
      within = c.requires.order;
      ceiling = reach_first ceiling (option_copied a.taf) (option_copied a.metar) a.hold a.from a.to c.counted_at-worst.result.ceiling c.requires.order first.ceiling;
      vis = reach_first visibility (option_copied a.taf) (option_copied a.metar) a.hold a.from a.to c.counted_at-worst.result.vis c.requires.order first.vis;
      some = omega arith;
      few = omega arith;
    }

pub loop-next-smaller : goal.loop-next-smaller
loop-next-smaller g c =
    let a = c.args in
    (change_visits (option_copied a.taf) (option_copied a.metar) a.hold c.loop-next.seen c.in-Some.next a.to c.in-Some.ensures).fewer

pub loop-next-preserved : goal.loop-next-preserved
loop-next-preserved g c =
    let a = c.args in
    let l = c.loop-next in
    let next = c.in-Some.next in
    let there = c.counted_at-there.ensures in
    let visits = change_visits (option_copied a.taf) (option_copied a.metar) a.hold l.seen next a.to c.in-Some.ensures in
    let step = there.step in
    let some = l.invariant.some in
    let few = l.invariant.few in
    let fewer = visits.fewer in
    record {
      within = visits.within;
      ceiling = reach_next ceiling (option_copied a.taf) (option_copied a.metar) a.hold l.seen next a.to l.worst.ceiling (worst_value ceiling (option_copied a.taf) (option_copied a.metar) a.hold a.from a.to) c.counted_at-there.result.ceiling c.worse.result c.in-Some.ensures l.invariant.ceiling there.ceiling c.worse.ensures;
      vis = reach_next visibility (option_copied a.taf) (option_copied a.metar) a.hold l.seen next a.to l.worst.vis (worst_value visibility (option_copied a.taf) (option_copied a.metar) a.hold a.from a.to) c.counted_at-there.result.vis c.worse-in-Some.result c.in-Some.ensures l.invariant.vis there.vis c.worse-in-Some.ensures;
      some = omega arith;
      few = omega arith;
    }

pub returns-clause-ceiling : goal.returns-clause-ceiling
returns-clause-ceiling g c =
    let a = c.args in
    let l = c.loop-next in
    reach_last ceiling (option_copied a.taf) (option_copied a.metar) a.hold l.seen a.to l.worst.ceiling (worst_value ceiling (option_copied a.taf) (option_copied a.metar) a.hold a.from a.to) c.in_default.ensures l.invariant.within l.invariant.ceiling

pub returns-clause-vis : goal.returns-clause-vis
returns-clause-vis g c =
    let a = c.args in
    let l = c.loop-next in
    reach_last visibility (option_copied a.taf) (option_copied a.metar) a.hold l.seen a.to l.worst.vis (worst_value visibility (option_copied a.taf) (option_copied a.metar) a.hold a.from a.to) c.in_default.ensures l.invariant.within l.invariant.vis
