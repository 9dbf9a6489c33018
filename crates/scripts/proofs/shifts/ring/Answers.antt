use Rattle.std.proofs.Common.{◌++◌}
use Rattle.alerts.specs.Ringing.{hung_all}
use Rattle.relief.proofs.HeardLaws.{heard_more}
use Rattle.relief.specs.Seated.{told_under}
use Rattle.scripts.proofs.Answering.{rung_twice}
use Rattle.scripts.proofs.shifts.ring.Goals as goal

pub returns : goal.returns
returns g c = λ told bells heard.
    let a = c.args in
    let seen = g.B.Bell.seen in
    let before = hung_all seen a.ringer.now in
    let between = hung_all seen c.ring_seated.new.self in
    let after = hung_all seen c.ring_seated-2.new.self in
    rung_twice told a.roster.now a.ticked.now a.called.now bells after
    (heard_more (told ++ told_under a.roster.now a.ticked.now) a.roster.now a.called.now bells between after
    (heard_more told a.roster.now a.ticked.now bells before between heard c.ring_seated.ensures) c.ring_seated-2.ensures)
