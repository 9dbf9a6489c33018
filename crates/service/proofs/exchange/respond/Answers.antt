use Rattle.std.proofs.Common.{rules, ◌≡◌, false, refl}
use Rattle.desk.proofs.SeenLaws.{desk_stays}
use Rattle.desk_net.proofs.SeenLaws.{clock_stays}
use Rattle.service.proofs.AloneLaws.{uncalled_responds}
use Rattle.service.specs.Connections.{makes_call}
use Rattle.service.proofs.exchange.respond.Goals as goal

pub returns-in-Ok : goal.returns-in-Ok
returns-in-Ok g c =
    let none : makes_call c.args.requested.now ≡ false = search rules in record {
      responds = uncalled_responds _ _ _ _ _ c.args.requested.now _ c.requires.asked none c.in-Ok.ensures.ok;
      code = c.in-Ok.ensures.code;
      desk = desk_stays _;
      clock = clock_stays _;
      still = λ other. refl;
      steady = λ sound is. absurd (cc);
    }
