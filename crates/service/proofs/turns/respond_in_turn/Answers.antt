use Rattle.std.proofs.Common.{rules, ◌≡◌, false, refl}
use Rattle.service.specs.Connections.{makes_call}
use Rattle.service.proofs.TurningLaws.{nothing_responds, uncalled_responds}
use Rattle.turn_lock.proofs.ElementLaws.{prefix_self}
use Rattle.service.proofs.turns.respond_in_turn.Goals as goal

pub returns-in-Ok : goal.returns-in-Ok
returns-in-Ok g c =
    let none : makes_call c.args.requested.now ≡ false = search rules in record {
      pass = (refl, c.requires.lock.1);
      numbers = refl;
      seen = prefix_self _;
      shared = λ is. is;
      responds = uncalled_responds _ _ _ _ _ _ c.args.requested.now _ c.requires.asked none c.in-Ok.ensures.ok;
      code = c.in-Ok.ensures.code;
      steady = λ sound is. absurd (cc);
    }

pub returns-in-Err : goal.returns-in-Err
returns-in-Err g c = record {
  pass = (refl, c.requires.lock.1);
  numbers = refl;
  seen = prefix_self _;
  shared = λ is. is;
  responds = nothing_responds _ _ _ _ _ _;
  code = tt;
  steady = λ sound is. absurd (cc);
}
