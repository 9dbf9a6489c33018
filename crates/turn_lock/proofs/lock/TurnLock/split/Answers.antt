use Rattle.std.proofs.Common.{rules, arith}
use Rattle.turn_lock.proofs.PassLaws.{splits}
use Rattle.turn_lock.proofs.lock.TurnLock.split.Goals as goal

pub split_seat-seat-requires : goal.split_seat-seat-requires
split_seat-seat-requires g c = let idle = c.args.pass.now.idle in (search rules, search rules, splits _ _ _ _ idle.1 c.requires.first (let is = idle.2 in omega arith))
