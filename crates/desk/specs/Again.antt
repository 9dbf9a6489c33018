-- Every command whose reply is stored may come again.
use Rattle.asks.specs.declared.call.Call.{Call}
use Rattle.asks.specs.declared.kept.KeptReply.{KeptReply}
use Rattle.desk_state.specs.Repeats.{MayAsk, IsKeptFor, MayComeAgain}
use Rattle.desk_state.specs.State.{State}

-- each command whose reply is stored may come again
pub record AllMayComeAgain (s : State) : Type 0 where
  pub each : (call : Call) (k : KeptReply) → MayAsk s call → IsKeptFor s call k → MayComeAgain s call k
