-- A record owns nothing, so it may go to any thread, and any thread may share it.
use denote.RattleType.{RattleType}
use denote.Param.Send.{IsSend}
use Rattle.desk_io.specs.contracts.record.Record.{the_row}

pub send : (T : RattleType) → IsSend (the_row T)
send T = record { owned = λ d vs. ((λ vss. (tt, ((λ uss. (tt, tt)), tt))), tt); leaving = λ k f vs. tt }
