-- A record may go to another thread, whatever it lists.
use denote.RattleType.{RattleType}
use denote.Param.Send.{IsSend}
use Rattle.desk_io.specs.contracts.record.Record as recorded

pub Record_send : (T : RattleType) → IsSend (recorded.the_row T)
Record_send T = record { owned = λ d vs. ((λ vss. (tt, ((λ uss. (tt, tt)), tt))), tt); leaving = λ k f vs. tt }
