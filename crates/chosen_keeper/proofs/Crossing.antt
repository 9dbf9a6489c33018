-- The keepers of rows in a file and at a server may go to another thread.
use denote.RattleType.{RattleType}
use denote.Param.Send.{IsSend, sendable}
use Rattle.std.proofs.Crossing.{crosses}
use Rattle.keeper.proofs.Crossing.{Record_send}
use Rattle.desk_net.specs.declared.outside.Link as Link
use Rattle.sqlite_keeper.specs.contracts.file.KeeperOver as KeeperOver
use Rattle.pg_keeper.specs.contracts.pg_keeping.PgKeeper as PgKeeper
use Rattle.pg_keeper.specs.contracts.dial.TcpDial as TcpDial
use Rattle.pg_keeper.specs.contracts.answer_stream.AnswerStream as AnswerStream
use Rattle.pg_keeper.specs.contracts.opening.Account as Account
use Rattle.pg_keeper.specs.contracts.ending.Cause as Cause

pub KeeperOver_field_send : (C : RattleType) → IsSend C → IsSend (KeeperOver.the_field C).row
KeeperOver_field_send C c = search (sendable, crosses, Record_send) depth 60 fits 9000

pub Account_field_send : IsSend (Account.the_field).row
Account_field_send = search (sendable, crosses) depth 60 fits 9000

pub Cause_field_send : IsSend (Cause.the_field).row
Cause_field_send = search (sendable, crosses) depth 60 fits 9000

pub PgKeeper_field_send : (D T : RattleType) → IsSend D → IsSend T → (a : Link.Ghosts T.Denot) → IsSend (PgKeeper.the_field D T a).row
PgKeeper_field_send D T d t a = search (sendable, crosses, Record_send, Account_field_send, Cause_field_send) depth 60 fits 9000

pub TcpDial_send : (R S T : RattleType) → IsSend R → IsSend S → IsSend T → IsSend (TcpDial.the_row R S T)
TcpDial_send R S T r s t = search (sendable, crosses) depth 60 fits 9000

pub AnswerStream_send : (S C : RattleType) → IsSend S → IsSend C → IsSend (AnswerStream.the_row S C)
AnswerStream_send S C s c = search (sendable, crosses) depth 60 fits 9000
