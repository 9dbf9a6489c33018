use Rattle.desk_net.proofs.Sending.{sent_front}
use Rattle.desk_net.proofs.tcp.write_out.Goals as goal

pub returns-in-Ok-eq0-clause-err : goal.returns-in-Ok-eq0-clause-err
returns-in-Ok-eq0-clause-err g c = sent_front _ _ _ _ _ _ c.loop-rest.invariant

pub returns-in-Err-clause-err : goal.returns-in-Err-clause-err
returns-in-Err-clause-err g c = sent_front _ _ _ _ _ _ c.loop-rest.invariant
