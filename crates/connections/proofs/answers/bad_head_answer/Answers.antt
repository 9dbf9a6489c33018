use Rattle.std.proofs.Common.{refl}
use Rattle.std.specs.Fmt.{digits}
use Rattle.desk_http.specs.Responses.{typed_response}
use Rattle.connections.proofs.answers.bad_head_answer.Goals as goal

pub returns : goal.returns
unfolding typed_response digits
returns c = refl
