use Rattle.std.proofs.Common.{◌≡◌, length}
use Rattle.desk_http.specs.Heads.{fields_at, from_first}
use Rattle.desk_http.proofs.fields.from_first.Given as goal

abbrev pub invariant-loop-rest : goal.invariant-loop-rest
invariant-loop-rest l = from_first l.name (fields_at l.bytes l.rest) ≡ from_first l.name (fields_at l.bytes l.spans)

abbrev pub decreases-loop-rest : goal.decreases-loop-rest
decreases-loop-rest l = length l.rest
