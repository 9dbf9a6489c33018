use Rattle.std.proofs.Common.{◌∙◌}
use Rattle.desk_io.specs.ById.{has_id}
use Rattle.desk_io.proofs.ByIdLaws.{any_given}
use Rattle.desk_io.proofs.by_id.ById.has.Goals as goal

pub returns : goal.returns
returns g c = c.is_some.ensures ∙ any_given (has_id g.T.HasId.id_of c.args.id) c.args.self.now.list c.get.result c.get.ensures
