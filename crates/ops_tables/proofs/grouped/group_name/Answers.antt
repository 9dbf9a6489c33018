use Rattle.std.proofs.Common.{refl}
use Rattle.ops_tables.specs.Grouped.{group_name}
use Rattle.ops_tables.proofs.grouped.group_name.Goals as goal

pub returns : goal.returns
unfolding group_name
returns c = rw (c.write-3.ensures, c.write-2.ensures, c.write.ensures, c.front.ensures.value, c.front-2.ensures.value, c.front-3.ensures.value) refl
