use Rattle.std.proofs.Common.{◌≡◌, drop}
use Rattle.std.specs.List.{list_all}
use Rattle.table_files.specs.Fields.{is_of}
use Rattle.table_files.proofs.fields.all_of.Given as goal

abbrev pub invariant-loop-b : goal.invariant-loop-b
invariant-loop-b l = list_all (is_of l.class) (drop l.b-index l.field) ≡ list_all (is_of l.class) l.field
