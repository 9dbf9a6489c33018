use Rattle.std.proofs.Common.{◌≡◌, drop}
use Rattle.std.specs.List.{list_any}
use Rattle.desk_http.specs.Heads.{fields_at, is_closing}
use Rattle.desk_http.proofs.fields.closes.Given as goal

abbrev pub invariant-loop-span : goal.invariant-loop-span
invariant-loop-span l = list_any is_closing (fields_at l.bytes (drop l.span-index l.spans)) ≡ list_any is_closing (fields_at l.bytes l.spans)
