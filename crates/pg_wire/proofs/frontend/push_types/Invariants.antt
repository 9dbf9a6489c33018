use Rattle.std.proofs.Common.{◌≡◌, ◌++◌, map, drop}
use Rattle.std.specs.List.{concat}
use Rattle.std.specs.Int.{w32, to_be_bytes}
use Rattle.pg_wire.proofs.frontend.push_types.Given as goal

abbrev pub invariant-loop-oid : goal.invariant-loop-oid
invariant-loop-oid l =
    l.out.items ++ concat (map (to_be_bytes w32) (drop l.oid-index l.types)) ≡ l.fn.out.items ++ concat (map (to_be_bytes w32) l.types)
