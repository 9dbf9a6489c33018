use Rattle.std.proofs.Common.{◌≡◌, ◌++◌, map, drop}
use Rattle.std.specs.List.{concat}
use Rattle.desk_io.specs.Grown.{BeginsWith}
use Rattle.desk_io.proofs.pieces.push_each.Given as goal

abbrev pub invariant-loop-piece : goal.invariant-loop-piece
invariant-loop-piece l = record {
  added : l.out.items ++ concat (map (λ x. x.now) (drop l.piece-index l.pieces)) ≡ l.fn.out.items ++ concat (map (λ x. x.now) l.pieces);
  kept : BeginsWith l.out.items l.fn.out.items;
}
