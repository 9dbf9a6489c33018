use Rattle.std.proofs.Common.{◌-◌, ◌≤◌, ◌<◌, [], length}
use Rattle.desk_io.specs.Reads.{HandsOver}
use Rattle.desk_io.specs.Seen.{ShelfGoesOn, Holds}
use Rattle.desk_io.proofs.Fronts.{Agrees}
use Rattle.desk_io.proofs.whole.read_by.Given as goal

abbrev pub invariant-loop-text : goal.invariant-loop-text
invariant-loop-text g l = record {
  on : ShelfGoesOn (Holds (g.S.Shelf.seen l.fn.shelf) l.name) (g.S.Shelf.seen l.fn.shelf) (g.S.Shelf.seen l.shelf);
  room : 0 < length l.piece;
  short : length l.text.items ≤ 67_108_864;
  front : Agrees (g.S.Shelf.seen l.fn.shelf).sources l.name l.text.items;
  handed : HandsOver l.name l.text.items [] (g.S.Shelf.seen l.fn.shelf).reads (g.S.Shelf.seen l.shelf).reads;
}

abbrev pub decreases-loop-text : goal.decreases-loop-text
decreases-loop-text g l = 67_108_865 - length l.text.items
