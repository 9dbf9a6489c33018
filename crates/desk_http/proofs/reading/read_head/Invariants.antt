use Rattle.std.proofs.Common.{◌-◌, ◌≤◌, length}
use Rattle.desk_net.specs.Seen.{LinkGoesOn}
use Rattle.desk_net.specs.Streams.{OnlyRead}
use Rattle.desk_http.specs.Reading.{input_of, Grows}
use Rattle.desk_http.proofs.reading.read_head.Given as goal

abbrev pub invariant-loop-head : goal.invariant-loop-head
invariant-loop-head g l = record {
  read : Grows (input_of (g.N.Link.seen l.fn.link)) (input_of (g.N.Link.seen l.link)) l.initial.bytes.items l.bytes.items;
  same : OnlyRead (g.N.Link.seen l.fn.link).stream (g.N.Link.seen l.link).stream;
  on : LinkGoesOn (g.N.Link.seen l.fn.link) (g.N.Link.seen l.link);
  spans : 5462 ≤ length l.spans;
}

abbrev pub decreases-loop-head : goal.decreases-loop-head
decreases-loop-head g l = 16_384 - length l.bytes.items
