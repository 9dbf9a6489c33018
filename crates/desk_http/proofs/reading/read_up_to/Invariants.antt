use Rattle.std.proofs.Common.{◌-◌, length}
use Rattle.desk_net.specs.Seen.{LinkGoesOn}
use Rattle.desk_net.specs.Streams.{OnlyRead}
use Rattle.desk_http.specs.Reading.{input_of, Grows}
use Rattle.desk_http.proofs.reading.read_up_to.Given as goal

abbrev pub invariant-loop-link : goal.invariant-loop-link
invariant-loop-link g l = record {
  read : Grows (input_of (g.N.Link.seen l.fn.link)) (input_of (g.N.Link.seen l.link)) l.initial.bytes.items l.bytes.items;
  same : OnlyRead (g.N.Link.seen l.fn.link).stream (g.N.Link.seen l.link).stream;
  on : LinkGoesOn (g.N.Link.seen l.fn.link) (g.N.Link.seen l.link);
}

abbrev pub decreases-loop-link : goal.decreases-loop-link
decreases-loop-link g l = l.count - length l.bytes.items
