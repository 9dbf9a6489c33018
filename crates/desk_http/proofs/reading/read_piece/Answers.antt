use Rattle.desk_http.proofs.Links.{is_read, found_end, input_stays, only}
use Rattle.desk_http.proofs.reading.read_piece.Goals as goal

pub returns-clause-given : goal.returns-clause-given
returns-clause-given g c = is_read (g.N.Link.seen c.args.link.now) (g.N.Link.seen c.read.new.self) _ _ c.read.ensures.told c.read.ensures.crossed

pub returns-clause-at_end : goal.returns-clause-at_end
returns-clause-at_end g c = found_end (g.N.Link.seen c.args.link.now) (g.N.Link.seen c.read.new.self) _ _ c.read.ensures.told c.read.ensures.crossed

pub returns-clause-stays : goal.returns-clause-stays
returns-clause-stays g c = input_stays (g.N.Link.seen c.args.link.now) (g.N.Link.seen c.read.new.self) _ _ c.read.ensures.told c.read.ensures.crossed

pub returns-clause-same : goal.returns-clause-same
returns-clause-same g c = only _ _ _ _ c.read.ensures.told
