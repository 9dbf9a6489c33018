use Rattle.std.proofs.Common.{subst, Ok, Err}
use Rattle.desk_http.specs.Heads.{IsWithinLimit}
use Rattle.desk_http.proofs.Streams.{found_by, begun, refused, refusal_stops, refusal_cause}
use Rattle.desk_http.proofs.requests.begin.Goals as goal

pub returns-in-Ok-clause-next : goal.returns-in-Ok-clause-next
returns-in-Ok-clause-next g c =
    let head = c.in_ok-head.head in
    let f = found_by c.read_head.new.bytes.items _ _ c.read_head.new.spans head (Ok c.in-Ok.asked) _ c.head_bytes.ensures.value c.deref.ensures.value
    c.in_ok-asked.ensures.value c.in-Ok.is c.in_ok-head.ensures.next.1 in
    record {
      read = c.in_ok-head.ensures.next.0;
      begins = begun _ _ head _ f;
      within = f.within;
      short = f.short;
      few = subst IsWithinLimit c.in-Ok.is c.in_ok-asked.ensures.limit;
    }

pub returns-in-Err-clause-next : goal.returns-in-Err-clause-next
returns-in-Err-clause-next g c =
    let f = found_by c.read_head.new.bytes.items _ _ c.read_head.new.spans c.in_ok-head.head (Err c.in-Err.fault) _ c.head_bytes.ensures.value c.deref.ensures.value
    c.in_ok-asked.ensures.value c.in-Err.is c.in_ok-head.ensures.next.1 in
    refusal_stops _ _ _ _ c.in-Err.fault c.in_ok-head.ensures.next.0 (refused _ _ _ _ f) (subst IsWithinLimit c.in-Err.is c.in_ok-asked.ensures.limit)

pub returns-in-Err-clause-cause : goal.returns-in-Err-clause-cause
returns-in-Err-clause-cause g c =
    refusal_cause (g.N.Link.seen c.args.link.now).health (g.N.Link.seen c.read_head.new.link).health c.in-Err.fault (subst IsWithinLimit c.in-Err.is c.in_ok-asked.ensures.limit)
