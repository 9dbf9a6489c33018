use Rattle.std.proofs.Common.{◌+◌, ap, ◌∙◌, length, arith}
use Rattle.desk_io.proofs.HealthLaws.{goes_on}
use Rattle.desk_http.proofs.Links.{only_on}
use Rattle.desk_http.proofs.Streams.{read_on, found_on}
use Rattle.desk_http.proofs.reading.read_up_to.Goals as goal

pub loop-link-preserved : goal.loop-link-preserved
loop-link-preserved g c =
    record {
      read = read_on _ _ _ _ _ _ c.loop-link.invariant.read c.in_ok-read_more.ensures.more;
      same = only_on _ _ _ c.loop-link.invariant.same c.in_ok-read_more.ensures.same;
      on = goes_on _ _ _ c.loop-link.invariant.on c.in_ok-read_more.ensures.on;
    }

pub returns-then-branch-eq0-clause-read : goal.returns-then-branch-eq0-clause-read
returns-then-branch-eq0-clause-read g c = read_on _ _ _ _ _ _ c.loop-link.invariant.read c.in_ok-read_more.ensures.more

pub returns-then-branch-eq0-clause-next : goal.returns-then-branch-eq0-clause-next
returns-then-branch-eq0-clause-next g c =
    let old = c.loop-link.bytes.items in
    let count = c.in_ok-read_more.ensures.count ∙ ap (λ n. length old + n) c.if-branch-eq0.true in
    (omega (arith, count, c.len.ensures, c.loop-link-test.true), found_on _ _ _ _ _ c.loop-link.invariant.read (c.in_ok-read_more.ensures.at_end c.if-branch-eq0.true))
