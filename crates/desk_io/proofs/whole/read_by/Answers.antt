use Rattle.std.proofs.Common.{rules}
use Rattle.desk_io.proofs.Fronts.{agrees_longer}
use Rattle.desk_io.proofs.ReadLaws.{reads_on}
use Rattle.desk_io.proofs.whole.read_by.Goals as goal

pub returns-in_err-extend_from_slice-clause-reads : goal.returns-in_err-extend_from_slice-clause-reads
returns-in_err-extend_from_slice-clause-reads g c =
    let on = reads_on _ _ _ _ _ _ _ _ c.loop-text.invariant.handed (search rules) c.next.ensures.reads c.in_ok-count.count c.in_ok-count.was (search rules) (search rules) in
    search (rules, on)

pub returns-then-len-gt-SOURCE_LIMIT-clause-reads : goal.returns-then-len-gt-SOURCE_LIMIT-clause-reads
returns-then-len-gt-SOURCE_LIMIT-clause-reads g c =
    let on = reads_on _ _ _ _ _ _ _ _ c.loop-text.invariant.handed (search rules) c.next.ensures.reads c.in_ok-count.count c.in_ok-count.was (search rules) (search rules) in
    (_, search rules, on)

pub loop-text-preserved : goal.loop-text-preserved
loop-text-preserved g c =
    let inv = c.loop-text.invariant in
    let e = c.in_ok-count.ensures in
    let longer = agrees_longer _ _ _ _ _ _ (search rules) inv.front (rw inv.on.sources at e.given) in
    let on = reads_on _ _ _ _ _ _ _ _ inv.handed (search rules) c.next.ensures.reads c.in_ok-count.count c.in_ok-count.was (search rules) (search rules) in
    record {
      on = search rules;
      room = search rules;
      short = search rules;
      front = search (rules, longer);
      handed = search (rules, on);
    }
