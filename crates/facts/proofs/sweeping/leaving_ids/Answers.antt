use Rattle.std.proofs.Common.{◌+◌, ◌++◌, ap, ◌∙◌, map, filter, not, drop, arith}
use Rattle.facts.specs.Swept.{stays}
use Rattle.facts.proofs.LeavingLaws.{leaving_more}
use Rattle.facts.proofs.ReindexLaws.{stays_there}
use Rattle.facts.proofs.sweeping.leaving_ids.Goals as goal

-- the test by places is that of what stays
pub loop-place-preserved : goal.loop-place-preserved
loop-place-preserved c =
    let a = c.args in
    let test = stays a.before a.keep.now a.held.now in
    let place = c.loop-place.place in
    let report = c.index-held-place.result in
    let within = c.loop-place-test.true in
    ap (λ xs. xs ++ map (λ r. r.id) (filter (λ r. not (test r)) (drop (place + 1) a.held.now))) c.in_ok-push_unless.ensures
    ∙ leaving_more test c.loop-place.ids a.held.now place report c.stays_at-stays.result (omega arith) c.index-held-place.is
    (stays_there a.before a.keep.now a.stations.now.entries a.held.now place report c.stays_at-stays.result c.requires.rising c.requires.index (omega arith) c.index-held-place.is c.stays_at-stays.ensures)
    ∙ c.loop-place.invariant
