use Rattle.std.proofs.Common.{◌≡◌, ◌∙◌, sym, ap, take, ◌+◌, arith, Some}
use Rattle.std.specs.List.{list_any}
use Rattle.records.specs.Faults.{is_bad_pair}
use Rattle.records.proofs.Places.{found_at, nowhere}
use Rattle.records.proofs.pairs.first_against.Goals as goal

pub returns-then-is_bad_pair-clause-value : goal.returns-then-is_bad_pair-clause-value
returns-then-is_bad_pair-clause-value c =
    let place : 0 + c.loop-place.place ≡ c.loop-place.place = omega arith in
    sym (found_at (is_bad_pair c.args.held.now) 0 c.loop-place.place c.args.end c.args.records.now c.index-records-place.result c.loop-place.invariant (omega arith) (omega arith) c.index-records-place.is (sym c.is_bad_pair.ensures ∙ c.if-is_bad_pair.true)
    ∙ ap Some place)

pub returns-clause-value : goal.returns-clause-value
returns-clause-value c =
    let last : c.loop-place.place ≡ c.args.end = omega arith in
    sym (nowhere (is_bad_pair c.args.held.now) 0 (take c.args.end c.args.records.now) (ap (λ n. list_any (is_bad_pair c.args.held.now) (take n c.args.records.now)) (sym last) ∙ c.loop-place.invariant))
