use Rattle.std.proofs.Common.{◌∙◌, sym}
use Rattle.std.proofs.lemmas.Map.Iter.{rest_more}
use Rattle.std.specs.Map.Iter.{deref_pair}
use Rattle.records.proofs.MapLaws.{floor_read_on}
use Rattle.records.proofs.meta_rows.floors_in.Goals as goal

pub loop-key-preserved : goal.loop-key-preserved
loop-key-preserved c =
    let there = rest_more deref_pair c.loop-key.key-iterator c.next.new.self c.next.result (c.in-Some.key, c.in-Some.value) c.in-Some.is c.next.ensures.steps in
    floor_read_on c.loop-key.floors c.push.new.self c.in-Some-2.floor c.in-Some.key.now c.in-Some.value.now c.as_str.result.now c.loop-key.key-iterator c.next.new.self there c.as_str.ensures.value
    (sym c.in_ok-floor.ensures ∙ c.in-Some-2.is) c.in_ok-push-in-Some-2.ensures.ok
    ∙ c.loop-key.invariant
