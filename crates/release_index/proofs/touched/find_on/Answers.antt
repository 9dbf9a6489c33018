use Rattle.std.proofs.lemmas.Result.{on_ok_weaker}
use Rattle.std.specs.Map.{keys_of}
use Rattle.release_index.specs.Entries.{tail_onto}
use Rattle.release_index.specs.Touched.{touched_on}
use Rattle.release_index.proofs.EntryLaws.{tail_has}
use Rattle.release_index.proofs.RunLaws.{text_touched, text_few}
use Rattle.release_index.proofs.touched.find_on.Goals as goal

pub returns-clause-touched : goal.returns-clause-touched
returns-clause-touched c =
    on_ok_weaker c.push_on.result
    (λ is. text_touched c.args.tail.now tail_onto (touched_on c.args.tail.now) (tail_has c.args.tail.now) c.fingerprint-number.result c.last_id-last.result
    c.fingerprint-number.ensures c.args.held.now.list c.as_slice-2.ensures.rising (rw (← c.as_slice-2.ensures.value) c.last_id-last.ensures)
    c.args.index.now.keys (keys_of c.run.result.now) c.args.ids.now.items c.push_on.new.ids.items c.run.ensures.value is c.requires.index)
    c.push_on.ensures

pub returns-clause-few : goal.returns-clause-few
returns-clause-few c =
    on_ok_weaker c.push_on.result
    (λ is. text_few c.args.tail.now tail_onto (touched_on c.args.tail.now) (tail_has c.args.tail.now) c.fingerprint-number.result c.last_id-last.result
    c.fingerprint-number.ensures c.args.held.now.list c.as_slice-2.ensures.rising (rw (← c.as_slice-2.ensures.value) c.last_id-last.ensures)
    c.args.index.now.keys (keys_of c.run.result.now) c.args.ids.now.items c.push_on.new.ids.items c.run.ensures.value is (rw (← c.as_slice.ensures.value) c.as_slice.ensures.sorted))
    c.push_on.ensures
