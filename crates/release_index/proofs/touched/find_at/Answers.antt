use Rattle.std.proofs.lemmas.Result.{on_ok_weaker}
use Rattle.std.proofs.Common.{◌∙◌, ap}
use Rattle.std.specs.Map.{keys_of}
use Rattle.facts.specs.Index.{fingerprint}
use Rattle.release_index.specs.Entries.{stations_onto}
use Rattle.release_index.specs.Touched.{touched_at}
use Rattle.release_index.proofs.EntryLaws.{station_has}
use Rattle.release_index.proofs.RunLaws.{text_touched, text_few}
use Rattle.release_index.proofs.touched.find_at.Goals as goal

pub returns-clause-touched : goal.returns-clause-touched
returns-clause-touched c =
    on_ok_weaker c.push_at.result
    (λ is. text_touched c.args.station stations_onto (touched_at c.args.station) (station_has c.args.station) c.fingerprint-number.result c.last_id-last.result
    (c.fingerprint-number.ensures ∙ ap fingerprint c.bytes.ensures) c.args.held.now.list c.as_slice-2.ensures.rising (rw (← c.as_slice-2.ensures.value) c.last_id-last.ensures)
    c.args.index.now.keys (keys_of c.run.result.now) c.args.ids.now.items c.push_at.new.ids.items c.run.ensures.value is c.requires.index)
    c.push_at.ensures

pub returns-clause-few : goal.returns-clause-few
returns-clause-few c =
    on_ok_weaker c.push_at.result
    (λ is. text_few c.args.station stations_onto (touched_at c.args.station) (station_has c.args.station) c.fingerprint-number.result c.last_id-last.result
    (c.fingerprint-number.ensures ∙ ap fingerprint c.bytes.ensures) c.args.held.now.list c.as_slice-2.ensures.rising (rw (← c.as_slice-2.ensures.value) c.last_id-last.ensures)
    c.args.index.now.keys (keys_of c.run.result.now) c.args.ids.now.items c.push_at.new.ids.items c.run.ensures.value is (rw (← c.as_slice.ensures.value) c.as_slice.ensures.sorted))
    c.push_at.ensures
