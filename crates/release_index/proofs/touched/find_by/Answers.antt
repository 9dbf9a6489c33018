use Rattle.std.proofs.Common.{arith}
use Rattle.std.proofs.lemmas.Result.{on_ok_weaker}
use Rattle.std.specs.Map.{keys_of}
use Rattle.release_index.proofs.DueLaws.{due_touched, due_few}
use Rattle.release_index.proofs.touched.find_by.Goals as goal

pub returns-clause-touched : goal.returns-clause-touched
returns-clause-touched c =
    on_ok_weaker c.push_by.result
    (λ is. due_touched c.args.settings c.args.moment c.args.minute c.saturating_add-first.result c.last_id-last.result (let is = c.saturating_add-first.ensures in omega (arith, is)) c.args.held.now.list c.as_slice-2.ensures.rising
    (rw (← c.as_slice-2.ensures.value) c.last_id-last.ensures) c.args.index.now.keys (keys_of c.run.result.now) c.args.ids.now.items c.push_by.new.ids.items c.run.ensures.value is c.requires.index)
    c.push_by.ensures

pub returns-clause-few : goal.returns-clause-few
returns-clause-few c =
    on_ok_weaker c.push_by.result
    (λ is. due_few c.args.settings c.args.moment c.args.minute c.saturating_add-first.result c.last_id-last.result (let is = c.saturating_add-first.ensures in omega (arith, is)) c.args.held.now.list c.as_slice-2.ensures.rising
    (rw (← c.as_slice-2.ensures.value) c.last_id-last.ensures) c.args.index.now.keys (keys_of c.run.result.now) c.args.ids.now.items c.push_by.new.ids.items c.run.ensures.value is (rw (← c.as_slice.ensures.value) c.as_slice.ensures.sorted))
    c.push_by.ensures
