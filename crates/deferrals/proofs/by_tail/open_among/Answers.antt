use Rattle.std.proofs.Common.{◌∙◌}
use Rattle.std.proofs.lemmas.Result.{IfOk-weaker}
use Rattle.std.specs.Map.{keys_of}
use Rattle.deferrals.proofs.Halves.{last_above}
use Rattle.deferrals.proofs.TailLaws.{found_on}
use Rattle.deferrals.proofs.by_tail.open_among.Goals as goal

pub returns : goal.returns
returns c =
    let ds = c.args.held.now in
    let run = c.run-run in
    let law = found_on c.tail_number-number.result c.last_id.result c.args.tail.now ds c.args.by_tail.now.keys (keys_of run.result.now) c.requires.rising c.tail_number-number.ensures
    (rw c.last_id.ensures (last_above ds c.requires.rising)) c.requires.keys run.ensures.sorted run.ensures.value in
    IfOk-weaker c.open_by.result _ _ (λ v is. is ∙ law) c.open_by.ensures
