use Rattle.std.proofs.lemmas.Result.{IfOk-weaker}
use Rattle.candidate_files.proofs.GoodLaws.{says}
use Rattle.candidate_files.proofs.records.read_candidates.Goals as goal

pub returns-clause-says : goal.returns-clause-says
returns-clause-says c =
    IfOk-weaker c.candidates_in.result _ _ (λ read is. says c.args.tables.now c.args.plan.now c.requires c.args.text.now read is) c.candidates_in.ensures.value
