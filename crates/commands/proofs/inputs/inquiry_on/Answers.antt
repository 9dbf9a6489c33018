use Rattle.std.proofs.Common.{Ok, ap, map, string_bytes, subst, ◌∙◌}
use Rattle.candidate_files.specs.Candidates.{AreCandidatesIn}
use Rattle.commands.proofs.InputLaws.{bad_candidate}
use Rattle.commands.proofs.inputs.inquiry_on.Goals as goal

pub returns-in-Ok-clause-states : goal.returns-in-Ok-clause-states
returns-in-Ok-clause-states c =
    record { plan_is = c.requires.states; candidates_are = subst (λ x. AreCandidatesIn c.args.tables.now c.args.plan x (Ok c.in-Ok.candidates)) c.second_of.ensures c.in-Ok.ensures.state }

pub returns-in-Err-clause-states : goal.returns-in-Err-clause-states
returns-in-Err-clause-states c =
    bad_candidate c.args.tables.now c.args.plan (map string_bytes c.args.names.now) c.args.texts.now c.second_name.result.now c.second_of.result.now c.in-Err.fault c.second_name.ensures c.second_of.ensures c.requires.states c.in-Err.ensures.state
