use Rattle.std.proofs.Common.{◌∙◌}
use Rattle.std.specs.Map.{keys_of}
use Rattle.kept_replies.specs.ByPerson.{keys_under}
use Rattle.kept_replies.proofs.FoundLaws.{first_is}
use Rattle.kept_replies.proofs.requests.kept_at.Goals as goal

pub returns : goal.returns
returns c =
    c.first_to.ensures
    ∙ first_is c.args.actor.now c.fingerprint-mark.result c.args.number c.args.kept.now.list (keys_under c.args.requests.now) (keys_of c.from-keys.result.now) c.fingerprint-mark.ensures
    c.as_slice.ensures.rising c.requires c.from-keys.ensures.value c.from-keys.ensures.sorted
