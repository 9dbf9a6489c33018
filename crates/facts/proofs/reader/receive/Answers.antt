use Rattle.std.proofs.Common.{ap, ◌∙◌}
use Rattle.codes.specs.Groups.{canonical}
use Rattle.facts.proofs.Utf8Laws.{received_utf8}
use Rattle.facts.proofs.reader.receive.Goals as goal

-- the text is the canonical text of the groups
pub returns-clause-utf8 : goal.returns-clause-utf8
returns-clause-utf8 c is = received_utf8 c.args.text.now c.in_ok-text.text (c.in_ok-text.ensures.text ∙ ap canonical c.in_ok-groups.ensures.groups) is
