use Rattle.std.proofs.lemmas.List.Elements.{All-same}
use Rattle.codes.specs.Groups.{IsGroup, groups_of}
use Rattle.codes.proofs.CanonicalLaws.{groups_are_groups}
use Rattle.codes.proofs.groups.Groups.of.Goals as goal

-- what a text is cut into are groups
pub invariant_of-result : goal.invariant_of-result
invariant_of-result c = All-same IsGroup c.in_ok-items.items.items (groups_of c.args.text.now) c.in_ok-items.ensures (groups_are_groups c.args.text.now)
