use Rattle.std.proofs.Common.{arith, ◌∙◌}
use Rattle.kept_replies.specs.Index.{leads_to}
use Rattle.kept_replies.proofs.SetLaws.{kept_all, kept_more, to_length}
use Rattle.kept_replies.proofs.by_person.keep_all.Goals as goal

pub keep_at-requires : goal.keep_at-requires
keep_at-requires c = let same = to_length (leads_to c.args.kept.now.list) c.loop-place.place _ _ c.loop-place.invariant.0 in omega (arith, same)

pub loop-place-preserved : goal.loop-place-preserved
loop-place-preserved c = (
  kept_more (leads_to c.args.kept.now.list) c.loop-place.place _ _ _ c.loop-place.invariant.0 c.keep_at.ensures.kept,
  c.keep_at.ensures.many ∙ c.loop-place.invariant.1,
  c.keep_at.ensures.capacity ∙ c.loop-place.invariant.2,
)

pub returns-clause-kept : goal.returns-clause-kept
returns-clause-kept c = kept_all (leads_to c.args.kept.now.list) c.loop-place.place _ _ c.loop-place.invariant.0 (omega arith)
