use Rattle.std.proofs.Common.{List, subst}
use Rattle.plan.specs.declared.release.Release.{Release}
use Rattle.release_index.specs.declared.moves.By.TheVariants as by
use Rattle.release_index.specs.Index.{onto_by, IsIndexOf}
use Rattle.release_index.proofs.HeldLaws.{held_from}
use Rattle.release_index.proofs.releases.Releases.from_vec.Goals as goal

pub invariant_of-result : goal.invariant_of-result
invariant_of-result c = (
  held_from c.args.settings c.args.list.items _ _ _ _ c.from_vec.ensures c.requires.each c.requires.few
      (subst (λ (rs : List Release). IsIndexOf (onto_by by.Station c.args.settings) c.in_ok-stations.stations.keys rs) c.as_slice.ensures.value c.in_ok-stations.ensures)
      (subst (λ (rs : List Release). IsIndexOf (onto_by by.Tail c.args.settings) c.in_ok-tails.tails.keys rs) c.as_slice-2.ensures.value c.in_ok-tails.ensures)
      (subst (λ (rs : List Release). IsIndexOf (onto_by by.Due c.args.settings) c.in_ok-dues.dues.keys rs) c.as_slice-3.ensures.value c.in_ok-dues.ensures),
  tt,
)
