use Rattle.std.proofs.Common.{◌∙◌, refl, arith, take_all}
use Rattle.facts.proofs.ReindexLaws.{none_indexed, more_indexed, all_indexed}
use Rattle.facts.proofs.sweeping.index_latest.Goals as goal

pub loop-place-init : goal.loop-place-init
loop-place-init c = none_indexed c.args.stations.now.entries c.set_all.new.self.entries c.args.held.now c.requires c.set_all.ensures.keys c.set_all.ensures.each

pub loop-place-preserved : goal.loop-place-preserved
loop-place-preserved c =
    more_indexed c.loop-place.stations.entries c.replace.new.self.entries c.args.held.now _ c.loop-place.place c.index-held-place.result c.bytes-station.result c.places_at-places.result c.places_with-places.result
    c.loop-place.invariant (omega arith) c.index-held-place.is refl (c.bytes-station.ensures ∙ c.station.ensures) c.places_at-places.ensures c.places_with-places.ensures
    c.replace.ensures.keys c.replace.ensures.each

pub returns : goal.returns
returns c = all_indexed c.loop-place.stations.entries c.args.held.now c.loop-place.place c.loop-place.invariant (take_all c.loop-place.place c.args.held.now (omega arith))
