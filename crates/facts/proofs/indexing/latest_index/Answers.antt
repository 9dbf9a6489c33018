use Rattle.facts.proofs.IndexingLaws.{stations_sorted}
use Rattle.facts.proofs.indexing.latest_index.Goals as goal

pub index_latest-requires : goal.index_latest-requires
index_latest-requires c =
    stations_sorted c.args.held.now _ _ _ _ c.in_ok-listed_stations.ensures c.from_vec-keys.ensures c.as_slice.ensures.value c.as_slice.ensures.sorted c.in_ok-stations.ensures
