use Rattle.std.proofs.Common.{ap, ◌∙◌}
use Rattle.std.proofs.lemmas.List.Filters.{dedup_is}
use Rattle.std.specs.List.{list_any}
use Rattle.std.specs.Map.{keys_of}
use Rattle.std.specs.BTreeMap.{is_at}
use Rattle.desk_io.proofs.KeySorts.{left_rise, left_held}
use Rattle.desk_io.proofs.keys.Keys.from_vec.Goals as goal

pub from_vec-requires : goal.from_vec-requires
from_vec-requires g c =
    left_rise g.K.Ord.cmp g.met.K.Ord.total g.K.PartialEq.eq g.met.K.Ord.matches_eq c.sort_unstable.new.self.items c.dedup.new.self.items c.sort_unstable.ensures.sorted (dedup_is _ _ _ c.dedup.ensures.filtered)

pub returns : goal.returns
returns g c q =
    ap (λ es. list_any (is_at (g.K.Ord.cmp q)) (keys_of es)) c.from_vec.ensures
    ∙ left_held g.K.Ord.cmp g.met.K.Ord.total g.K.PartialEq.eq g.met.K.Ord.matches_eq q c.args.keys.items c.sort_unstable.new.self.items c.dedup.new.self.items c.sort_unstable.ensures.permutation
    (dedup_is _ _ _ c.dedup.ensures.filtered)
