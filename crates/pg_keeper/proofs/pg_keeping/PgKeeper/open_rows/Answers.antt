use Rattle.std.proofs.Common.{ap}
use Rattle.std.specs.Option.{option_map}
use Rattle.pg_keeper.proofs.LoadLaws.{loads_opened}
use Rattle.pg_keeper.proofs.pg_keeping.PgKeeper.open_rows.Goals as goal

pub returns-clause-loaded : goal.returns-clause-loaded
returns-clause-loaded g c none =
    loads_opened _ _ _ _ _ (ap (option_map (λ l. (g.D.Link.Link.seen l).crossed)) none) c.in_ok-rows.ensures.loaded c.in_ok-limit.ensures
