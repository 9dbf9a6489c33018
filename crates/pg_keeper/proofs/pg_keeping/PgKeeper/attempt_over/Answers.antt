use Rattle.std.proofs.Common.{ap}
use Rattle.std.specs.Option.{option_map}
use Rattle.pg_keeper.proofs.EndingLaws.{attempts_over}
use Rattle.pg_keeper.proofs.pg_keeping.PgKeeper.attempt_over.Goals as goal

pub returns-clause-attempted : goal.returns-clause-attempted
returns-clause-attempted g c =
    attempts_over _ _ _ _ _ _ _ _ (ap (option_map (λ l. (g.D.Link.Link.seen l).crossed)) c.in-Some.is)
    c.requires.request c.requires.whole c.is_lost-self.ensures c.made_over-ending.ensures
