use Rattle.std.proofs.Common.{◌≤◌, sym, subst, length, Option, List, IfSome, arith}
use Rattle.std.proofs.lemmas.Result.{IfOk-weaker}
use Rattle.std.proofs.lemmas.Bool.Decides.{nat_tests}
use Rattle.serde_json.specs.Events.{items_len}
use Rattle.plan.specs.declared.flights.Leg.{Leg}
use Rattle.asks.specs.Legs.{leg_of}
use Rattle.asks.proofs.Lists.{few_read}
use Rattle.asks.proofs.legs.legs_of.Goals as goal

pub returns-then-are_at_most-clause-few : goal.returns-then-are_at_most-clause-few
returns-then-are_at_most-clause-few g c =
    let few : items_len (g.V.Json.left c.args.items) ≤ 1000 = grind (arith, nat_tests) in
    IfOk-weaker c.legs_in.result _ _ (λ x is. subst (λ (o : Option (List Leg)). IfSome o (λ all. length all ≤ 1000)) (sym is) (few_read leg_of (g.V.Json.left c.args.items) 1000 few)) c.legs_in.ensures.value
