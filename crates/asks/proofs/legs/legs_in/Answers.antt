use Rattle.std.proofs.Common.{◌≡◌, Some, ◌∙◌, sym}
use Rattle.plan.specs.Check.{HasMoments}
use Rattle.asks.specs.Legs.{leg_of}
use Rattle.asks.proofs.Lists.{read_on}
use Rattle.asks.proofs.legs.legs_in.Goals as goal
use Rattle.desk_io.proofs.Each.{each_push}

pub items-preserved : goal.items-preserved
items-preserved g c =
    let leg = c.in-Some-2.leg in
    let found : leg_of (g.V.Json.told c.in-Some.item) ≡ Some leg = sym c.in_ok-leg.ensures.value ∙ c.in-Some-2.is in
    let more = read_on leg_of (g.V.Json.left c.items.left) (g.V.Json.left c.next.new.items) (g.V.Json.told c.in-Some.item) c.items.legs leg c.in-Some.ensures found in
    let here = rw c.in-Some-2.is at c.in_ok-leg.ensures.moments in
    rw c.in_ok-push-in-Some-2.ensures.ok (record {
      read = more ∙ c.items.invariant.read;
      moments = each_push HasMoments c.items.legs leg c.items.invariant.moments here;
    })
