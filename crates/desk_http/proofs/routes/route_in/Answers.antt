use Rattle.std.proofs.Common.{arith}
use Rattle.desk_http.proofs.Found.{are_bytes}
use Rattle.desk_http.proofs.RouteLaws.{routed_by_name}
use Rattle.desk_http.proofs.routes.route_in.Goals as goal

pub returns : goal.returns
returns c =
    routed_by_name c.named_route.result _ _ c.args.path.now (are_bytes c.args.path.now (λ i. omega (arith, c.type_inv.path i))) c.name_of.ensures c.as_bytes.ensures.value c.named_route.ensures
