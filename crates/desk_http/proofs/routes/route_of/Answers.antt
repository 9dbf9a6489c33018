use Rattle.std.proofs.Common.{ap, cond, sym, None}
use Rattle.std.proofs.lemmas.Bool.{false_from_ne_true}
use Rattle.std.proofs.lemmas.Str.{IsUtf8-from_is_utf8, is_utf8-from_IsUtf8}
use Rattle.desk_http.specs.Routes.{route_of, route_in}
use Rattle.desk_http.proofs.RouteLaws.{routed_text}
use Rattle.desk_http.proofs.routes.route_of.Goals as goal

pub returns-in-Ok : goal.returns-in-Ok
returns-in-Ok c = routed_text c.route_in.result _ c.args.path.now c.in-Ok.ensures.cases.0 (is_utf8-from_IsUtf8 _ c.in-Ok.ensures.cases.1) c.route_in.ensures

pub returns-in-Err : goal.returns-in-Err
unfolding route_of
returns-in-Err c = sym (ap (λ b. cond b (route_in c.args.path.now) None) (false_from_ne_true _ (λ e. c.in-Err.ensures.cases.0 (IsUtf8-from_is_utf8 _ e))))
