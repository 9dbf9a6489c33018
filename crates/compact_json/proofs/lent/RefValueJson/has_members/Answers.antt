use Rattle.std.proofs.Common.{ap, refl}
use Rattle.serde_json.proofs.Views.{members_len-members_view}
use Rattle.compact_json.specs.Keys.{has_count}
use Rattle.compact_json.proofs.lent.RefValueJson.has_members.Goals as goal

pub returns-in-Some : goal.returns-in-Some
returns-in-Some c = let e = ap (has_count c.args.count) c.in-Some.ensures in rw (← e, members_len-members_view, c.len.ensures.len) refl
