-- Calls that are made for a desk.
use Rattle.std.specs.Prelude.{◌≡◌, ℕ, true, List, Some}
use Rattle.asks.specs.Forms.{CallHasForms}
use Rattle.asks.specs.declared.call.Call.{Call}
use Rattle.ops_tables.specs.Rows.{Actor}
use Rattle.ops_tables.specs.Tables.{TableRows, actor_of}
use Rattle.relief.specs.Roster.{is_dispatcher_role}

-- The same call under the name and the key of the desk's namesake, who is a dispatcher. It is well-formed if the call
-- was.
pub record IsForDesk (t : TableRows) (desk : List ℕ) (call made : Call) : Type 0 where
  pub namesake : Actor
  pub known : actor_of t desk ≡ Some namesake
  pub role : is_dispatcher_role namesake.role ≡ true
  pub same : made ≡ record call { actor = desk; key = namesake.key }
  pub forms : CallHasForms call → CallHasForms made
