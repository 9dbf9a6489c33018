-- The tables may go to another thread.
use denote.RattleType.{RattleType}
use denote.Param.{value_of}
use denote.Param.Send.{IsSend, sendable, struct_send}
use denote.Struct.Declared.{shape}
use Rattle.std.proofs.Crossing.{crosses}
use Rattle.ops_tables.specs.contracts.rows.Airport as Airport
use Rattle.ops_tables.specs.contracts.rows.Approach as Approach
use Rattle.ops_tables.specs.contracts.rows.AlternateRow as AlternateRow
use Rattle.ops_tables.specs.contracts.rows.TypeRow as TypeRow
use Rattle.ops_tables.specs.contracts.rows.Tail as Tail
use Rattle.ops_tables.specs.contracts.rows.Use as Use
use Rattle.ops_tables.specs.contracts.rows.Distance as Distance
use Rattle.ops_tables.specs.contracts.rows.Route as Route
use Rattle.ops_tables.specs.contracts.rows.MelRow as MelRow
use Rattle.ops_tables.specs.contracts.small_rows.ItemPair as ItemPair
use Rattle.ops_tables.specs.contracts.small_rows.Actor as Actor
use Rattle.ops_tables.specs.contracts.small_rows.CaptainHours as CaptainHours
use Rattle.ops_tables.specs.contracts.grouped.Grouped as Grouped
use Rattle.ops_tables.specs.declared.grouped.Row as Row
use Rattle.ops_tables.specs.contracts.loading.Loading as Loading
use Rattle.ops_tables.specs.contracts.tables.Tables as Tables
use Rattle.ops_tables.specs.contracts.rows.Settings as Settings

pub Settings_field_send : IsSend (Settings.the_field).row
Settings_field_send = search (sendable, crosses) depth 60 fits 9000

Grouped_send : (R N : RattleType) → IsSend R → (a : Row.Ghosts R.Denot (value_of N)) → IsSend (Grouped.the_field R N a).row
Grouped_send R N r a = search (sendable, crosses) depth 90 fits 9000

Airport_send : IsSend Airport.the_row
Airport_send = search (sendable, crosses) depth 60 fits 9000

Approach_send : IsSend Approach.the_row
Approach_send = search (sendable, crosses) depth 60 fits 9000

AlternateRow_send : IsSend AlternateRow.the_row
AlternateRow_send = search (sendable, crosses) depth 60 fits 9000

TypeRow_send : IsSend TypeRow.the_row
TypeRow_send = search (sendable, crosses) depth 60 fits 9000

Tail_send : IsSend Tail.the_row
Tail_send = search (sendable, crosses) depth 60 fits 9000

Use_send : IsSend Use.the_row
Use_send = search (sendable, crosses) depth 60 fits 9000

Distance_send : IsSend Distance.the_row
Distance_send = search (sendable, crosses) depth 60 fits 9000

Route_send : IsSend Route.the_row
Route_send = search (sendable, crosses) depth 60 fits 9000

MelRow_send : IsSend MelRow.the_row
MelRow_send = search (sendable, crosses) depth 60 fits 9000

ItemPair_send : IsSend ItemPair.the_row
ItemPair_send = search (sendable, crosses) depth 60 fits 9000

Actor_send : IsSend Actor.the_row
Actor_send = search (sendable, crosses) depth 60 fits 9000

CaptainHours_send : IsSend CaptainHours.the_row
CaptainHours_send = search (sendable, crosses) depth 60 fits 9000

Loading_send : IsSend (Loading.the_field).row
Loading_send = struct_send (shape Loading.the_type) (Settings_field_send, (search (Grouped_send, Airport_send) depth 20, (search (Grouped_send, Approach_send) depth 20, (search (Grouped_send, AlternateRow_send) depth 20, (search (Grouped_send, TypeRow_send) depth 20, (search (Grouped_send, Tail_send) depth 20, (search (Grouped_send, Use_send) depth 20, (search (Grouped_send, Distance_send) depth 20, (search (Grouped_send, Route_send) depth 20, (search (Grouped_send, MelRow_send) depth 20, (search (Grouped_send, ItemPair_send) depth 20, (search (Grouped_send, Actor_send) depth 20, (search (Grouped_send, CaptainHours_send) depth 20, tt)))))))))))))

pub Tables_send : IsSend (Tables.the_field).row
Tables_send = search (sendable, Loading_send) depth 60 fits 9000
