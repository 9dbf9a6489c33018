-- The keeper of a file may go to another thread.
use denote.RattleType.{RattleType}
use denote.Param.Send.{IsSend, sendable}
use Rattle.std.proofs.Crossing.{crosses}
use Rattle.sqlite_value.specs.contracts.value.Bytes as Bytes
use Rattle.sqlite_value.specs.contracts.value.Value as Value
use Rattle.sqlite_value.specs.contracts.keys.Collation as Collation
use Rattle.sqlite_value.specs.contracts.keys.Key as Key
use Rattle.sqlite_value.specs.contracts.keys.Order as Order
use Rattle.sqlite_value.specs.contracts.row.Cell as Cell
use Rattle.sqlite_value.specs.contracts.row.Row as Row
use Rattle.sqlite_items.specs.contracts.items.Items as Items
use Rattle.sqlite_sql.specs.contracts.ops.ArithOp as ArithOp
use Rattle.sqlite_sql.specs.contracts.ops.BitOp as BitOp
use Rattle.sqlite_sql.specs.contracts.ops.CompareOp as CompareOp
use Rattle.sqlite_sql.specs.contracts.ops.BinaryOp as BinaryOp
use Rattle.sqlite_sql.specs.contracts.ops.UnaryOp as UnaryOp
use Rattle.sqlite_schema.specs.contracts.code.Op as Op
use Rattle.sqlite_schema.specs.contracts.code.Terms as Terms
use Rattle.sqlite_schema.specs.contracts.schema.Action as Action
use Rattle.sqlite_schema.specs.contracts.schema.Kind as Kind
use Rattle.sqlite_schema.specs.contracts.schema.Column as Column
use Rattle.sqlite_schema.specs.contracts.schema.Index as Index
use Rattle.sqlite_schema.specs.contracts.schema.Reference as Reference
use Rattle.sqlite_schema.specs.contracts.schema.Stamps as Stamps
use Rattle.sqlite_schema.specs.contracts.schema.Table as Table
use Rattle.sqlite_schema.specs.contracts.schema.View as View
use Rattle.sqlite_schema.specs.contracts.schema.Schema as Schema
use Rattle.sqlite_sql.specs.contracts.aggregate.AggregateOp as AggregateOp
use Rattle.sqlite_sql.specs.contracts.query.Aggregate as Aggregate
use Rattle.sqlite_sql.specs.contracts.query.Made as Made
use Rattle.sqlite_sql.specs.contracts.query.SetOp as SetOp
use Rattle.sqlite_sql.specs.contracts.query.SortKey as SortKey
use Rattle.sqlite_schema.specs.contracts.plan.Groups as Groups
use Rattle.sqlite_schema.specs.contracts.plan.Scan as Scan
use Rattle.sqlite_schema.specs.contracts.plan.Stage as Stage
use Rattle.sqlite_schema.specs.contracts.plan.Plan as Plan
use Rattle.sqlite_schema.specs.contracts.program.Table as ProgramTable
use Rattle.sqlite_schema.specs.contracts.program.Program as Program
use Rattle.sqlite_schema.specs.contracts.command.Source as Source
use Rattle.sqlite_schema.specs.contracts.command.Conflict as Conflict
use Rattle.sqlite_schema.specs.contracts.command.Upsert as Upsert
use Rattle.sqlite_schema.specs.contracts.command.Returning as Returning
use Rattle.sqlite_schema.specs.contracts.command.Command as Command
use Rattle.sqlite_resolve.specs.contracts.compiled.Compiled as Compiled
use Rattle.sqlite.specs.contracts.cache.Entry as CacheEntry
use Rattle.sqlite.specs.contracts.history.Mark as HistoryMark
use Rattle.sqlite.specs.contracts.history.History as History
use Rattle.sqlite.specs.contracts.clock.WallClock as WallClock
use Rattle.sqlite_exec.specs.contracts.slots.Slots as Slots
use Rattle.sqlite_exec.specs.contracts.work.Workspace as Workspace
use Rattle.sqlite_exec.specs.contracts.rows.Rows as Rows
use Rattle.sqlite_exec.specs.contracts.seen.Seen as Seen
use Rattle.sqlite_exec.specs.contracts.page.Page as Page
use Rattle.sqlite_exec.specs.contracts.mark.Way as Way
use Rattle.sqlite_exec.specs.contracts.mark.Mark as StreamMark
use Rattle.sqlite_exec.specs.contracts.marks.Marks as Marks
use Rattle.sqlite_exec.specs.contracts.stream.Rounds as Rounds
use Rattle.sqlite_exec.specs.contracts.stream.Stream as Stream
use Rattle.sqlite_exec.specs.contracts.budget.Budget as Budget
use Rattle.sqlite.specs.contracts.run.reading.Reading as Reading
use Rattle.sqlite_wal.specs.contracts.index.PageIndex as PageIndex
use Rattle.sqlite_wal.specs.contracts.recover.Mark as LogMark
use Rattle.sqlite_wal.specs.contracts.log.Ahead as Ahead
use Rattle.sqlite_wal.specs.contracts.log.Point as Point
use Rattle.sqlite_wal.specs.contracts.batch.Batch as LogBatch
use Rattle.sqlite_wal.specs.contracts.log.Log as Log
use Rattle.sqlite_pager.specs.contracts.layers.Layer as Layer
use Rattle.sqlite_pager.specs.contracts.cache.Cache as Cache
use Rattle.sqlite_pager.specs.contracts.pager.Options as Options
use Rattle.sqlite_pager.specs.contracts.pager.Pager as Pager
use Rattle.sqlite_pool.specs.contracts.backing.Backing as Backing
use Rattle.sqlite_pool.specs.contracts.free_set.FreeSet as FreeSet
use Rattle.sqlite_pool.specs.contracts.pool.Mark as PoolMark
use Rattle.sqlite_pool.specs.contracts.pool.Pool as Pool
use Rattle.sqlite_trees.specs.contracts.store.Direction as Direction
use Rattle.sqlite_trees.specs.contracts.store.Shape as Shape
use Rattle.sqlite_trees.specs.contracts.error.StoreError as StoreError
use Rattle.sqlite_store.specs.contracts.catalog.Wanted as Wanted
use Rattle.sqlite_format.specs.contracts.kind.Tree as Tree
use Rattle.sqlite_format.specs.contracts.kind.Kind as PageKind
use Rattle.sqlite_btree.specs.contracts.batch.Batch as Batch
use Rattle.sqlite_btree.specs.contracts.scratch.Scratch as Scratch
use Rattle.sqlite_store.specs.contracts.cursor.Place as Place
use Rattle.sqlite_store.specs.contracts.cursor.Cursor as Cursor
use Rattle.sqlite_store.specs.contracts.saved.Listed as Listed
use Rattle.sqlite_store.specs.contracts.saved.Saved as Saved
use Rattle.sqlite_store.specs.contracts.limits.Limits as Limits
use Rattle.sqlite_store.specs.contracts.store.FileStore as FileStore
use Rattle.sqlite.specs.contracts.connection.Connection as Connection
use Rattle.sqlite_disk.specs.contracts.tally.Tally as Tally
use Rattle.sqlite_disk.specs.contracts.start.Unknown as Unknown
use Rattle.sqlite_std_file.specs.contracts.record.Record as Record
use Rattle.sqlite_std_file.specs.contracts.host.Host as Host
use Rattle.sqlite_disk.specs.contracts.modelled.Modelled as Modelled
use Rattle.desk_net.proofs.Crossing.{TcpLink_send}
use Rattle.chosen_keeper.proofs.Crossing.{KeeperOver_field_send, PgKeeper_field_send, TcpDial_send, AnswerStream_send}
use Rattle.chosen_keeper.specs.contracts.either.EitherKeeper as EitherKeeper
use Rattle.sqlite_keeper.proofs.Crossing.{KeeperOver_send}
use Rattle.sqlite_keeper.specs.contracts.file.KeeperOver as KeeperOver
use Rattle.sqlite_disk.specs.declared.Disk as Disk
use Rattle.sqlite_disk.specs.declared.calls.Calls as Calls
use Rattle.sqlite_disk.specs.declared.start.Start as Start
use Rattle.sqlite_trees.specs.declared.store.Store as Store

pub Bytes_send : IsSend (Bytes.the_field).row
Bytes_send = search (sendable, crosses) depth 60 fits 9000

pub Value_send : IsSend (Value.the_field).row
Value_send = search (sendable, crosses, Bytes_send) depth 60 fits 9000

pub Collation_send : IsSend (Collation.the_field).row
Collation_send = search (sendable, crosses) depth 60 fits 9000

pub Key_send : IsSend (Key.the_field).row
Key_send = search (sendable, crosses, Collation_send) depth 60 fits 9000

pub Order_send : IsSend (Order.the_field).row
Order_send = search (sendable, crosses) depth 60 fits 9000

pub Cell_send : IsSend (Cell.the_field).row
Cell_send = search (sendable, crosses) depth 60 fits 9000

pub Row_send : IsSend (Row.the_field).row
Row_send = search (sendable, crosses, Cell_send) depth 60 fits 9000

pub Items_send : (R : RattleType) → IsSend R → IsSend (Items.the_field R).row
Items_send R r = search (sendable, crosses) depth 60 fits 9000

pub ArithOp_send : IsSend (ArithOp.the_field).row
ArithOp_send = search (sendable, crosses) depth 60 fits 9000

pub BitOp_send : IsSend (BitOp.the_field).row
BitOp_send = search (sendable, crosses) depth 60 fits 9000

pub CompareOp_send : IsSend (CompareOp.the_field).row
CompareOp_send = search (sendable, crosses) depth 60 fits 9000

pub BinaryOp_send : IsSend (BinaryOp.the_field).row
BinaryOp_send = search (sendable, crosses, ArithOp_send, BitOp_send, CompareOp_send, Collation_send) depth 60 fits 9000

pub UnaryOp_send : IsSend (UnaryOp.the_field).row
UnaryOp_send = search (sendable, crosses) depth 60 fits 9000

pub Op_send : IsSend (Op.the_field).row
Op_send = search (sendable, crosses, Value_send, BinaryOp_send, UnaryOp_send) depth 60 fits 9000

pub Terms_send : IsSend (Terms.the_field).row
Terms_send = search (sendable, crosses, Items_send, Op_send) depth 60 fits 9000

pub Action_send : IsSend (Action.the_field).row
Action_send = search (sendable, crosses) depth 60 fits 9000

pub Kind_send : IsSend (Kind.the_field).row
Kind_send = search (sendable, crosses) depth 60 fits 9000

pub Column_send : IsSend (Column.the_field).row
Column_send = search (sendable, crosses, Bytes_send, Kind_send, Value_send, Collation_send) depth 60 fits 9000

pub Index_send : IsSend (Index.the_field).row
Index_send = search (sendable, crosses, Bytes_send, Items_send, Order_send) depth 60 fits 9000

pub Reference_send : IsSend (Reference.the_field).row
Reference_send = search (sendable, crosses, Items_send, Bytes_send, Action_send) depth 60 fits 9000

pub Stamps_send : IsSend (Stamps.the_field).row
Stamps_send = search (sendable, crosses, Items_send, Terms_send, Bytes_send) depth 60 fits 9000

pub Table_send : IsSend (Table.the_field).row
Table_send = search (sendable, crosses, Bytes_send, Items_send, Column_send, Order_send, Terms_send, Reference_send, Stamps_send) depth 60 fits 9000

pub View_send : IsSend (View.the_field).row
View_send = search (sendable, crosses, Bytes_send) depth 60 fits 9000

pub Schema_send : IsSend (Schema.the_field).row
Schema_send = search (sendable, crosses, Items_send, Table_send, Index_send, View_send) depth 60 fits 9000

pub AggregateOp_send : IsSend (AggregateOp.the_field).row
AggregateOp_send = search (sendable, crosses) depth 60 fits 9000

pub Aggregate_send : IsSend (Aggregate.the_field).row
Aggregate_send = search (sendable, crosses, AggregateOp_send, Collation_send) depth 60 fits 9000

pub Made_send : IsSend (Made.the_field).row
Made_send = search (sendable, crosses) depth 60 fits 9000

pub SetOp_send : IsSend (SetOp.the_field).row
SetOp_send = search (sendable, crosses) depth 60 fits 9000

pub SortKey_send : IsSend (SortKey.the_field).row
SortKey_send = search (sendable, crosses, Key_send) depth 60 fits 9000

pub Groups_send : IsSend (Groups.the_field).row
Groups_send = search (sendable, crosses, Items_send, Collation_send, Aggregate_send) depth 60 fits 9000

pub Scan_send : IsSend (Scan.the_field).row
Scan_send = search (sendable, crosses, Items_send) depth 60 fits 9000

pub Stage_send : IsSend (Stage.the_field).row
Stage_send = search (sendable, crosses, Items_send, Scan_send, Made_send, Aggregate_send, SortKey_send) depth 60 fits 9000

pub Plan_send : IsSend (Plan.the_field).row
Plan_send = search (sendable, crosses, Items_send, Op_send, Stage_send, Groups_send, Collation_send, SortKey_send) depth 60 fits 9000

pub ProgramTable_send : IsSend (ProgramTable.the_field).row
ProgramTable_send = search (sendable, crosses, Items_send, Plan_send, SetOp_send, Collation_send) depth 60 fits 9000

pub Program_send : IsSend (Program.the_field).row
Program_send = search (sendable, crosses, Items_send, ProgramTable_send, Plan_send) depth 60 fits 9000

pub Source_send : IsSend (Source.the_field).row
Source_send = search (sendable, crosses, Terms_send, Program_send) depth 60 fits 9000

pub Conflict_send : IsSend (Conflict.the_field).row
Conflict_send = search (sendable, crosses) depth 60 fits 9000

pub Upsert_send : IsSend (Upsert.the_field).row
Upsert_send = search (sendable, crosses, Items_send, Program_send) depth 60 fits 9000

pub Returning_send : IsSend (Returning.the_field).row
Returning_send = search (sendable, crosses, Items_send, Bytes_send, Source_send) depth 60 fits 9000

pub Command_send : IsSend (Command.the_field).row
Command_send = search (sendable, crosses, Program_send, Items_send, Bytes_send, Source_send, Conflict_send, Upsert_send, Value_send) depth 60 fits 9000

pub Compiled_send : IsSend (Compiled.the_field).row
Compiled_send = search (sendable, crosses, Command_send, Returning_send, Items_send, Bytes_send) depth 60 fits 9000

pub CacheEntry_send : IsSend (CacheEntry.the_field).row
CacheEntry_send = search (sendable, crosses, Bytes_send, Compiled_send) depth 60 fits 9000

pub HistoryMark_send : IsSend (HistoryMark.the_field).row
HistoryMark_send = search (sendable, crosses, Bytes_send, Schema_send) depth 60 fits 9000

pub History_send : IsSend (History.the_field).row
History_send = search (sendable, crosses, Schema_send, HistoryMark_send) depth 60 fits 9000

pub WallClock_send : IsSend (WallClock.the_field).row
WallClock_send = search (sendable, crosses) depth 60 fits 9000

pub Slots_send : IsSend (Slots.the_field).row
Slots_send = search (sendable, crosses, Row_send) depth 60 fits 9000

pub Workspace_send : IsSend (Workspace.the_field).row
Workspace_send = search (sendable, crosses, Row_send, Slots_send) depth 60 fits 9000

pub Rows_send : IsSend (Rows.the_field).row
Rows_send = search (sendable, crosses, Row_send) depth 60 fits 9000

pub Seen_send : IsSend (Seen.the_field).row
Seen_send = search (sendable, crosses, Rows_send) depth 60 fits 9000

pub Page_send : IsSend (Page.the_field).row
Page_send = search (sendable, crosses, Rows_send) depth 60 fits 9000

pub Way_send : IsSend (Way.the_field).row
Way_send = search (sendable, crosses, Row_send, Order_send) depth 60 fits 9000

pub StreamMark_send : IsSend (StreamMark.the_field).row
StreamMark_send = search (sendable, crosses, Row_send, Way_send) depth 60 fits 9000

pub Marks_send : IsSend (Marks.the_field).row
Marks_send = search (sendable, crosses, StreamMark_send) depth 60 fits 9000

pub Rounds_send : IsSend (Rounds.the_field).row
Rounds_send = search (sendable, crosses, Seen_send) depth 60 fits 9000

pub Stream_send : IsSend (Stream.the_field).row
Stream_send = search (sendable, crosses, Row_send, Page_send, Marks_send, Rounds_send) depth 60 fits 9000

pub Budget_send : IsSend (Budget.the_field).row
Budget_send = search (sendable, crosses) depth 60 fits 9000

pub Reading_send : IsSend (Reading.the_field).row
Reading_send = search (sendable, crosses, Stream_send, Budget_send, Row_send) depth 60 fits 9000

pub PageIndex_send : IsSend (PageIndex.the_field).row
PageIndex_send = search (sendable, crosses) depth 60 fits 9000

pub LogMark_send : IsSend (LogMark.the_field).row
LogMark_send = search (sendable, crosses) depth 60 fits 9000

pub Ahead_send : IsSend (Ahead.the_field).row
Ahead_send = search (sendable, crosses) depth 60 fits 9000

pub Point_send : IsSend (Point.the_field).row
Point_send = search (sendable, crosses) depth 60 fits 9000

pub LogBatch_send : IsSend (LogBatch.the_field).row
LogBatch_send = search (sendable, crosses, PageIndex_send) depth 60 fits 9000

pub Log_send : (D : RattleType) → IsSend D → (a : Disk.Ghosts D.Denot) → IsSend (Log.the_field D a).row
Log_send D d a = search (sendable, crosses, PageIndex_send, LogMark_send, Ahead_send) depth 60 fits 9000

pub Layer_send : IsSend (Layer.the_field).row
Layer_send = search (sendable, crosses, LogBatch_send) depth 60 fits 9000

pub Cache_send : IsSend (Cache.the_field).row
Cache_send = search (sendable, crosses) depth 60 fits 9000

pub Options_send : IsSend (Options.the_field).row
Options_send = search (sendable, crosses) depth 60 fits 9000

pub Pager_send : (D : RattleType) → IsSend D → (a : Disk.Ghosts D.Denot) → IsSend (Pager.the_field D a).row
Pager_send D d a = search (sendable, crosses, Log_send, LogBatch_send, Point_send, Layer_send, Cache_send, Options_send) depth 60 fits 9000

pub Backing_send : (D : RattleType) → IsSend D → (a : Disk.Ghosts D.Denot) → IsSend (Backing.the_field D a).row
Backing_send D d a = search (sendable, crosses, Pager_send) depth 60 fits 9000

pub FreeSet_send : IsSend (FreeSet.the_field).row
FreeSet_send = search (sendable, crosses) depth 60 fits 9000

pub PoolMark_send : IsSend (PoolMark.the_field).row
PoolMark_send = search (sendable, crosses) depth 60 fits 9000

pub Pool_send : (D : RattleType) → IsSend D → (a : Disk.Ghosts D.Denot) → IsSend (Pool.the_field D a).row
Pool_send D d a = search (sendable, crosses, Backing_send, FreeSet_send, PoolMark_send) depth 60 fits 9000

pub Direction_send : IsSend (Direction.the_field).row
Direction_send = search (sendable, crosses) depth 60 fits 9000

pub Shape_send : IsSend (Shape.the_field).row
Shape_send = search (sendable, crosses, Order_send) depth 60 fits 9000

pub StoreError_send : IsSend (StoreError.the_field).row
StoreError_send = search (sendable, crosses) depth 60 fits 9000

pub Wanted_send : IsSend (Wanted.the_field).row
Wanted_send = search (sendable, crosses, Shape_send, Row_send) depth 60 fits 9000

pub Tree_send : IsSend (Tree.the_field).row
Tree_send = search (sendable, crosses) depth 60 fits 9000

pub PageKind_send : IsSend (PageKind.the_field).row
PageKind_send = search (sendable, crosses, Tree_send) depth 60 fits 9000

pub Batch_send : IsSend (Batch.the_field).row
Batch_send = search (sendable, crosses, PageKind_send) depth 60 fits 9000

pub Scratch_send : IsSend (Scratch.the_field).row
Scratch_send = search (sendable, crosses) depth 60 fits 9000

pub Place_send : IsSend (Place.the_field).row
Place_send = search (sendable, crosses) depth 60 fits 9000

pub Cursor_send : IsSend (Cursor.the_field).row
Cursor_send = search (sendable, crosses, Shape_send, Direction_send, Place_send, Batch_send) depth 60 fits 9000

pub Listed_send : IsSend (Listed.the_field).row
Listed_send = search (sendable, crosses, Wanted_send) depth 60 fits 9000

pub Saved_send : IsSend (Saved.the_field).row
Saved_send = search (sendable, crosses, Wanted_send, Listed_send) depth 60 fits 9000

pub Limits_send : IsSend (Limits.the_field).row
Limits_send = search (sendable, crosses, StoreError_send) depth 60 fits 9000

pub FileStore_send : (D : RattleType) → IsSend D → (a : Disk.Ghosts D.Denot) → IsSend (FileStore.the_row D a)
FileStore_send D d a = search (sendable, crosses, Pool_send, Wanted_send, Saved_send, Cursor_send, Scratch_send, Limits_send) depth 60 fits 9000

pub Connection_send : (S : RattleType) → IsSend S → (a : Store.Ghosts S.Denot) → IsSend (Connection.the_row S a)
Connection_send S s a = search (sendable, crosses, Schema_send, History_send, CacheEntry_send, Row_send, WallClock_send, Reading_send, Workspace_send) depth 60 fits 9000

pub Tally_send : IsSend (Tally.the_field).row
Tally_send = search (sendable, crosses) depth 60 fits 9000

pub Unknown_send : IsSend Unknown.the_row
Unknown_send = search (sendable, crosses) depth 60 fits 9000

pub Record_send : IsSend (Record.the_field).row
Record_send = search (sendable, crosses) depth 60 fits 9000

pub Host_send : IsSend Host.the_row
Host_send = search (sendable, crosses, Record_send) depth 60 fits 9000

pub Modelled_send : (C S : RattleType) → IsSend C → IsSend S → (a : Calls.Ghosts C.Denot) → (b : Start.Ghosts S.Denot) → IsSend (Modelled.the_row C S a b)
Modelled_send C S c s a b = search (sendable, crosses, Tally_send) depth 60 fits 9000

-- The keeper that the program uses.
pub SqliteKeeper_send : (c : Calls.Ghosts Host.the_row.Denot) → (s : Start.Ghosts Unknown.the_row.Denot)
    → (d : Disk.Ghosts (Modelled.the_row Host.the_row Unknown.the_row c s).Denot)
    → (t : Store.Ghosts (FileStore.the_row (Modelled.the_row Host.the_row Unknown.the_row c s) d).Denot)
    → IsSend (KeeperOver.the_row (Connection.the_row (FileStore.the_row (Modelled.the_row Host.the_row Unknown.the_row c s) d) t))
SqliteKeeper_send c s d t =
    KeeperOver_send _ (Connection_send _ (FileStore_send _ (Modelled_send _ _ Host_send Unknown_send c s) d) t)

-- The keeper of rows in a file, or at a server.
pub EitherKeeper_send : IsSend EitherKeeper.the_row
EitherKeeper_send = search (sendable, crosses, KeeperOver_field_send, Connection_send, FileStore_send, Modelled_send, Host_send, Unknown_send, PgKeeper_field_send, TcpDial_send, AnswerStream_send, TcpLink_send) depth 60 fits 9000
