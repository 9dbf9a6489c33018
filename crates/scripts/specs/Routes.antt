-- What each line of a shift script comes to. It follows from the tables and the earlier lines, and never from the
-- board.
use Rattle.std.specs.Prelude.{ℕ, not, List, [], ◌∷◌, map, Option, None, Some, Result, Ok, Err, if◌then◌else◌}
use Rattle.std.specs.List.{filter_map}
use Rattle.asks.specs.declared.bad_call.BadCall.{BadCall}
use Rattle.asks.specs.declared.call.Call.{Call}
use Rattle.asks.specs.declared.reply.Refusal.{Refusal}
use Rattle.asks.specs.declared.reply.Refusal.TheVariants.{NotYourRole}
use Rattle.asks.specs.declared.reply.Reply.TheVariants as reply
use Rattle.desk_json.specs.LineReplies.{line_refusal_text, seated_text}
use Rattle.desk_json.specs.Replies.{reply_text}
use Rattle.desk_json.specs.Shifts.{shift_or_fault}
use Rattle.desk_json.specs.declared.line_replies.LineRefusal.{LineRefusal}
use Rattle.desk_json.specs.declared.line_replies.LineRefusal.TheVariants as refusal
use Rattle.desk_json.specs.declared.shifts.Deal.{Deal}
use Rattle.desk_json.specs.declared.shifts.Deal.TheVariants as deal
use Rattle.desk_json.specs.declared.shifts.ShiftLine.{ShiftLine}
use Rattle.desk_json.specs.declared.shifts.ShiftLine.TheVariants.{Asked, Relief}
use Rattle.desk_state.specs.Chain.{refused_if}
use Rattle.desk_state.specs.Decide.{is_view}
use Rattle.desk_state.specs.People.{mistaken}
use Rattle.desk_state.specs.declared.lanes.Item.{Item}
use Rattle.desk_state.specs.declared.lanes.Item.TheVariants as kind
use Rattle.ops_tables.specs.Rows.{Actor}
use Rattle.ops_tables.specs.Tables.{TableRows, actor_of}
use Rattle.relief.specs.Handovers.{after_one, refusal_of}
use Rattle.relief.specs.Refusals.{call_refusal}
use Rattle.relief.specs.Roster.{is_dispatcher, is_dispatcher_role}
use Rattle.relief.specs.declared.handover.Handover.{Handover}
use Rattle.relief.specs.declared.handover.Handover.TheVariants.{Offer, Accept}
use Rattle.relief.specs.declared.lines.RosterLine.{RosterLine}
use Rattle.relief.specs.declared.refusals.ReliefFault.{ReliefFault}
use Rattle.relief.specs.declared.refusals.ReliefFault.TheVariants as fault
use Rattle.scripts.specs.declared.routes.Routed.{Routed}
use Rattle.scripts.specs.declared.routes.Routed.TheVariants.{ToBoard, Replied}

-- ---- replies at once

-- a refusal because of who sends the line: 1, 2 or 3
abbrev pub refused : Refusal → Routed
refused why = Replied (reply_text (reply.Refused why))

abbrev pub refused_line : LineRefusal → Routed
refused_line why = Replied (line_refusal_text why)

-- The refusal of a handover, or of a call for a desk: 31 to 34. Out of memory is no refusal, and no test gives it.
abbrev pub not_relieved : ReliefFault → Routed
not_relieved (fault.NotSitting sitter) = refused_line (refusal.NotSitting sitter)
not_relieved fault.NoSuchDesk = refused_line refusal.NoSuchDesk
not_relieved (fault.NotOffered offered) = refused_line (refusal.NotOffered offered)
not_relieved fault.BadRelief = refused_line refusal.BadRelief
not_relieved fault.OutOfMemory = Replied []

-- the refusal of a test, if there is one, and else what follows
abbrev pub or_refused : Option Refusal → Routed → Routed
or_refused None next = next
or_refused (Some why) next = refused why

abbrev pub or_not_relieved : Option ReliefFault → Routed → Routed
or_not_relieved None next = next
or_not_relieved (Some why) next = not_relieved why

-- ---- calls

-- the key of a known person is wrong (2)
abbrev pub key_refusal : Actor → List ℕ → Option Refusal
key_refusal person key = mistaken (Some person) key

-- a call that is answered on the board as it is
abbrev pub as_it_is : ℕ → Call → Routed
as_it_is at call = ToBoard (kind.Call at call)

abbrev pub key_of : Option Actor → List ℕ
key_of None = []
key_of (Some person) = person.key

-- the same call under the name and the key of a desk
abbrev pub for_desk : TableRows → List ℕ → Call → Call
for_desk t desk call = record call { actor = desk; key = key_of (actor_of t desk) }

-- A call for a desk, at which its actor must sit. It is answered on the board as the desk's.
abbrev pub at_desk : TableRows → List RosterLine → ℕ → List ℕ → Call → Routed
at_desk t roster at desk call = or_not_relieved (call_refusal roster call.actor desk) (as_it_is at (for_desk t desk call))

-- A dispatcher's call. It is made for the desk that the line names, or else for his own. A view is answered as it is
-- if the line names no desk.
abbrev pub by_dispatcher : TableRows → List RosterLine → ℕ → Call → Option (List ℕ) → Routed
by_dispatcher t roster at call (Some desk) = at_desk t roster at desk call
by_dispatcher t roster at call None = if is_view call.ask then as_it_is at call else at_desk t roster at call.actor call

-- The call of somebody who is no dispatcher. If the line names a desk, his key is tested (2), and then he is refused
-- (3).
abbrev pub by_another : Actor → ℕ → Call → Option (List ℕ) → Routed
by_another person at call None = as_it_is at call
by_another person at call (Some desk) = or_refused (key_refusal person call.key) (refused NotYourRole)

-- the call of a known person; a dispatcher's key is tested first (2)
abbrev pub by_person : Actor → TableRows → List RosterLine → ℕ → Call → Option (List ℕ) → Routed
by_person person t roster at call desk =
    if is_dispatcher_role person.role then or_refused (key_refusal person call.key) (by_dispatcher t roster at call desk)
    else by_another person at call desk

-- if nobody has the name, the call is answered on the board, which refuses it (1)
abbrev pub by_actor : Option Actor → TableRows → List RosterLine → ℕ → Call → Option (List ℕ) → Routed
by_actor None t roster at call desk = as_it_is at call
by_actor (Some person) t roster at call desk = by_person person t roster at call desk

-- a call at a moment, maybe for a desk
abbrev pub asked : TableRows → List RosterLine → ℕ → Call → Option (List ℕ) → Routed
asked t roster at call desk = by_actor (actor_of t call.actor) t roster at call desk

-- ---- handovers

abbrev pub handover_of : List ℕ → Deal → Handover
handover_of actor (deal.Offer desk to) = Offer actor desk to
handover_of actor (deal.Accept desk) = Accept actor desk

abbrev pub seated_at : List ℕ → List ℕ → Routed
seated_at desk sitter = Replied (seated_text desk sitter)

-- After an accepted handover its actor sits at the desk: he offered it and still sits there, or has taken it.
abbrev pub seated : Handover → Routed
seated (Offer actor desk to) = seated_at desk actor
seated (Accept actor desk) = seated_at desk actor

-- an offer or an acceptance, which the roster may refuse
abbrev pub handed_over : TableRows → List RosterLine → Handover → Routed
handed_over t roster h = or_not_relieved (refusal_of t roster h) (seated h)

-- one test, and a second one if the first passes
abbrev pub either_refusal : Option Refusal → Option Refusal → Option Refusal
either_refusal None second = second
either_refusal (Some why) second = Some why

-- nobody has the name (1), the key is wrong (2), or the person isn't a dispatcher (3)
abbrev pub sender_refusal : Option Actor → List ℕ → Option Refusal
sender_refusal person key = either_refusal (mistaken person key) (refused_if (not (is_dispatcher person)) NotYourRole)

-- a relief line of a sender with this key
abbrev pub relieved : TableRows → List RosterLine → List ℕ → List ℕ → Deal → Routed
relieved t roster key actor made =
    or_refused (sender_refusal (actor_of t actor) key) (handed_over t roster (handover_of actor made))

abbrev pub if_fit : Option Refusal → Handover → Option Handover
if_fit None h = Some h
if_fit (Some why) h = None

-- the handover of a relief line, if its sender may make one
abbrev pub relief_in : TableRows → List ℕ → List ℕ → Deal → Option Handover
relief_in t key actor made = if_fit (sender_refusal (actor_of t actor) key) (handover_of actor made)

-- the roster after a handover, if there is one
abbrev pub after_maybe : TableRows → List RosterLine → Option Handover → List RosterLine
after_maybe t roster None = roster
after_maybe t roster (Some h) = after_one t roster h

-- ---- lines

abbrev pub routed_line : TableRows → List RosterLine → ShiftLine → Routed
routed_line t roster (Asked at call desk) = asked t roster at call desk
routed_line t roster (Relief at actor key made) = relieved t roster key actor made

abbrev pub routed_or_bad : TableRows → List RosterLine → Result ShiftLine BadCall → Routed
routed_or_bad t roster (Err why) = ToBoard (kind.Bad why)
routed_or_bad t roster (Ok line) = routed_line t roster line

abbrev pub handover_by : TableRows → ShiftLine → Option Handover
handover_by t (Asked at call desk) = None
handover_by t (Relief at actor key made) = relief_in t key actor made

abbrev pub handover_or_none : TableRows → Result ShiftLine BadCall → Option Handover
handover_or_none t (Err why) = None
handover_or_none t (Ok line) = handover_by t line

-- what a line comes to; a malformed line is answered by its first fault
unfoldable pub route : TableRows → List RosterLine → List ℕ → Routed
route t roster line = routed_or_bad t roster (shift_or_fault line)

-- the handover of a line, if it has one and its sender may make it
unfoldable pub handover_in : TableRows → List ℕ → Option Handover
handover_in t line = handover_or_none t (shift_or_fault line)

-- the roster after a line
abbrev pub roster_after : TableRows → List RosterLine → List ℕ → List RosterLine
roster_after t roster line = after_maybe t roster (handover_in t line)

-- ---- scripts

-- what a line comes to, and the roster after it
pub record Taken : Type 0 where
  pub routed : Routed
  pub roster : List RosterLine

abbrev pub taken : TableRows → List RosterLine → List ℕ → Taken
taken t roster line = record { routed = route t roster line; roster = roster_after t roster line }

-- the same for lines, each of which finds the roster that the lines before it left
abbrev pub taken_all : TableRows → List RosterLine → List (List ℕ) → List Taken
taken_all t roster [] = []
taken_all t roster (line ∷ lines) = taken t roster line ∷ taken_all t (roster_after t roster line) lines

-- the roster after lines
abbrev pub roster_after_all : TableRows → List RosterLine → List (List ℕ) → List RosterLine
roster_after_all t roster [] = roster
roster_after_all t roster (line ∷ lines) = roster_after_all t (roster_after t roster line) lines

-- the handovers of lines whose senders may make them, in order
abbrev pub handovers_in : TableRows → List (List ℕ) → List Handover
handovers_in t lines = filter_map (handover_in t) lines

-- an item that is answered on the board, and the roster at that moment
pub record Placed : Type 0 where
  pub item : Item
  pub roster : List RosterLine

-- the item as which a line is answered on the board, if it is
abbrev pub items_of : Routed → List Item
items_of (Replied text) = []
items_of (ToBoard i) = i ∷ []

abbrev pub placed_by : Routed → List RosterLine → List Placed → List Placed
placed_by (Replied text) roster rest = rest
placed_by (ToBoard i) roster rest = (record { item = i; roster = roster }) ∷ rest

-- the items among lines, in order
abbrev pub placed_in : List Taken → List Placed
placed_in [] = []
placed_in (line ∷ lines) = placed_by line.routed line.roster (placed_in lines)

abbrev pub items_in : List Taken → List Item
items_in lines = map (λ p. p.item) (placed_in lines)
