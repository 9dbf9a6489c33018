-- Why offers, acceptances and calls for a desk are refused. The first failing test gives the refusal.
use Rattle.std.specs.Prelude.{◌≡◌, ℕ, Bool, true, false, not, ◌||◌, List, Option, None, Some, Result, Ok, Err}
use Rattle.std.specs.Str.{bytes_eq}
use Rattle.ops_tables.specs.Tables.{TableRows}
use Rattle.relief.specs.declared.refusals.ReliefFault.{ReliefFault}
use Rattle.relief.specs.declared.refusals.ReliefFault.TheVariants.{NotSitting, NoSuchDesk, NotOffered, BadRelief, OutOfMemory}
use Rattle.relief.specs.declared.lines.RosterLine.{RosterLine}
use Rattle.relief.specs.Roster.{has_dispatcher, line_of}

abbrev pub IsMemory : ReliefFault → Type 0
IsMemory fault = fault ≡ OutOfMemory

-- The call is refused exactly for this reason, or made if there is none. Or memory ran out.
abbrev pub Passes : {T : Type 0} → Result T ReliefFault → Option ReliefFault → Type 0
Passes (Ok value) wanted = wanted ≡ None
Passes (Err OutOfMemory) wanted = Unit {0}
Passes (Err (NotSitting sitter)) wanted = wanted ≡ Some (NotSitting sitter)
Passes (Err NoSuchDesk) wanted = wanted ≡ Some NoSuchDesk
Passes (Err (NotOffered offered)) wanted = wanted ≡ Some (NotOffered offered)
Passes (Err BadRelief) wanted = wanted ≡ Some BadRelief

-- one test, and a second one if the first passes
abbrev pub in_turn : Option ReliefFault → Option ReliefFault → Option ReliefFault
in_turn None later = later
in_turn (Some fault) later = Some fault

abbrev pub refused_if : Bool → ReliefFault → Option ReliefFault
refused_if true fault = Some fault
refused_if false fault = None

-- a test of the line of a desk, which refuses if there is no such desk (32)
abbrev pub at_line : (RosterLine → Option ReliefFault) → Option RosterLine → Option ReliefFault
at_line test None = Some NoSuchDesk
at_line test (Some line) = test line

-- another person sits at the desk (31)
abbrev pub not_sitting : List ℕ → RosterLine → Option ReliefFault
not_sitting actor line = refused_if (not (bytes_eq line.sitter actor)) (NotSitting line.sitter)

-- the desk can't go to this person: he isn't a dispatcher, or he sits there already (34)
abbrev pub bad_relief : TableRows → List ℕ → RosterLine → Option ReliefFault
bad_relief t to line = refused_if (not (has_dispatcher t to) || bytes_eq line.sitter to) BadRelief

-- it isn't offered to this person (33)
abbrev pub not_offered_to : List ℕ → Option (List ℕ) → Option ReliefFault
not_offered_to actor None = Some (NotOffered None)
not_offered_to actor (Some to) = refused_if (not (bytes_eq to actor)) (NotOffered (Some to))

-- an offer of a desk: there is such a desk, the person sits there, and it can go to the other
abbrev pub offer_refusal : TableRows → List RosterLine → List ℕ → List ℕ → List ℕ → Option ReliefFault
offer_refusal t roster actor desk to = at_line (λ line. in_turn (not_sitting actor line) (bad_relief t to line)) (line_of roster desk)

-- an acceptance of a desk: there is such a desk, and it is offered to the person
abbrev pub accept_refusal : List RosterLine → List ℕ → List ℕ → Option ReliefFault
accept_refusal roster actor desk = at_line (λ line. not_offered_to actor line.offered) (line_of roster desk)

-- a call for a desk: there is such a desk, and the person sits there
abbrev pub call_refusal : List RosterLine → List ℕ → List ℕ → Option ReliefFault
call_refusal roster actor desk = at_line (not_sitting actor) (line_of roster desk)
