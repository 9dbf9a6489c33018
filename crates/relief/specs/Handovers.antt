-- What handovers make of the roster, and who sits at a desk after them.
use Rattle.std.specs.Prelude.{◌≡◌, ℕ, List, [], ◌∷◌, map, Option, None, Some, unwrap_or, if◌then◌else◌}
use Rattle.std.specs.List.{filter_map, last_or}
use Rattle.std.specs.Str.{bytes_eq}
use Rattle.ops_tables.specs.Names.{has_name}
use Rattle.ops_tables.specs.Tables.{TableRows}
use Rattle.relief.specs.declared.refusals.ReliefFault.{ReliefFault}
use Rattle.relief.specs.declared.handover.Handover.{Handover}
use Rattle.relief.specs.declared.handover.Handover.TheVariants.{Offer, Accept}
use Rattle.relief.specs.declared.lines.RosterLine.{RosterLine}
use Rattle.relief.specs.Roster.{HasEachOnce, desks_in, line_of, with_line, offered_to, taken_by}
use Rattle.relief.specs.Refusals.{offer_refusal, accept_refusal}

-- ---- one handover after another

-- why the roster refuses a handover, if it does
abbrev pub refusal_of : TableRows → List RosterLine → Handover → Option ReliefFault
refusal_of t roster (Offer actor desk to) = offer_refusal t roster actor desk to
refusal_of t roster (Accept actor desk) = accept_refusal roster actor desk

-- the roster after an accepted handover
abbrev pub changed_by : List RosterLine → Handover → List RosterLine
changed_by roster (Offer actor desk to) = with_line (offered_to to) desk roster
changed_by roster (Accept actor desk) = with_line (taken_by actor) desk roster

-- the first if there is a refusal, and else the second
abbrev pub if_refused : {A : Type 0} → Option ReliefFault → A → A → A
if_refused None refused accepted = accepted
if_refused (Some fault) refused accepted = refused

-- the roster after a handover, which changes nothing if it is refused
abbrev pub after_one : TableRows → List RosterLine → Handover → List RosterLine
after_one t roster h = if_refused (refusal_of t roster h) roster (changed_by roster h)

-- the roster after handovers, one after another
abbrev pub after_all : TableRows → List RosterLine → List Handover → List RosterLine
after_all t roster [] = roster
after_all t roster (h ∷ hs) = after_all t (after_one t roster h) hs

-- those of the handovers that aren't refused
abbrev pub accepted : TableRows → List RosterLine → List Handover → List Handover
accepted t roster [] = []
accepted t roster (h ∷ hs) =
    if_refused (refusal_of t roster h) (accepted t (after_one t roster h) hs) (h ∷ accepted t (after_one t roster h) hs)

-- ---- what accepted handovers come to

-- who accepts this desk by the handover, if anybody does
abbrev pub taker : List ℕ → Handover → Option (List ℕ)
taker desk (Offer actor other to) = None
taker desk (Accept actor other) = if bytes_eq other desk then Some actor else None

-- The sitter of a desk after accepted handovers: whoever accepted it last, or its namesake.
abbrev pub sitter_after : List Handover → List ℕ → List ℕ
sitter_after made desk = unwrap_or (last_or None (filter_map (taker desk) made)) desk

-- to whom this desk is offered because of the handover, if it concerns the desk
abbrev pub offer_since : List ℕ → Handover → Option (Option (List ℕ))
offer_since desk (Offer actor other to) = if bytes_eq other desk then Some (Some to) else None
offer_since desk (Accept actor other) = if bytes_eq other desk then Some None else None

-- To whom a desk is offered after accepted handovers: the person of the last offer, unless it was accepted since.
abbrev pub offered_after : List Handover → List ℕ → Option (List ℕ)
offered_after made desk = unwrap_or (last_or None (filter_map (offer_since desk) made)) None

-- the line of a desk after accepted handovers
abbrev pub line_after : List Handover → List ℕ → RosterLine
line_after made desk = record { desk = desk; sitter = sitter_after made desk; offered = offered_after made desk }

-- The roster has these desks, in order, and no others. Each has the line to which the accepted handovers come.
pub record IsRosterAfter (desks : List (List ℕ)) (made : List Handover) (roster : List RosterLine) : Type 0 where
  pub desks_are : desks_in roster ≡ desks
  pub line_is : (desk : List ℕ) → line_of roster desk ≡ (if has_name desks desk then Some (line_after made desk) else None)
  pub lines_are : HasEachOnce desks → roster ≡ map (line_after made) desks
