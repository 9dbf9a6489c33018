-- Bells of the persons who sit at the desks, and what they have received.
use Rattle.std.specs.Prelude.{List, [], ◌∷◌, filter, map, ℕ}
use Rattle.alerts.specs.Ringing.{AreRungFor, Hung, concerns, fresh_from}
use Rattle.alerts.specs.Seen.{BellSeen}
use Rattle.alerts.specs.declared.notices.Notice.{Notice}
use Rattle.relief.specs.declared.lines.RosterLine.{RosterLine}
use Rattle.relief.specs.Roster.{sitter_at}

-- bells that wait for their first notices, or those that were hung if none waits
abbrev pub bells_in : List Hung → List BellSeen → List Hung
bells_in hung [] = hung
bells_in hung (bell ∷ waiting) = fresh_from 0 (bell ∷ waiting)

-- a notice, and the roster when it was made
pub record Told : Type 0 where
  pub roster : List RosterLine
  pub notice : Notice

abbrev pub told_under : List RosterLine → List Notice → List Told
told_under roster notices = map (λ n. record { roster = roster; notice = n }) notices

-- those notices at whose desk this person sat when they were made; all of them for `*`
abbrev pub due_then : List Told → List ℕ → List Notice
due_then told person = map (λ t. t.notice) (filter (λ t. concerns (sitter_at t.roster) person t.notice) told)

-- Each bell that stays has received exactly the notices of the desks at which its person sat when they were made.
abbrev pub HaveHeard : List Told → List Hung → List Hung → Type 0
HaveHeard told = AreRungFor (due_then told)
