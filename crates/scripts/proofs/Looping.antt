-- The lines of a script, one after another.
use Rattle.std.proofs.Common.{◌≡◌, ℕ, ◌+◌, ◌<◌, ◌≤◌, List, [], ◌∷◌, ◌++◌, drop, get_or, length, refl, sym, ap, ◌∙◌, subst}
use Rattle.std.specs.Prelude.{codes}
use Rattle.std.proofs.lemmas.List.{drop_all, drop_more}
use Rattle.alerts.specs.Ringing.{Hung}
use Rattle.desk.proofs.SeenLaws.{desk_on, desk_stays}
use Rattle.desk.specs.InPart.{AreGivenInPart}
use Rattle.desk.specs.Keeping.{kept_at}
use Rattle.desk.specs.Seen.{DeskSeen, DeskGoesOn}
use Rattle.desk_state.specs.Sound.{IsBoard}
use Rattle.desk_state.specs.State.{State}
use Rattle.ops_tables.specs.Tables.{TableRows}
use Rattle.relief.specs.Roster.{desks_in, desks_of}
use Rattle.relief.specs.declared.lines.RosterLine.{RosterLine}
use Rattle.scripts.proofs.SoFar.{AreSoFar, line_answered, line_stopped, lines_replied, none_answered, stopped_after}
use Rattle.scripts.specs.Routes.{items_in, items_of, roster_after, roster_after_all, route, taken_all}
use Rattle.scripts.specs.ShiftLines.{AreReplied, HaveHeardSome, IsAnsweredAs}

-- the first `i` lines are answered
pub record AreAnsweredTo (i : ℕ) (lines : List (List ℕ)) (old now : DeskSeen) (began bells : List Hung) (first roster : List RosterLine) (text : List ℕ) : Type 0 where
  pub far : AreSoFar (kept_at old.keeper) (kept_at now.keeper) old.state (taken_all old.state.tables first lines) began now.state (taken_all old.state.tables roster (drop i lines)) bells text
  pub rest : roster_after_all old.state.tables roster (drop i lines) ≡ roster_after_all old.state.tables first lines
  pub desks : desks_in roster ≡ desks_of old.state.tables
  pub tables : now.state.tables ≡ old.state.tables
  pub on : DeskGoesOn old now

pub begins : (lines : List (List ℕ)) (desk : DeskSeen) (bells : List Hung) (roster : List RosterLine) (text : List ℕ) → desks_in roster ≡ desks_of desk.state.tables → text ≡ []
    → AreAnsweredTo 0 lines desk desk bells bells roster roster text
begins lines desk bells roster text desks none = record {
  far = none_answered (kept_at desk.keeper) desk.state (taken_all desk.state.tables roster lines) bells text none;
  rest = refl;
  desks = desks;
  tables = refl;
  on = desk_stays desk;
}

-- ---- one line more

line_next : (lines : List (List ℕ)) (i : ℕ) (line : List ℕ) → i < length lines → line ≡ get_or lines i line → drop i lines ≡ line ∷ drop (i + 1) lines
line_next lines i line within is = drop_more lines i line within ∙ ap (λ (x : List ℕ). x ∷ drop (i + 1) lines) (sym is)

same_tables : (old mid new : DeskSeen) → DeskGoesOn old mid → DeskGoesOn mid new → IsBoard old.opening old.state → IsBoard new.opening new.state → new.state.tables ≡ old.state.tables
same_tables old mid new first next one two =
    two.tables ∙ ap (λ (s : State). s.tables) next.opening ∙ ap (λ (s : State). s.tables) first.opening ∙ sym one.tables

pub goes_on : (i : ℕ) (line : List ℕ) (lines : List (List ℕ)) (old mid new : DeskSeen) (began bells later : List Hung) (first roster after : List RosterLine) (text reply more : List ℕ) → i < length lines
    → line ≡ get_or lines i line → AreAnsweredTo i lines old mid began bells first roster text
    → IsAnsweredAs (route mid.state.tables roster line) (roster_after mid.state.tables roster line) mid new bells later reply → after ≡ roster_after mid.state.tables roster line
    → desks_in after ≡ desks_in roster → DeskGoesOn mid new → IsBoard old.opening old.state → IsBoard new.opening new.state → more ≡ text ++ (reply ++ codes "\n")
    → AreAnsweredTo (i + 1) lines old new began later first after more
goes_on i line lines old mid new began bells later first roster after text reply more within is to answered changed desks on one two pushed =
    let t : TableRows = old.state.tables in
    let next : List RosterLine = roster_after t roster line in
    let left = line_next lines i line within is in
    let its : IsAnsweredAs (route t roster line) next mid new bells later reply =
    subst (λ (u : TableRows). IsAnsweredAs (route u roster line) (roster_after u roster line) mid new bells later reply) to.tables answered in
    let same : after ≡ next = changed ∙ ap (λ (u : TableRows). roster_after u roster line) to.tables in
    let far : AreSoFar (kept_at old.keeper) (kept_at new.keeper) old.state (taken_all t first lines) began new.state (taken_all t next (drop (i + 1) lines)) later more =
    line_answered (kept_at old.keeper) old.state (taken_all t first lines) began mid new bells later text reply more (route t roster line) next
    (taken_all t roster (drop i lines)) (taken_all t next (drop (i + 1) lines)) (ap (taken_all t roster) left) to.far its pushed in
    record {
      far = subst (λ (r : List RosterLine). AreSoFar (kept_at old.keeper) (kept_at new.keeper) old.state (taken_all t first lines) began new.state (taken_all t r (drop (i + 1) lines)) later more) (sym same) far;
      rest =
          ap (λ (r : List RosterLine). roster_after_all t r (drop (i + 1) lines)) same
          ∙ ap (roster_after_all t roster) (sym left)
          ∙ to.rest;
      desks = desks ∙ to.desks;
      tables = same_tables old mid new to.on on one two;
      on = desk_on old mid new to.on on;
    }

-- ---- where memory runs out

-- at the next line
pub stops_at : (i : ℕ) (line : List ℕ) (lines : List (List ℕ)) (old mid new : DeskSeen) (began bells : List Hung) (first roster : List RosterLine) (text : List ℕ) → i < length lines → line ≡ get_or lines i line
    → AreAnsweredTo i lines old mid began bells first roster text
    → AreGivenInPart 1 (kept_at mid.keeper) (kept_at new.keeper) mid.state (items_of (route mid.state.tables roster line)) new.state
    → AreGivenInPart 1 (kept_at old.keeper) (kept_at new.keeper) old.state (items_in (taken_all old.state.tables first lines)) new.state
stops_at i line lines old mid new began bells first roster text within is to part =
    let t : TableRows = old.state.tables in
    let next : List RosterLine = roster_after t roster line in
    line_stopped (kept_at old.keeper) (kept_at mid.keeper) (kept_at new.keeper) old.state (taken_all t first lines) began mid.state new.state bells text (route t roster line) next
    (taken_all t roster (drop i lines)) (taken_all t next (drop (i + 1) lines)) (ap (taken_all t roster) (line_next lines i line within is)) to.far
    (subst (λ (u : TableRows). AreGivenInPart 1 (kept_at mid.keeper) (kept_at new.keeper) mid.state (items_of (route u roster line)) new.state) to.tables part)

-- between two lines
pub stops : (i : ℕ) (lines : List (List ℕ)) (old now : DeskSeen) (began bells : List Hung) (first roster : List RosterLine) (text : List ℕ) → AreAnsweredTo i lines old now began bells first roster text
    → AreGivenInPart 1 (kept_at old.keeper) (kept_at now.keeper) old.state (items_in (taken_all old.state.tables first lines)) now.state
stops i lines old now began bells first roster text to =
    stopped_after (kept_at old.keeper) (kept_at now.keeper) old.state (taken_all old.state.tables first lines) began now.state (taken_all old.state.tables roster (drop i lines)) bells text to.far

-- what the bells have received of the lines that are answered
pub heard_so_far : (i : ℕ) (lines : List (List ℕ)) (old now : DeskSeen) (began bells : List Hung) (first roster : List RosterLine) (text : List ℕ) → AreAnsweredTo i lines old now began bells first roster text → HaveHeardSome began bells
heard_so_far i lines old now began bells first roster text to = (to.far.told, to.far.heard)

-- ---- after the last line

pub ends : (i : ℕ) (lines : List (List ℕ)) (old now : DeskSeen) (began bells : List Hung) (first roster : List RosterLine) (text : List ℕ) → length lines ≤ i
    → AreAnsweredTo i lines old now began bells first roster text
    → AreReplied (kept_at old.keeper) (kept_at now.keeper) old.state (taken_all old.state.tables first lines) now.state began bells text
ends i lines old now began bells first roster text over to =
    lines_replied (kept_at old.keeper) (kept_at now.keeper) old.state (taken_all old.state.tables first lines) began now.state (taken_all old.state.tables roster (drop i lines)) bells text
    (ap (taken_all old.state.tables roster) (drop_all i lines over)) to.far

pub last_is : (i : ℕ) (lines : List (List ℕ)) (old now : DeskSeen) (began bells : List Hung) (first roster : List RosterLine) (text : List ℕ) → length lines ≤ i
    → AreAnsweredTo i lines old now began bells first roster text → roster ≡ roster_after_all old.state.tables first lines
last_is i lines old now began bells first roster text over to = ap (roster_after_all old.state.tables roster) (sym (drop_all i lines over)) ∙ to.rest
