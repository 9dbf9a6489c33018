-- What bells have received under one roster after another.
use Rattle.std.proofs.Common.{◌≡◌, refl, sym, ap, ◌∙◌, ℕ, ◌+◌, Bool, true, false, cond, ◌==◌, List, [], ◌∷◌, ◌++◌, length, map, filter, codes}
use Rattle.std.proofs.lemmas.List.Elements.{filter-append}
use Rattle.alerts.proofs.RungLaws.{are_rung_none, are_rung_same, are_rung_then}
use Rattle.alerts.specs.Ringing.{AreRungFor, Hung, concerns, due, dropped, fresh_from, staying}
use Rattle.alerts.specs.Seen.{BellSeen}
use Rattle.alerts.specs.declared.notices.Notice.{Notice}
use Rattle.relief.specs.declared.lines.RosterLine.{RosterLine}
use Rattle.relief.specs.Roster.{sitter_at}
use Rattle.relief.specs.Seated.{HaveHeard, Told, bells_in, due_then, told_under}

-- ---- bells that wait

all_stay : (place : ℕ) (bells : List BellSeen) → staying (fresh_from place bells) ≡ bells
all_stay place [] = refl
all_stay place (bell ∷ bells) = ap (λ more. bell ∷ more) (all_stay (place + 1) bells)

none_dropped : (place : ℕ) (bells : List BellSeen) → dropped (fresh_from place bells) ≡ []
none_dropped place [] = refl
none_dropped place (bell ∷ bells) = none_dropped (place + 1) bells

module _ {B : Type 0} (seen : B → BellSeen) (hung : List Hung) where
  pub waiting_stay : (bells : List B) (shown : List Hung) → bells_in hung (map seen bells) ≡ shown → (length bells == 0) ≡ false → map seen bells ≡ staying shown
  waiting_stay [] shown is some = absurd (cc)
  waiting_stay (bell ∷ bells) shown is some = sym (all_stay 0 (map seen (bell ∷ bells))) ∙ ap staying is

  pub waiting_kept : (bells : List B) (shown : List Hung) → bells_in hung (map seen bells) ≡ shown → (length bells == 0) ≡ false → [] ≡ dropped shown
  waiting_kept [] shown is some = absurd (cc)
  waiting_kept (bell ∷ bells) shown is some = sym (none_dropped 0 (map seen (bell ∷ bells))) ∙ ap dropped is

-- ---- notices under rosters

-- before the first notice
pub heard_none : (bells : List Hung) → HaveHeard [] bells bells
heard_none bells = are_rung_none bells

pub due_all : (roster : List RosterLine) (notices : List Notice) → due (sitter_at roster) notices (codes "*") ≡ notices
due_all roster [] = refl
due_all roster (n ∷ notices) = ap (λ more. n ∷ more) (due_all roster notices)

map_on : {A B : Type 0} (f : A → B) (xs ys : List A) → map f (xs ++ ys) ≡ map f xs ++ map f ys
map_on f [] ys = refl
map_on f (x ∷ xs) ys = ap (λ more. f x ∷ more) (map_on f xs ys)

under_by : (roster : List RosterLine) (n : Notice) (notices : List Notice) (person : List ℕ) (test : Bool)
    → due (sitter_at roster) notices person ≡ due_then (told_under roster notices) person
    → cond test (n ∷ due (sitter_at roster) notices person) (due (sitter_at roster) notices person)
    ≡ map (λ t. t.notice) (cond test (record { roster = roster; notice = n } ∷ filter (λ t. concerns (sitter_at t.roster) person t.notice) (told_under roster notices))
    (filter (λ t. concerns (sitter_at t.roster) person t.notice) (told_under roster notices)))
under_by roster n notices person true rest = ap (λ more. n ∷ more) rest
under_by roster n notices person false rest = rest

under : (roster : List RosterLine) (notices : List Notice) (person : List ℕ) → due (sitter_at roster) notices person ≡ due_then (told_under roster notices) person
under roster [] person = refl
under roster (n ∷ notices) person = under_by roster n notices person (concerns (sitter_at roster) person n) (under roster notices person)

then_on : (told more : List Told) (person : List ℕ) → due_then told person ++ due_then more person ≡ due_then (told ++ more) person
then_on told more person =
    sym (ap (map (λ t. t.notice)) (filter-append (λ (t : Told). concerns (sitter_at t.roster) person t.notice) told more)
    ∙ map_on (λ t. t.notice) (filter (λ t. concerns (sitter_at t.roster) person t.notice) told)
    (filter (λ t. concerns (sitter_at t.roster) person t.notice) more))

pub heard_more : (told : List Told) (roster : List RosterLine) (notices : List Notice) (bells old new : List Hung) → HaveHeard told bells old
    → AreRungFor (due (sitter_at roster) notices) old new → HaveHeard (told ++ told_under roster notices) bells new
heard_more told roster notices bells old new heard rung =
    are_rung_same (λ person. due_then told person ++ due (sitter_at roster) notices person) (due_then (told ++ told_under roster notices)) bells new
    (λ person. ap (λ more. due_then told person ++ more) (under roster notices person) ∙ then_on told (told_under roster notices) person)
    (are_rung_then (due_then told) (due (sitter_at roster) notices) bells old new heard rung)
