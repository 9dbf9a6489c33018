-- Each tick of a list that follows the clock's answers takes an answer of its own.
use Rattle.std.proofs.Common.{◌≡◌, ℕ, cond, List, [], ◌∷◌, ◌++◌, Option, None, Some, sym, ap, ◌∙◌, append_assoc}
use Rattle.desk_state.specs.declared.entry.What.{What}
use Rattle.desk_state.specs.declared.entry.What.TheVariants as what
use Rattle.service.specs.Events.{FollowAnswers, LastAnswer, MayFollow, after_entry, answer_in, answers_in, entries_in, with_entry}
use Rattle.service.specs.Shared.{AreTakenFrom, tick_in, ticks_in}
use Rattle.service.specs.declared.events.Event.{Event}
use Rattle.service.specs.declared.events.Event.TheVariants.{Told, Entered, Missed}

taken_later : (front answers : List (Option ℕ)) (moments : List ℕ) → AreTakenFrom answers moments → AreTakenFrom (front ++ answers) moments
taken_later front answers [] taken = tt
taken_later front answers (at ∷ moments) taken =
    (front ++ taken.0, taken.1, ap (λ l. front ++ l) taken.2 ∙ sym (append_assoc front taken.0 (Some at ∷ taken.1)), taken.3)

-- the last answer, while no tick has taken it
abbrev pub free : Option LastAnswer → List (Option ℕ)
free None = []
free (Some a) = cond a.ticked [] (Some a.at ∷ [])

-- an entry takes the last answer, or none
entry_takes : (a : LastAnswer) (w : What) (answers : List (Option ℕ)) (moments : List ℕ) → MayFollow a w → AreTakenFrom (free (Some (with_entry a w)) ++ answers) moments
    → AreTakenFrom (free (Some a) ++ answers) (tick_in w ++ moments)
entry_takes a (what.Tick to) answers moments may taken =
    let is : free (Some a) ≡ Some to ∷ [] = (λ k. cond (may.1 k) [] (Some (sym may.0 k) ∷ [])) in ([], answers, ap (λ l. l ++ answers) is, taken)
entry_takes a (what.Asked call reply) answers moments may taken = taken_later (free (Some a)) answers moments taken

pub ticks_taken : (last : Option LastAnswer) (list : List Event) → FollowAnswers last list → AreTakenFrom (free last ++ answers_in list) (ticks_in (entries_in list))
ticks_taken last [] follow = tt
ticks_taken last (Told lane at ∷ list) follow = taken_later (free last) (Some at ∷ answers_in list) (ticks_in (entries_in list)) (ticks_taken _ list follow)
ticks_taken None (Entered e ∷ list) follow = absurd follow.0
ticks_taken (Some a) (Entered e ∷ list) follow =
    entry_takes a e.what (answers_in list) (ticks_in (entries_in list)) follow.0.1 (ticks_taken (after_entry (Some a) e.what) list follow.1)
ticks_taken last (Missed m ∷ list) follow =
    taken_later (free last) (answer_in (Missed m) ++ answers_in list) (ticks_in (entries_in list))
    (taken_later (answer_in (Missed m)) (answers_in list) (ticks_in (entries_in list)) (ticks_taken None list follow.1))
