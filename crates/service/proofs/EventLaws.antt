-- What lists of events contain, when one follows another.
use Rattle.std.proofs.Common.{◌≡◌, ℕ, cond, Bool, true, false, List, [], ◌∷◌, ◌++◌, take, drop, length, Option, None, refl, sym, ap, ◌∙◌, append_assoc, eq-eqb}
use Rattle.std.specs.List.{AllByRecursion}
use Rattle.desk_state.specs.Legal.{Legal, next}
use Rattle.desk_state.specs.State.{State}
use Rattle.desk_state.specs.declared.entry.Entry.{Entry}
use Rattle.turn_lock.specs.Elements.{EachBears, elements_of}
use Rattle.service.specs.Events.{FollowAnswers, LastAnswer, after_entries, after_entry, answer_in, answers_in, entered, entries_in, faults_in, faults_of, is_of, lane_of, missed, misses_in}
use Rattle.service.specs.declared.events.Event.{Event}
use Rattle.service.specs.declared.events.Event.TheVariants.{Told, Entered, Missed}
use Rattle.service.specs.declared.misses.Miss.{Miss}
use Rattle.service.specs.declared.misses.MissOf.{MissOf}

-- ---- the entries of a list

pub entries_in-append : (xs ys : List Event) → entries_in (xs ++ ys) ≡ entries_in xs ++ entries_in ys
entries_in-append [] ys = refl
entries_in-append (Told lane at ∷ xs) ys = entries_in-append xs ys
entries_in-append (Entered e ∷ xs) ys = ap (λ l. e ∷ l) (entries_in-append xs ys)
entries_in-append (Missed m ∷ xs) ys = entries_in-append xs ys

pub entries_in-entered : (es : List Entry) → entries_in (entered es) ≡ es
entries_in-entered [] = refl
entries_in-entered (e ∷ es) = ap (λ l. e ∷ l) (entries_in-entered es)

pub entries_in-missed : (ms : List Miss) → entries_in (missed ms) ≡ []
entries_in-missed [] = refl
entries_in-missed (m ∷ ms) = entries_in-missed ms

-- ---- its misses

pub misses_in-append : (xs ys : List Event) → misses_in (xs ++ ys) ≡ misses_in xs ++ misses_in ys
misses_in-append [] ys = refl
misses_in-append (Told lane at ∷ xs) ys = misses_in-append xs ys
misses_in-append (Entered e ∷ xs) ys = misses_in-append xs ys
misses_in-append (Missed m ∷ xs) ys = ap (λ l. m ∷ l) (misses_in-append xs ys)

pub misses_in-entered : (es : List Entry) → misses_in (entered es) ≡ []
misses_in-entered [] = refl
misses_in-entered (e ∷ es) = misses_in-entered es

pub misses_in-missed : (ms : List Miss) → misses_in (missed ms) ≡ ms
misses_in-missed [] = refl
misses_in-missed (m ∷ ms) = ap (λ l. m ∷ l) (misses_in-missed ms)

faults_step : (source : MissOf) (m : Miss) (ms ns : List Miss) (b : Bool) → is_of source m.source ≡ b → faults_of source (ms ++ ns) ≡ faults_of source ms ++ faults_of source ns
    → faults_of source ((m ∷ ms) ++ ns) ≡ faults_of source (m ∷ ms) ++ faults_of source ns
faults_step source m ms ns true is rest = rw is (ap (λ l. m.faults ∷ l) rest)
faults_step source m ms ns false is rest = rw is rest

faults_of-append : (source : MissOf) (ms ns : List Miss) → faults_of source (ms ++ ns) ≡ faults_of source ms ++ faults_of source ns
faults_of-append source [] ns = refl
faults_of-append source (m ∷ ms) ns = faults_step source m ms ns (is_of source m.source) refl (faults_of-append source ms ns)

pub faults_in-append : (source : MissOf) (xs ys : List Event) → faults_in source (xs ++ ys) ≡ faults_in source xs ++ faults_in source ys
faults_in-append source xs ys = ap (faults_of source) (misses_in-append xs ys) ∙ faults_of-append source (misses_in xs) (misses_in ys)

-- ---- its answers

pub answers_in-append : (xs ys : List Event) → answers_in (xs ++ ys) ≡ answers_in xs ++ answers_in ys
answers_in-append [] ys = refl
answers_in-append (x ∷ xs) ys = ap (λ l. answer_in x ++ l) (answers_in-append xs ys) ∙ sym (append_assoc (answer_in x) (answers_in xs) (answers_in ys))

pub answers_in-entered : (es : List Entry) → answers_in (entered es) ≡ []
answers_in-entered [] = refl
answers_in-entered (e ∷ es) = answers_in-entered es

-- what follows answers of its own comes after any list
pub follow_on : (last : Option LastAnswer) (xs ys : List Event) → FollowAnswers last xs → ((last : Option LastAnswer) → FollowAnswers last ys) → FollowAnswers last (xs ++ ys)
follow_on last [] ys one two = two last
follow_on last (Told lane at ∷ xs) ys one two = follow_on _ xs ys one two
follow_on last (Entered e ∷ xs) ys one two = (one.0, follow_on (after_entry last e.what) xs ys one.1 two)
follow_on last (Missed m ∷ xs) ys one two = (one.0, follow_on None xs ys one.1 two)

-- ---- what holds of all

pub all_on : (P : Event → Type 0) (xs ys : List Event) → AllByRecursion P xs → AllByRecursion P ys → AllByRecursion P (xs ++ ys)
all_on P [] ys one two = two
all_on P (x ∷ xs) ys one two = (one.0, all_on P xs ys one.1 two)

-- ---- states

-- a legal history leads to its last state
pub after_entries-legal : (s : State) (es : List Entry) (t : State) → Legal s es t → after_entries s es ≡ t
after_entries-legal s [] t legal = legal
after_entries-legal s (e ∷ es) t legal = after_entries-legal (next s e.lane e.what) es t legal.1

-- ---- lanes

pub entered_bear : (lane : ℕ) (es : List Entry) → AllByRecursion (λ e. e.lane ≡ lane) es → EachBears lane_of lane (entered es)
entered_bear lane [] all = tt
entered_bear lane (e ∷ es) all = (all.0, entered_bear lane es all.1)

pub bear_both : (lane : ℕ) (xs ys : List Event) → EachBears lane_of lane xs → EachBears lane_of lane ys → EachBears lane_of lane (xs ++ ys)
bear_both lane [] ys one two = two
bear_both lane (x ∷ xs) ys one two = (one.0, bear_both lane xs ys one.1 two)

-- what bears the lane is all of the lane
pub elements_of-each : (lane : ℕ) (xs : List Event) → EachBears lane_of lane xs → elements_of lane_of lane xs ≡ xs
elements_of-each lane [] each = refl
elements_of-each lane (x ∷ xs) each =
    ap (λ t. cond t (x ∷ elements_of lane_of lane xs) (elements_of lane_of lane xs)) (eq-eqb (lane_of x) lane each.0) ∙ ap (λ l. x ∷ l) (elements_of-each lane xs each.1)

-- ---- parts of a list

pub drop-seam : {A : Type 0} (xs ys : List A) → drop (length xs) (xs ++ ys) ≡ ys
drop-seam [] ys = refl
drop-seam (x ∷ xs) ys = drop-seam xs ys

pub take-seam : {A : Type 0} (xs ys : List A) → take (length xs) (xs ++ ys) ≡ xs
take-seam [] ys = refl
take-seam (x ∷ xs) ys = ap (λ l. x ∷ l) (take-seam xs ys)
