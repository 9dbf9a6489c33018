-- Whether rows can be kept, as the events go on.
use Rattle.std.proofs.Common.{◌≡◌, ◌≢◌, ◌||◌, ℕ, nat_lt, Bool, true, false, List, [], ◌∷◌, ◌++◌, length, refl, ap, sym, arith, ◌∙◌}
use Rattle.std.proofs.lemmas.Bool.{lt-ltb}
use Rattle.desk_state.specs.declared.entry.Entry.{Entry}
use Rattle.service.specs.Events.{entered, entries_in, keeps, keeps_after, keeps_from, keeps_with}
use Rattle.service.specs.declared.events.Event.{Event}
use Rattle.service.specs.declared.events.Event.TheVariants.{Told, Entered, Missed}
use Rattle.service.specs.declared.misses.Miss.{Miss}
use Rattle.service.specs.declared.misses.MissOf.{MissOf}
use Rattle.service.specs.declared.misses.MissOf.TheVariants as of

keeps_on : (kept : Bool) (xs ys : List Event) → keeps_from kept (xs ++ ys) ≡ keeps_from (keeps_from kept xs) ys
keeps_on kept [] ys = refl
keeps_on kept (x ∷ xs) ys = keeps_on (keeps_with kept x) xs ys

pub keeps_told : (list : List Event) (lane at : ℕ) → keeps (list ++ Told lane at ∷ []) ≡ keeps list
keeps_told list lane at = keeps_on true list (Told lane at ∷ [])

pub keeps_missed : (list : List Event) (m : Miss) → keeps (list ++ Missed m ∷ []) ≡ keeps_after (keeps list) m.source
keeps_missed list m = keeps_on true list (Missed m ∷ [])

keeps_all : (es : List Entry) → keeps_from true (entered es) ≡ true
keeps_all [] = refl
keeps_all (e ∷ es) = keeps_all es

keeps_some : (kept : Bool) (es : List Entry) → keeps_from kept (entered es) ≡ (kept || nat_lt 0 (length es))
keeps_some true [] = refl
keeps_some false [] = refl
keeps_some true (e ∷ es) = keeps_all es
keeps_some false (e ∷ es) = keeps_all es ∙ sym (lt-ltb 0 (length (e ∷ es)) (omega arith))

pub keeps_entered : (list : List Event) (es : List Entry) → keeps (list ++ entered es) ≡ (keeps list || nat_lt 0 (length es))
keeps_entered list es = keeps_on true list (entered es) ∙ keeps_some (keeps list) es

-- ---- when rows can't be kept

still_unkept : (source : MissOf) → keeps_after false source ≡ false
still_unkept of.Keeper = refl
still_unkept of.Clock = refl

entry_later : (later : List Event) → keeps_from false later ≡ true → entries_in later ≢ []
entry_later [] is = absurd (cc is)
entry_later (Told lane at ∷ later) is = entry_later later is
entry_later (Entered e ∷ later) is = λ none. absurd (cc)
entry_later (Missed m ∷ later) is = entry_later later (ap (λ kept. keeps_from kept later) (sym (still_unkept m.source)) ∙ is)

after_miss : (kept : Bool) (source : MissOf) → source ≡ of.Keeper → keeps_after kept source ≡ false
after_miss kept of.Keeper is = refl
after_miss kept of.Clock is = absurd (cc is)

pub kept_again : (front later : List Event) (m : Miss) → m.source ≡ of.Keeper → keeps (front ++ Missed m ∷ later) ≡ true → entries_in later ≢ []
kept_again front later m is again =
    entry_later later (ap (λ kept. keeps_from kept later) (sym (after_miss (keeps front) m.source is)) ∙ (sym (keeps_on true front (Missed m ∷ later)) ∙ again))
