-- Laws on the parts of a forecast.
use Rattle.std.proofs.Common.{◌≡◌, ℕ, ◌+◌, false, List, [], ◌∷◌, ◌++◌, map, Option, None, Some, Result, Ok, Err, refl, ap, sym, append_assoc}
use Rattle.weather_reports.specs.declared.forecast.Part.{Part}
use Rattle.weather_reports.specs.declared.change.Change.{Change}
use Rattle.weather_reports.specs.Words.{is_remarks, change_after}
use Rattle.weather_reports.specs.Parts.{◌>>=◌, Turn, turns, noted, all_or_fault, part_at, part_of_turn, parts_of, onto, and_change}

onto_push : {A E : Type 0} (xs : List A) (x : A) (r : Result (List A) E) → onto xs (r >>= λ ys. Ok (x ∷ ys)) ≡ onto (xs ++ x ∷ []) r
onto_push xs x (Ok ys) = ap Ok (sym (append_assoc xs (x ∷ []) ys))
onto_push xs x (Err e) = refl

-- one more value, or the fault in its place
onto_first : {A E : Type 0} (xs : List A) (r : Result A E) (rs : List (Result A E))
    → onto xs (all_or_fault (r ∷ rs)) ≡ (r >>= λ x. Ok (xs ++ x ∷ [])) >>= λ all. onto all (all_or_fault rs)
onto_first xs (Ok x) rs = onto_push xs x (all_or_fault rs)
onto_first xs (Err e) rs = refl

change_first : (parts : List Part) (change : Option Change) (n : ℕ) (gs : List (List ℕ)) (later : List Turn) (first_day until : ℕ)
    → onto parts (all_or_fault (map (part_of_turn first_day until) (noted change n gs later)))
    ≡ and_change parts change n gs first_day until >>= λ all. onto all (all_or_fault (map (part_of_turn first_day until) later))
change_first parts None n gs later first_day until = refl
change_first parts (Some change) n gs later first_day until =
    onto_first parts (part_at change n gs first_day until) (map (part_of_turn first_day until) later)

-- one more group that isn't RMK is read
pub parts_step : (parts : List Part) (before g : List ℕ) (n : ℕ) (gs : List (List ℕ)) (first_day until : ℕ)
    → is_remarks g ≡ false
    → onto parts (parts_of before n (g ∷ gs) first_day until)
    ≡ and_change parts (change_after before g) n gs first_day until >>= λ all. onto all (parts_of g (n + 1) gs first_day until)
parts_step parts before g n gs first_day until other =
    rw other (change_first parts (change_after before g) n gs (turns g (n + 1) gs) first_day until)
