-- The text of a race, and what a race comes to.
use Rattle.std.proofs.Common.{◌≡◌, ℕ, ◌+◌, Bool, true, false, List, ◌∷◌, ◌++◌, map, drop, append_assoc, Some, ap, sym, ◌∙◌}
use Rattle.std.specs.Bool.{OnTrue}
use Rattle.std.specs.List.{list_all}
use Rattle.std.specs.Prelude.{slice_get, IfOk, Result, Ok, Err}
use Rattle.std.proofs.lemmas.List.{drop_more}
use Rattle.std.proofs.lemmas.Option.{slice_get_within, get_or_from_slice_get}
use Rattle.desk_state.specs.State.{State}
use Rattle.desk_state.specs.declared.entry.Entry.{Entry}
use Rattle.desk.specs.Keeping.{KeptAt}
use Rattle.desk.specs.Merge.{AreMerged, is_done}
use Rattle.desk.specs.Positions.{AreOneHistory}
use Rattle.desk.specs.Race.{IsRace, entries_text, entry_text, lanes_of, race_text}
use Rattle.desk.specs.Round.{items_in}
use Rattle.desk.specs.Run.{LaneShown}

-- one more entry
pub entries_next : (entries : List Entry) (i : ℕ) (e : Entry) (out more all : List ℕ) → slice_get entries i ≡ Some e → out ++ entries_text (drop i entries) ≡ all → more ≡ out ++ entry_text e
    → more ++ entries_text (drop (i + 1) entries) ≡ all
entries_next entries i e out more all at holds pushed =
    let left : drop i entries ≡ e ∷ drop (i + 1) entries = drop_more entries i e (slice_get_within entries i e at) ∙ ap (λ (x : Entry). x ∷ drop (i + 1) entries) (get_or_from_slice_get entries i e e at) in
    ap (λ (o : List ℕ). o ++ entries_text (drop (i + 1) entries)) pushed
    ∙ (append_assoc out (entry_text e) (entries_text (drop (i + 1) entries))
    ∙ (ap (λ (es : List Entry). out ++ entries_text es) (sym left) ∙ holds))

by_whole : {E : Type 0} (whole : Bool) (text : Result (List ℕ) E) (low high : KeptAt) (s t : State) (scripts : List (List ℕ)) (lanes : List LaneShown) → map items_in lanes ≡ map items_in (lanes_of scripts)
    → IfOk text (λ x. whole ≡ true) → OnTrue whole (AreMerged low high s lanes t) → OnTrue whole (list_all is_done lanes ≡ true) → OnTrue whole (AreOneHistory low.faults high.faults s lanes t)
    → IfOk text (λ x. x ≡ race_text t lanes) → IfOk text (λ x. IsRace low high s scripts t x)
by_whole whole (Err e) low high s t scripts lanes items is merged done history says = tt
by_whole true (Ok x) low high s t scripts lanes items is merged done history says = record { lanes = lanes; items = items; done = done; merged = merged; history = history; says = says }
by_whole false (Ok x) low high s t scripts lanes items is merged done history says = absurd (cc)

-- lanes of scripts that were run whole are a race of them
pub race_is : {E : Type 0} (whole : Bool) (text : Result (List ℕ) E) (low high : KeptAt) (s t : State) (scripts : List (List ℕ)) (began lanes : List LaneShown) → began ≡ lanes_of scripts
    → map items_in lanes ≡ map items_in began → IfOk text (λ x. whole ≡ true) → OnTrue whole (AreMerged low high s lanes t) → OnTrue whole (list_all is_done lanes ≡ true)
    → OnTrue whole (AreOneHistory low.faults high.faults s lanes t) → IfOk text (λ x. x ≡ race_text t lanes) → IfOk text (λ x. IsRace low high s scripts t x)
race_is whole text low high s t scripts began lanes made items is merged done history says =
    by_whole whole text low high s t scripts lanes (items ∙ ap (map items_in) made) is merged done history says
