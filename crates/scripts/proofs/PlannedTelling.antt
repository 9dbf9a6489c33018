-- Lines that are answered one after another, and the text of their outcomes.
use Rattle.std.proofs.Common.{◌≡◌, ℕ, ◌+◌, ◌<◌, ◌≤◌, List, [], ◌∷◌, ◌++◌, drop, get_or, length, map, append-nil, append_assoc, Ok, Err, refl, ap, sym, ◌∙◌, subst, arith, inl}
use Rattle.std.proofs.lemmas.List.{drop_all, drop_more}
use Rattle.std.specs.List.{AllByRecursion, concat}
use Rattle.desk_io.proofs.Each.{each_push}
use Rattle.desk.proofs.AskedLaws.{later_refl}
use Rattle.desk.proofs.Choices.{KeptBy, counted_on, quiet_first, rise_lower, rise_none, rise_within}
use Rattle.desk.specs.Keeping.{Choice, Counted, KeptAt, KeptLater, no_choice, numbers_of}
use Rattle.desk_json.specs.PlannedLines.{planned_or_fault}
use Rattle.desk_state.specs.State.{State}
use Rattle.desk_state.specs.Texts.{closing}
use Rattle.redispatch.specs.declared.planned.Filed.{Filed}
use Rattle.scripts.specs.PlannedAnswers.{IsLineAnswered}
use Rattle.scripts.specs.PlannedRuns.{IsPlannedInPartOf, IsPlannedRunOf, LineGiven, MayHaveBegunLine, PlannedItem, planned_items, after_lines, asked_line, asked_lines, filed_by, line_with, lines_text, lines_with, outcome_text}
use Rattle.scripts.specs.PlannedShown.{IsLineFormed}
use Rattle.scripts.specs.declared.planned_said.LineOutcome.{LineOutcome}

-- The text of the outcomes of the first lines, and their commits. Whatever lines and choices follow, they go on as those
-- of the whole list.
pub record AreToldSoFar (before after : KeptAt) (s : State) (items : List PlannedItem) (t : State) (planned : List Filed) (left : List PlannedItem) (text : List ℕ) : Type 0 where
  pub front : List PlannedItem
  pub choices : List Choice
  pub whole : items ≡ front ++ left
  pub counted : Counted before.faults choices after.faults
  pub stored : (next : List PlannedItem) (later : List Choice) → after.stored ++ asked_lines t planned next later ≡ before.stored ++ asked_lines s [] (front ++ next) (choices ++ later)
  pub formed : AllByRecursion IsLineFormed front
  pub says : (next : List PlannedItem) (later : List Choice) → text ++ lines_text (lines_with t planned next later) ≡ lines_text (lines_with s [] (front ++ next) (choices ++ later))
  pub state : (next : List PlannedItem) (later : List Choice) → after_lines t planned next later ≡ after_lines s [] (front ++ next) (choices ++ later)

-- before the first line
pub none_told : (before : KeptAt) (s : State) (items : List PlannedItem) (planned : List Filed) (text : List ℕ) → planned ≡ [] → text ≡ [] → AreToldSoFar before before s items s planned items text
none_told before s items planned text unfiled none = record {
  front = [];
  choices = [];
  whole = refl;
  counted = omega arith;
  stored = λ next later. ap (λ (fs : List Filed). before.stored ++ asked_lines s fs next later) unfiled;
  formed = tt;
  says = λ next later. ap (λ ts. ts ++ lines_text (lines_with s planned next later)) none ∙ ap (λ (fs : List Filed). lines_text (lines_with s fs next later)) unfiled;
  state = λ next later. ap (λ (fs : List Filed). after_lines s fs next later) unfiled;
}

module _ (before middle after : KeptAt) (s : State) (items : List PlannedItem) (t : State) (planned : List Filed) (rest : List PlannedItem) (i : PlannedItem) (text : List ℕ) (c : Choice)
    (told : AreToldSoFar before middle s items t planned (i ∷ rest) text) (kept : KeptBy middle after c (asked_line c t planned i)) (formed : IsLineFormed i) where
  abbrev gave : LineGiven
  gave = line_with c t planned i

  abbrev filed : List Filed
  filed = filed_by i gave.outcome.said planned

  one_more : AreToldSoFar before after s items gave.state filed rest (text ++ outcome_text gave.outcome)
  one_more = record {
    front = told.front ++ i ∷ [];
    choices = told.choices ++ c ∷ [];
    whole = told.whole ∙ sym (append_assoc told.front (i ∷ []) rest);
    counted = counted_on before.faults told.choices (c ∷ []) middle.faults after.faults told.counted kept.counted;
    stored = λ next later.
        ap (λ bs. bs ++ asked_lines gave.state filed next later) kept.stored
        ∙ append_assoc middle.stored (asked_line c t planned i) (asked_lines gave.state filed next later)
        ∙ told.stored (i ∷ next) (c ∷ later)
        ∙ ap (λ is. before.stored ++ asked_lines s [] is (told.choices ++ c ∷ later)) (sym (append_assoc told.front (i ∷ []) next))
        ∙ ap (λ cs. before.stored ++ asked_lines s [] ((told.front ++ i ∷ []) ++ next) cs) (sym (append_assoc told.choices (c ∷ []) later));
    formed = each_push IsLineFormed told.front i told.formed formed;
    says = λ next later.
        append_assoc text (outcome_text gave.outcome) (lines_text (lines_with gave.state filed next later))
        ∙ told.says (i ∷ next) (c ∷ later)
        ∙ ap (λ is. lines_text (lines_with s [] is (told.choices ++ c ∷ later))) (sym (append_assoc told.front (i ∷ []) next))
        ∙ ap (λ cs. lines_text (lines_with s [] ((told.front ++ i ∷ []) ++ next) cs)) (sym (append_assoc told.choices (c ∷ []) later));
    state = λ next later.
        told.state (i ∷ next) (c ∷ later)
        ∙ ap (λ is. after_lines s [] is (told.choices ++ c ∷ later)) (sym (append_assoc told.front (i ∷ []) next))
        ∙ ap (λ cs. after_lines s [] ((told.front ++ i ∷ []) ++ next) cs) (sym (append_assoc told.choices (c ∷ []) later));
  }

  as_told : (u : State) (new : List Filed) (more : List ℕ) → u ≡ gave.state → new ≡ filed → more ≡ text ++ outcome_text gave.outcome → AreToldSoFar before after s items u new rest more
  as_told u new more state files says =
      subst (λ (ts : List ℕ). AreToldSoFar before after s items u new rest ts) (sym says)
      (subst (λ (fs : List Filed). AreToldSoFar before after s items u fs rest (text ++ outcome_text gave.outcome)) (sym files)
      (subst (λ (v : State). AreToldSoFar before after s items v filed rest (text ++ outcome_text gave.outcome)) (sym state) one_more))

-- the next line is answered and told
pub told_next : (before middle after : KeptAt) (s : State) (items : List PlannedItem) (t u : State) (planned new : List Filed) (left rest : List PlannedItem) (i : PlannedItem) (text more : List ℕ) (o : LineOutcome)
    → left ≡ i ∷ rest → AreToldSoFar before middle s items t planned left text → IsLineAnswered middle after t planned i u new o → IsLineFormed i → more ≡ text ++ outcome_text o
    → AreToldSoFar before after s items u new rest more
told_next before middle after s items t u planned new left rest i text more o is told answered formed pushed =
    as_told before middle after s items t planned rest i text answered.choice (subst (λ is. AreToldSoFar before middle s items t planned is text) is told)
    (record { counted = answered.counted; stored = answered.stored }) formed u new more
    answered.state_is (answered.filed_is ∙ ap (λ (x : LineOutcome). filed_by i x.said planned) answered.outcome_is) (pushed ∙ ap (λ (x : LineOutcome). text ++ outcome_text x) answered.outcome_is)

-- the first of the lines that are left, as it is read
pub left_first : (left rest : List (List ℕ)) (line : List ℕ) (i : PlannedItem) → left ≡ line ∷ rest → i ≡ planned_or_fault line → planned_items left ≡ i ∷ planned_items rest
left_first left rest line i is read = ap planned_items is ∙ ap (λ (x : PlannedItem). x ∷ planned_items rest) (sym read)

-- the line at an index, as it is read
pub line_there : (lines : List (List ℕ)) (at : ℕ) (line bytes : List ℕ) (i : PlannedItem) → at < length lines → line ≡ get_or lines at line → bytes ≡ line → i ≡ planned_or_fault bytes
    → planned_items (drop at lines) ≡ i ∷ planned_items (drop (at + 1) lines)
line_there lines at line bytes i within is same read =
    left_first (drop at lines) (drop (at + 1) lines) line i (drop_more lines at line within ∙ ap (λ (x : List ℕ). x ∷ drop (at + 1) lines) (sym is)) (read ∙ ap planned_or_fault same)

-- none is left after the last
pub no_line : (lines : List (List ℕ)) (at : ℕ) → length lines ≤ at → planned_items (drop at lines) ≡ []
no_line lines at over = ap planned_items (drop_all at lines over)

-- ---- memory ran out

front_ends : (before after : KeptAt) (s : State) (items : List PlannedItem) (t : State) (planned : List Filed) (left : List PlannedItem) (text : List ℕ) → (told : AreToldSoFar before after s items t planned left text)
    → t ≡ after_lines s [] told.front told.choices
front_ends before after s items t planned left text told =
    told.state [] []
    ∙ ap (λ is. after_lines s [] is (told.choices ++ [])) (append-nil told.front)
    ∙ ap (λ cs. after_lines s [] told.front cs) (append-nil told.choices)

front_asks : (before after : KeptAt) (s : State) (items : List PlannedItem) (t : State) (planned : List Filed) (left : List PlannedItem) (text : List ℕ) → (told : AreToldSoFar before after s items t planned left text)
    → after.stored ≡ before.stored ++ asked_lines s [] told.front told.choices
front_asks before after s items t planned left text told =
    sym (append-nil after.stored)
    ∙ told.stored [] []
    ∙ ap (λ is. before.stored ++ asked_lines s [] is (told.choices ++ [])) (append-nil told.front)
    ∙ ap (λ cs. before.stored ++ asked_lines s [] told.front cs) (append-nil told.choices)

ends_in_part : (before middle after : KeptAt) (s : State) (items : List PlannedItem) (t u : State) (planned : List Filed) (left : List PlannedItem) (text : List ℕ)
    → AreToldSoFar before middle s items t planned left text → KeptLater middle after → MayHaveBegunLine left t u → IsPlannedInPartOf before after s items u
ends_in_part before middle after s items t u planned left text told over begun = record {
  front = told.front;
  left = left;
  choices = told.choices;
  whole = told.whole;
  kept = middle;
  counted = told.counted;
  stored = front_asks before middle s items t planned left text told;
  later = over;
  state = subst (λ (v : State). MayHaveBegunLine left v u) (front_ends before middle s items t planned left text told) begun;
}

none_begun : (left : List PlannedItem) (s t : State) → t ≡ s → MayHaveBegunLine left s t
none_begun [] s t is = is
none_begun (Err fault ∷ rest) s t is = is
none_begun (Ok l ∷ rest) s t is = inl is

begun_first : (i : PlannedItem) (rest : List PlannedItem) (s t : State) → MayHaveBegunLine (i ∷ []) s t → MayHaveBegunLine (i ∷ rest) s t
begun_first (Err fault) rest s t begun = begun
begun_first (Ok l) rest s t begun = begun

-- between two lines
pub told_before : (before after : KeptAt) (s : State) (items : List PlannedItem) (t : State) (planned : List Filed) (left : List PlannedItem) (text : List ℕ) → AreToldSoFar before after s items t planned left text
    → IsPlannedInPartOf before after s items t
told_before before after s items t planned left text told = ends_in_part before after after s items t t planned left text told (later_refl after) (none_begun left t t refl)

-- at the next line
pub told_at : (before middle after : KeptAt) (s : State) (items : List PlannedItem) (t u : State) (planned : List Filed) (left rest : List PlannedItem) (i : PlannedItem) (text : List ℕ)
    → left ≡ i ∷ rest → AreToldSoFar before middle s items t planned left text → KeptLater middle after → MayHaveBegunLine (i ∷ []) t u → IsPlannedInPartOf before after s items u
told_at before middle after s items t u planned left rest i text is told over begun =
    ends_in_part before middle after s items t u planned (i ∷ rest) text (subst (λ is. AreToldSoFar before middle s items t planned is text) is told) over (begun_first i rest t u begun)

-- once the next line was answered
pub told_after : (before middle after : KeptAt) (s : State) (items : List PlannedItem) (t u : State) (planned new : List Filed) (left rest : List PlannedItem) (i : PlannedItem) (text : List ℕ) (o : LineOutcome)
    → left ≡ i ∷ rest → AreToldSoFar before middle s items t planned left text → IsLineAnswered middle after t planned i u new o → IsLineFormed i → IsPlannedInPartOf before after s items u
told_after before middle after s items t u planned new left rest i text o is told answered formed =
    told_before before after s items u new rest (text ++ outcome_text o) (told_next before middle after s items t u planned new left rest i text (text ++ outcome_text o) o is told answered formed refl)

-- before the first line
pub none_run : (before : KeptAt) (s : State) (items : List PlannedItem) → IsPlannedInPartOf before before s items s
none_run before s items = told_before before before s items s [] items [] (none_told before s items [] [] refl refl)

-- ---- the whole run

quiet_lines : (s : State) (planned : List Filed) (items : List PlannedItem) (cs : List Choice) → concat (map numbers_of cs) ≡ [] → lines_with s planned items cs ≡ lines_with s planned items []
quiet_lines s planned [] cs quiet = refl
quiet_lines s planned (i ∷ rest) [] quiet = refl
quiet_lines s planned (i ∷ rest) (c ∷ cs) quiet =
    let first = quiet_first c cs quiet in
    let g : LineGiven = line_with no_choice s planned i in
    ap (λ (d : Choice). (line_with d s planned i).outcome ∷ lines_with (line_with d s planned i).state (filed_by i (line_with d s planned i).outcome.said planned) rest cs) first.0
    ∙ ap (λ os. g.outcome ∷ os) (quiet_lines g.state (filed_by i g.outcome.said planned) rest cs first.1)

quiet_after : (s : State) (planned : List Filed) (items : List PlannedItem) (cs : List Choice) → concat (map numbers_of cs) ≡ [] → after_lines s planned items cs ≡ after_lines s planned items []
quiet_after s planned [] cs quiet = refl
quiet_after s planned (i ∷ rest) [] quiet = refl
quiet_after s planned (i ∷ rest) (c ∷ cs) quiet =
    let first = quiet_first c cs quiet in
    let g : LineGiven = line_with no_choice s planned i in
    ap (λ (d : Choice). after_lines (line_with d s planned i).state (filed_by i (line_with d s planned i).outcome.said planned) rest cs) first.0
    ∙ quiet_after g.state (filed_by i g.outcome.said planned) rest cs first.1

steady_text : (before after : ℕ) (s : State) (items : List PlannedItem) (t : State) (choices : List Choice) → Counted before choices after → t ≡ after_lines s [] items choices → after ≡ before
    → lines_text (lines_with s [] items choices) ++ closing t ≡ lines_text (lines_with s [] items []) ++ closing (after_lines s [] items [])
steady_text before after s items t choices counted state same =
    let quiet = rise_none before (concat (map numbers_of choices)) (subst (λ (n : ℕ). Counted before choices n) same counted) in
    ap (λ os. lines_text os ++ closing t) (quiet_lines s [] items choices quiet)
    ∙ ap (λ (u : State). lines_text (lines_with s [] items []) ++ closing u) (state ∙ quiet_after s [] items choices quiet)

run_by : (before after : KeptAt) (s : State) (items : List PlannedItem) (t : State) (text : List ℕ) (choices : List Choice) → Counted before.faults choices after.faults
    → after.stored ≡ before.stored ++ asked_lines s [] items choices → text ≡ lines_text (lines_with s [] items choices) ++ closing t → t ≡ after_lines s [] items choices → IsPlannedRunOf before after s items t text
run_by before after s items t text choices counted stored says state =
    record { choices = choices; counted = counted; stored = stored; says = says; state = state; steady = λ same. says ∙ steady_text before.faults after.faults s items t choices counted state same }

-- after the last line
pub run_told : (before after : KeptAt) (s : State) (items : List PlannedItem) (t : State) (planned : List Filed) (left : List PlannedItem) (told text : List ℕ) → left ≡ []
    → AreToldSoFar before after s items t planned left told → text ≡ told ++ closing t → IsPlannedRunOf before after s items t text
run_told before after s items t planned left told text none all is =
    let last : AreToldSoFar before after s items t planned [] told = subst (λ is. AreToldSoFar before after s items t planned is told) none all in
    let says : told ≡ lines_text (lines_with s [] items last.choices) =
    sym (append-nil told)
    ∙ last.says [] []
    ∙ ap (λ is. lines_text (lines_with s [] is (last.choices ++ []))) (sym last.whole)
    ∙ ap (λ cs. lines_text (lines_with s [] items cs)) (append-nil last.choices) in
    let state : t ≡ after_lines s [] items last.choices =
    last.state [] [] ∙ ap (λ is. after_lines s [] is (last.choices ++ [])) (sym last.whole) ∙ ap (λ cs. after_lines s [] items cs) (append-nil last.choices) in
    let stored : after.stored ≡ before.stored ++ asked_lines s [] items last.choices =
    sym (append-nil after.stored)
    ∙ last.stored [] []
    ∙ ap (λ is. before.stored ++ asked_lines s [] is (last.choices ++ [])) (sym last.whole)
    ∙ ap (λ cs. before.stored ++ asked_lines s [] items cs) (append-nil last.choices) in
    run_by before after s items t text last.choices last.counted stored (is ∙ ap (λ ts. ts ++ closing t) says) state

-- every line has its forms
pub all_formed : (before after : KeptAt) (s : State) (items : List PlannedItem) (t : State) (planned : List Filed) (left : List PlannedItem) (told : List ℕ) → left ≡ []
    → AreToldSoFar before after s items t planned left told → AllByRecursion IsLineFormed items
all_formed before after s items t planned left told none all =
    let last : AreToldSoFar before after s items t planned [] told = subst (λ is. AreToldSoFar before after s items t planned is told) none all in
    subst (AllByRecursion IsLineFormed) (sym (last.whole ∙ append-nil last.front)) last.formed

-- ---- the same where the keeper's faults are counted from before

same_counts : (less before after : ℕ) (choices : List Choice) → less ≤ before → Counted before choices after → after ≡ less → after ≡ before
same_counts less before after choices under counted same = let over = rise_within before (concat (map numbers_of choices)) after counted in omega (arith, under, over, same)

pub run_lower : (less : ℕ) (before after : KeptAt) (s : State) (items : List PlannedItem) (t : State) (text : List ℕ) → less ≤ before.faults → IsPlannedRunOf before after s items t text
    → IsPlannedRunOf (record before { faults = less }) after s items t text
run_lower less before after s items t text under run = record {
  choices = run.choices;
  counted = rise_lower less before.faults (concat (map numbers_of run.choices)) after.faults under run.counted;
  stored = run.stored;
  says = run.says;
  state = run.state;
  steady = λ same. run.steady (same_counts less before.faults after.faults run.choices under run.counted same);
}

pub part_lower : (less : ℕ) (before after : KeptAt) (s : State) (items : List PlannedItem) (t : State) → less ≤ before.faults → IsPlannedInPartOf before after s items t
    → IsPlannedInPartOf (record before { faults = less }) after s items t
part_lower less before after s items t under part = record {
  front = part.front;
  left = part.left;
  choices = part.choices;
  whole = part.whole;
  kept = part.kept;
  counted = rise_lower less before.faults (concat (map numbers_of part.choices)) part.kept.faults under part.counted;
  stored = part.stored;
  later = part.later;
  state = part.state;
}
