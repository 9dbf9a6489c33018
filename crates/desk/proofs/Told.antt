-- Items that come one after another, and what is told of them.
use Rattle.std.proofs.Common.{◌≡◌, ℕ, List, [], ◌∷◌, ◌++◌, Option, None, Some, append-nil, append_assoc, refl, ap, sym, ◌∙◌, subst}
use Rattle.desk_state.specs.State.{State}
use Rattle.desk_state.specs.Texts.{closing}
use Rattle.desk_state.specs.declared.lanes.Item.{Item}
use Rattle.desk_state.specs.declared.lanes.Outcome.{Outcome}
use Rattle.desk.specs.InPart.{AreGivenInPart, MayHaveBegun}
use Rattle.desk.specs.Items.{Comes}
use Rattle.desk.specs.Keeping.{AreGiven, AreGivenSoFar, Choice, KeptAt, KeptLater, asked_item, item_with}
use Rattle.desk.specs.Run.{IsRunOf, outcome_text, texts_of}
use Rattle.desk.proofs.Choices.{KeptBy, all_given, given_next}
use Rattle.desk.proofs.InPart.{after_next, at_next, none_so_far, stopped}
use Rattle.desk.proofs.ItemLaws.{is_run_of_items}

-- ---- the items that come

pub comes_first : (o : Option Item) (i : Item) (before after : List Item) → o ≡ Some i → Comes o before after → before ≡ i ∷ after
comes_first o i before after is comes = subst (λ (p : Option Item). Comes p before after) is comes

pub comes_last : (o : Option Item) (before after : List Item) → o ≡ None → Comes o before after → before ≡ []
comes_last o before after is comes = subst (λ (p : Option Item). Comes p before after) is comes

-- ---- what is told of them

texts_on : (made : List Outcome) (o : Outcome) → texts_of (made ++ o ∷ []) ≡ texts_of made ++ outcome_text o
texts_on [] o = append-nil (outcome_text o)
texts_on (x ∷ made) o = ap (λ ts. outcome_text x ++ ts) (texts_on made o) ∙ sym (append_assoc (outcome_text x) (texts_of made) (outcome_text o))

-- what is told of a front of items, where others are left
pub record AreToldSoFar (lane : ℕ) (before after : KeptAt) (s : State) (items : List Item) (t : State) (left : List Item) (text : List ℕ) : Type 0 where
  pub made : List Outcome
  pub given : AreGivenSoFar lane before after s items t left made
  pub says : text ≡ texts_of made

-- before the first item
pub none_told : (lane : ℕ) (before : KeptAt) (s : State) (items : List Item) (text : List ℕ) → text ≡ [] → AreToldSoFar lane before before s items s items text
none_told lane before s items text none = record { made = []; given = none_so_far lane before s items refl; says = none }

-- the next is told
pub told_next : (lane : ℕ) (before middle after : KeptAt) (s : State) (items : List Item) (t u : State) (left rest : List Item) (i : Item) (text more : List ℕ) (c : Choice) (o : Outcome)
    → left ≡ i ∷ rest → AreToldSoFar lane before middle s items t left text → KeptBy middle after c (asked_item c lane t i) → o ≡ (item_with c lane t i).outcome → u ≡ (item_with c lane t i).state
    → more ≡ text ++ outcome_text o → AreToldSoFar lane before after s items u rest more
told_next lane before middle after s items t u left rest i text more c o is told kept outcome state pushed = record {
  made = told.made ++ o ∷ [];
  given = given_next lane before middle after s items t u left rest i told.made (told.made ++ o ∷ []) c o is told.given kept outcome state refl;
  says = pushed ∙ ap (λ ts. ts ++ outcome_text o) told.says ∙ sym (texts_on told.made o);
}

-- after the last
last_given : (lane : ℕ) (before after : KeptAt) (s : State) (items : List Item) (t : State) (left : List Item) (text : List ℕ) → left ≡ [] → (told : AreToldSoFar lane before after s items t left text)
    → AreGiven lane before after s items t told.made
last_given lane before after s items t left text none told = all_given lane before after s items t left told.made none told.given

-- the text of a run
pub is_run_told : (before after : KeptAt) (s : State) (items : List Item) (t : State) (left : List Item) (told text : List ℕ) → left ≡ [] → AreToldSoFar 1 before after s items t left told
    → text ≡ told ++ closing t → IsRunOf before after s items t text
is_run_told before after s items t left told text none all is =
    is_run_of_items before after s items t all.made text (last_given 1 before after s items t left told none all) (is ∙ ap (λ ts. ts ++ closing t) all.says)

-- where memory ran out: before the next item, at it, or once it was answered
pub told_before : (lane : ℕ) (before after : KeptAt) (s : State) (items : List Item) (t : State) (left : List Item) (text : List ℕ) → AreToldSoFar lane before after s items t left text
    → AreGivenInPart lane before after s items t
told_before lane before after s items t left text told = stopped lane before after s items t left told.made told.given

pub told_at : (lane : ℕ) (before middle after : KeptAt) (s : State) (items : List Item) (t u : State) (left rest : List Item) (i : Item) (text : List ℕ) → left ≡ i ∷ rest
    → AreToldSoFar lane before middle s items t left text → KeptLater middle after → MayHaveBegun lane i t u → AreGivenInPart lane before after s items u
told_at lane before middle after s items t u left rest i text is told over begun = at_next lane before middle after s items t u left rest i told.made is told.given over begun

pub told_after : (lane : ℕ) (before middle after : KeptAt) (s : State) (items : List Item) (t u : State) (left rest : List Item) (i : Item) (text : List ℕ) (c : Choice) → left ≡ i ∷ rest
    → AreToldSoFar lane before middle s items t left text → KeptBy middle after c (asked_item c lane t i) → u ≡ (item_with c lane t i).state → AreGivenInPart lane before after s items u
told_after lane before middle after s items t u left rest i text c is told kept state = after_next lane before middle after s items t u left rest i told.made c is told.given kept state
