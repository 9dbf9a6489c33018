-- What is advised: a legal list with which the leg requires the least fuel.
use Rattle.std.specs.Prelude.{◌≡◌, ℕ, ◌≤◌, List, length, Option, None, Some}
use Rattle.advise.specs.declared.advice.Advice.{Advice}
use Rattle.advise.specs.Places.{listed_at, AreInOrder, IsNotAfter}
use Rattle.advise.specs.Legal.{Question, IsLegal, cost}

-- The list is legal and in the order of the candidates. No legal list in any order costs less. Of the lists in that
-- order that cost the same none has fewer members, and of those with as many none comes before it.
pub record IsBest (q : Question) (places : List ℕ) : Type 0 where
  pub legal : IsLegal q places
  pub in_order : AreInOrder places
  pub least : (others : List ℕ) → IsLegal q others → cost q places ≤ cost q others
  pub fewest : (others : List ℕ) → IsLegal q others → AreInOrder others → cost q others ≡ cost q places → length places ≤ length others
  pub first : (others : List ℕ) → IsLegal q others → AreInOrder others → cost q others ≡ cost q places → length others ≡ length places → IsNotAfter places others

-- the alternates of a best list, and its cost
pub record IsAdvice (q : Question) (advice : Advice) : Type 0 where
  pub places : List ℕ
  pub best : IsBest q places
  pub alternates : advice.alternates ≡ listed_at q.choices places
  pub required : advice.required ≡ cost q places

-- a best list is advised, and nothing exactly if no list is legal
abbrev pub Advises : Question → Option Advice → Type 0
Advises q None = (places : List ℕ) → IsLegal q places → ⊥
Advises q (Some advice) = IsAdvice q advice
