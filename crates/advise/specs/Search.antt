-- The search: which lists are tried, in which order, and that the cheapest is taken.
use Rattle.std.specs.Prelude.{ℕ, ◌+◌, max, nat_lt, Bool, ◌&&◌, if◌then◌else◌, List, [], ◌∷◌, ◌++◌, fold, map, Option, None, Some}
use Rattle.std.specs.Option.{option_map}
use Rattle.plan.specs.declared.flights.Alternate.{Alternate}
use Rattle.advise.specs.declared.advice.Advice.{Advice}
use Rattle.advise.specs.declared.search.Verdict.{Verdict}
use Rattle.advise.specs.declared.search.Places.{Places}
use Rattle.advise.specs.declared.search.Places.TheVariants.{Empty, One, Two}
use Rattle.advise.specs.declared.search.Offer.{Offer}
use Rattle.advise.specs.Places.{listed_at}

-- the places as a list
abbrev pub places_in : Places → List ℕ
places_in Empty = []
places_in (One a) = a ∷ []
places_in (Two a b) = a ∷ b ∷ []

abbrev pub is_legal : Verdict → Bool
is_legal v = v.are_enough && v.are_usable

abbrev pub offer_if : Bool → Places → ℕ → List Offer
offer_if legal places required = if legal then record { places = places; required = required } ∷ [] else []

-- no alternate
abbrev pub empties : Verdict → List Offer
empties v = offer_if (is_legal v) Empty v.required

-- each alternate alone, if the first has the place n
abbrev pub singles : ℕ → List Verdict → List Offer
singles n [] = []
singles n (v ∷ rest) = offer_if (is_legal v) (One n) v.required ++ singles (n + 1) rest

-- Two alternates are legal if both are usable, and the more distant one counts. These are the lists of this alternate
-- with each of the others, if the first of them has the place n.
abbrev pub pairs_of : ℕ → Verdict → ℕ → List Verdict → List Offer
pairs_of place v n [] = []
pairs_of place v n (w ∷ rest) = offer_if (v.are_usable && w.are_usable) (Two place n) (max v.required w.required) ++ pairs_of place v (n + 1) rest

-- each two alternates, if the first has the place n
abbrev pub pairs : ℕ → List Verdict → List Offer
pairs n [] = []
pairs n (v ∷ rest) = pairs_of n v (n + 1) rest ++ pairs (n + 1) rest

-- The lists that are tried: the shorter before the longer, and those of the same length in the order of their places.
abbrev pub offers : Verdict → List Verdict → List Offer
offers empty alone = empties empty ++ singles 0 alone ++ pairs 0 alone

-- the cheaper of two, and the first if they cost the same
abbrev pub cheaper : Option Offer → Offer → Option Offer
cheaper None offer = Some offer
cheaper (Some best) offer = if nat_lt offer.required best.required then Some offer else Some best

abbrev pub cheapest : List Offer → Option Offer
cheapest offers = fold cheaper None offers

-- the offer found among these alternates, if `verdict` is what the rules find with a list
abbrev pub found_among : (List Alternate → Verdict) → List Alternate → Option Offer
found_among verdict choices = cheapest (offers (verdict []) (map (λ it. verdict (it ∷ [])) choices))

-- the advice that an offer gives
abbrev pub advice_at : List Alternate → Offer → Advice
advice_at choices offer = record { alternates = listed_at choices (places_in offer.places); required = offer.required }

-- the advice found among these alternates
abbrev pub advice_by : (List Alternate → Verdict) → List Alternate → Option Advice
advice_by verdict choices = option_map (advice_at choices) (found_among verdict choices)
