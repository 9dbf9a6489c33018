-- The advice is right: the list that is found is legal and a best one, and nothing is found only if no list is legal.
use Rattle.std.proofs.Common.{◌≡◌, ◌≢◌, inl, inr, ℕ, zero, suc, ◌<◌, ◌≤◌, ◌==◌, max, Bool, true, false, ◌&&◌, List, [], ◌∷◌, ◌++◌, length, get_or, Option, None, Some, refl, sym, ap, subst, ◌∙◌, lit≤, arith}
use Rattle.std.specs.Prelude.{IfSome, map, filter, option_to_list, All, AllPairs}
use Rattle.std.specs.List.{slice_get, list_any, list_all}
use Rattle.std.specs.Option.{option_map}
use Rattle.std.proofs.lemmas.Bool.{and_from, and_parts, or_from, eqb-true, false_from_ne_true, cases_lt, cases_order}
use Rattle.std.proofs.lemmas.List.{get_or-map, length-map}
use Rattle.std.proofs.lemmas.List.Elements.{All-nil, All-cons, All-head, All-tail, All-filter, filter_passes, All-map}
use Rattle.std.proofs.lemmas.List.Kept.{AllPairs-filter, AllPairs-cons}
use Rattle.std.proofs.lemmas.Option.{same_Some, slice_get-map, slice_get_within, get_or_from_slice_get}
use Rattle.std.proofs.lemmas.Slice.Eq.{bytes_eq-Decides}
use Rattle.ops_tables.specs.Tables.{TableRows, type_of}
use Rattle.plan.specs.Check.{is_alternate_at, repeats, plan_fault}
use Rattle.plan.specs.Phases.{standing}
use Rattle.plan.specs.declared.flights.Alternate.{Alternate}
use Rattle.plan.specs.declared.flights.Leg.{Leg}
use Rattle.plan.specs.declared.flights.Plan.{Plan}
use Rattle.plan.specs.declared.release.Phase.{Phase}
use Rattle.plan.specs.declared.release.Standing.TheVariants.{Flown}
use Rattle.rules.specs.Circumstances.{Case, case_of}
use Rattle.rules.specs.Grounds.{Grounds}
use Rattle.rules.specs.Judgement.{leg_numbered, findings_of}
use Rattle.advise.specs.declared.candidates.Candidate.{Candidate}
use Rattle.advise.specs.declared.search.Offer.{Offer}
use Rattle.advise.specs.declared.search.Places.{Places}
use Rattle.advise.specs.declared.search.Places.TheVariants.{Empty, One, Two}
use Rattle.advise.specs.declared.search.Verdict.{Verdict}
use Rattle.advise.specs.Advice.{IsBest, Advises}
use Rattle.advise.specs.Candidates.{is_allowed, is_allowed_on, is_candidate, AreCandidates, choices_for}
use Rattle.advise.specs.Legal.{Question, question, IsLegal, cost, plan_at}
use Rattle.advise.specs.Places.{listed_at, AreInOrder, IsNotAfter}
use Rattle.advise.specs.Search.{places_in, is_legal, found_among, advice_at, advice_by}
use Rattle.advise.specs.Verdicts.{verdict_of}
use Rattle.advise.proofs.ListingLaws.{MayBeListed, numbered}
use Rattle.advise.proofs.SearchLaws.{Precedes, IsAsGood, HoldsOfEach, found_has, IsFound, is_found}
use Rattle.advise.proofs.SilentLaws.{legal_if_silent, silent_if_legal}
use Rattle.advise.proofs.VerdictLaws.{verdict_at, verdict_in_case, two_are_enough, two_are_usable, two_of_three, two_require, three_require}

-- Lists

at_place : {A : Type 0} (P : A → Type 0) (xs : List A) (k : ℕ) (x : A) → All P xs → slice_get xs k ≡ Some x → P x
at_place P xs k x all at = subst P (get_or_from_slice_get xs k x x at) (all k x (slice_get_within xs k x at))

pairs_head : {A : Type 0} (R : A → A → Type 0) (x : A) (xs : List A) → AllPairs R (x ∷ xs) → All (R x) xs
pairs_head R x xs all k d within = all 0 (suc k) d (omega arith) (omega (arith, within))

pairs_tail : {A : Type 0} (R : A → A → Type 0) (x : A) (xs : List A) → AllPairs R (x ∷ xs) → AllPairs R xs
pairs_tail R x xs all i j d less within = all (suc i) (suc j) d (omega (arith, less)) (omega (arith, within))

-- The choices

-- each may be listed on the leg, and none is at the same station as another
record AreChoices (tables : TableRows) (leg : Leg) (choices : List Alternate) : Type 0 where
  pub allowed : All (λ it. is_allowed tables leg it ≡ true) choices
  pub different : AllPairs (λ one other. one.station ≢ other.station) choices

choices_are : (tables : TableRows) (plan : Plan) (number : ℕ) (leg : Leg) (candidates : List Candidate) → leg_numbered number 1 plan.legs ≡ Some leg → AreCandidates tables plan candidates
    → AreChoices tables leg (choices_for number candidates)
choices_are tables plan number leg candidates stands are = record { allowed = allowed; different = different }
  where
    kept : List Candidate
    kept = filter (λ c. c.leg == number) candidates

    of_leg : All (λ c. (c.leg == number) ≡ true) kept
    of_leg = filter_passes (λ c. c.leg == number) candidates

    allowed : All (λ it. is_allowed tables leg it ≡ true) (map (λ c. c.alternate) kept)
    allowed = All-map (λ it. is_allowed tables leg it ≡ true) (λ c. c.alternate) kept (λ k d within.
        let is = All-filter (λ c. c.leg == number) (λ c. is_candidate tables plan c ≡ true) candidates are.allowed k d within in
        subst (λ o. is_allowed_on tables (get_or kept k d).alternate o ≡ true) (ap (λ n. leg_numbered n 1 plan.legs) (eqb-true (get_or kept k d).leg number (of_leg k d within)) ∙ stands) is)

    different : AllPairs (λ one other. one.station ≢ other.station) (map (λ c. c.alternate) kept)
    different i j d less within = λ same.
        let short : j < length kept = subst (λ n. j < n) (length-map kept (λ c. c.alternate)) within in
        let other : Candidate = record { leg = 0; alternate = d } in
        let apart = AllPairs-filter (λ one other. one.leg ≡ other.leg → one.alternate.station ≢ other.alternate.station) (λ c. c.leg == number) candidates are.different i j other less short in
        apart (eqb-true (get_or kept i other).leg number (of_leg i other (omega (arith, less, short))) ∙ sym (eqb-true (get_or kept j other).leg number (of_leg j other short)))
        (sym (ap (λ (it : Alternate). it.station) (get_or-map (λ c. c.alternate) kept i other d (omega (arith, less, short)))) ∙ same ∙ ap (λ (it : Alternate). it.station) (get_or-map (λ c. c.alternate) kept j other d short))

module _ (tables : TableRows) (leg : Leg) (choices : List Alternate) (are : AreChoices tables leg choices) where
  length_at : (places : List ℕ) → length (listed_at choices places) ≤ length places
  length_at [] = omega arith
  length_at (place ∷ places) = by (slice_get choices place) (length_at places)
    where
      by : (o : Option Alternate) → length (listed_at choices places) ≤ length places → length (option_to_list o ++ listed_at choices places) ≤ length (place ∷ places)
      by None h = omega (arith, h)
      by (Some it) h = omega (arith, h)

  allowed_at : (places : List ℕ) → list_all (is_allowed tables leg) (listed_at choices places) ≡ true
  allowed_at [] = refl
  allowed_at (place ∷ places) = by (slice_get choices place) refl (allowed_at places)
    where
      by : (o : Option Alternate) → slice_get choices place ≡ o → list_all (is_allowed tables leg) (listed_at choices places) ≡ true
          → list_all (is_allowed tables leg) (option_to_list o ++ listed_at choices places) ≡ true
      by None e rest = rest
      by (Some it) e rest = and_from (is_allowed tables leg it) (list_all (is_allowed tables leg) (listed_at choices places)) (at_place (λ a. is_allowed tables leg a ≡ true) choices place it are.allowed e) rest

  -- alternates at different places are at different stations
  apart : (p q : ℕ) (a b : Alternate) → p ≢ q → slice_get choices p ≡ Some a → slice_get choices q ≡ Some b → is_alternate_at a.station b ≡ false
  apart p q a b ne at and = false_from_ne_true (is_alternate_at a.station b) (λ e.
      let same : b.station ≡ a.station = (bytes_eq-Decides b.station a.station).0 e in
      elim (cases_order p q) [
        | inl equal ↦ ne equal
        | inr either ↦ elim either [
          | inl less ↦ differ p q a b less at and (sym same)
          | inr more ↦ differ q p b a more and at same
        ]
      ])
    where
      differ : (i j : ℕ) (x y : Alternate) → i < j → slice_get choices i ≡ Some x → slice_get choices j ≡ Some y → x.station ≡ y.station → ⊥
      differ i j x y less one two same =
          are.different i j x less (slice_get_within choices j y two)
          (ap (λ (it : Alternate). it.station) (get_or_from_slice_get choices i x x one) ∙ same ∙ sym (ap (λ (it : Alternate). it.station) (get_or_from_slice_get choices j y x two)))

  none_again : (p : ℕ) (a : Alternate) → slice_get choices p ≡ Some a → (places : List ℕ) → All (λ other. p ≢ other) places → list_any (is_alternate_at a.station) (listed_at choices places) ≡ false
  none_again p a at [] all = refl
  none_again p a at (q ∷ places) all = by (slice_get choices q) refl (none_again p a at places (All-tail (λ other. p ≢ other) q places all))
    where
      by : (o : Option Alternate) → slice_get choices q ≡ o → list_any (is_alternate_at a.station) (listed_at choices places) ≡ false
          → list_any (is_alternate_at a.station) (option_to_list o ++ listed_at choices places) ≡ false
      by None e rest = rest
      by (Some b) e rest = or_from (is_alternate_at a.station b) (list_any (is_alternate_at a.station) (listed_at choices places)) (apart p q a b (All-head (λ other. p ≢ other) q places all) at e) rest

  once_at : (places : List ℕ) → AllPairs (λ one other. one ≢ other) places → repeats (listed_at choices places) ≡ false
  once_at [] all = refl
  once_at (place ∷ places) all = by (slice_get choices place) refl (once_at places (pairs_tail (λ one other. one ≢ other) place places all))
    where
      by : (o : Option Alternate) → slice_get choices place ≡ o → repeats (listed_at choices places) ≡ false → repeats (option_to_list o ++ listed_at choices places) ≡ false
      by None e rest = rest
      by (Some a) e rest = or_from (list_any (is_alternate_at a.station) (listed_at choices places)) (repeats (listed_at choices places))
          (none_again place a e places (pairs_head (λ one other. one ≢ other) place places all)) rest

  may_at : (places : List ℕ) → length places ≤ 3 → AllPairs (λ one other. one ≢ other) places → MayBeListed tables leg (listed_at choices places)
  may_at places few different = record {
    few = let h = length_at places in omega (arith, h, few);
    allowed = allowed_at places;
    once = once_at places different;
  }

some_at : {A : Type 0} (xs : List A) (k : ℕ) → k < length xs → (x : A) × (slice_get xs k ≡ Some x)
some_at [] k within = absurd (omega (arith, within))
some_at (x ∷ xs) zero within = (x, refl)
some_at (x ∷ xs) (suc k) within = some_at xs k (omega (arith, within))

-- Pairs of short lists

no_pairs : (R : ℕ → ℕ → Type 0) → AllPairs R []
no_pairs R i j d less within = absurd (omega (arith, within))

pairs_of_one : (R : ℕ → ℕ → Type 0) (p : ℕ) → AllPairs R (p ∷ [])
pairs_of_one R p = AllPairs-cons R p [] (All-nil (R p)) (no_pairs R)

pairs_of_two : (R : ℕ → ℕ → Type 0) (p r : ℕ) → R p r → AllPairs R (p ∷ r ∷ [])
pairs_of_two R p r h = AllPairs-cons R p (r ∷ []) (All-cons (R p) r [] h (All-nil (R p))) (pairs_of_one R r)

first_two : (R : ℕ → ℕ → Type 0) (p r : ℕ) (rest : List ℕ) → AllPairs R (p ∷ r ∷ rest) → R p r
first_two R p r rest all = All-head (R p) r rest (pairs_head R p (r ∷ rest) all)

abbrev Differ : ℕ → ℕ → Type 0
Differ one other = one ≢ other

abbrev Below : ℕ → ℕ → Type 0
Below earlier later = earlier < later

and_two : {x y u w : Bool} → x ≡ u → y ≡ w → (x && y) ≡ (u && w)
and_two e f = cc

max_two : {x y u w : ℕ} → x ≡ u → y ≡ w → max x y ≡ max u w
max_two e f = cc

module _ (q : Question) (leg : Leg) (valid : plan_fault q.grounds.tables q.plan ≡ None) (stands : leg_numbered q.leg 1 q.plan.legs ≡ Some leg) (still : standing q.phase q.leg ≡ Flown → ⊥)
    (are : AreChoices q.grounds.tables leg q.choices) where
  abbrev found_with : List Alternate → Verdict
  found_with listed = verdict_of q.plan q.phase q.leg q.grounds listed

  abbrev in_case : Option Case
  in_case = option_map (case_of q.grounds q.plan) (type_of q.grounds.tables q.plan.tail)

  in_case_at : (places : List ℕ) → length places ≤ 3 → AllPairs Differ places → found_with (listed_at q.choices places) ≡ verdict_at in_case leg (listed_at q.choices places)
  in_case_at places few different =
      verdict_in_case q.plan q.phase q.leg q.grounds leg (listed_at q.choices places) valid stands still (may_at q.grounds.tables leg q.choices are places few different)

  one_at : (p : ℕ) (a : Alternate) → slice_get q.choices p ≡ Some a → listed_at q.choices (p ∷ []) ≡ a ∷ []
  one_at p a at = ap (λ o. option_to_list o ++ []) at

  two_at : (p r : ℕ) (a b : Alternate) → slice_get q.choices p ≡ Some a → slice_get q.choices r ≡ Some b → listed_at q.choices (p ∷ r ∷ []) ≡ a ∷ b ∷ []
  two_at p r a b at and = ap (λ o. option_to_list o ++ listed_at q.choices (r ∷ [])) at ∙ ap (λ rest. a ∷ rest) (one_at r b and)

  three_at : (p r s : ℕ) (a b d : Alternate) → slice_get q.choices p ≡ Some a → slice_get q.choices r ≡ Some b → slice_get q.choices s ≡ Some d → listed_at q.choices (p ∷ r ∷ s ∷ []) ≡ a ∷ b ∷ d ∷ []
  three_at p r s a b d at and then = ap (λ o. option_to_list o ++ listed_at q.choices (r ∷ s ∷ [])) at ∙ ap (λ rest. a ∷ rest) (two_at r s b d and then)

  one_in_case : (p : ℕ) (a : Alternate) → slice_get q.choices p ≡ Some a → found_with (a ∷ []) ≡ verdict_at in_case leg (a ∷ [])
  one_in_case p a at = subst (λ (l : List Alternate). found_with l ≡ verdict_at in_case leg l) (one_at p a at) (in_case_at (p ∷ []) (lit≤ tt) (pairs_of_one Differ p))

  two_in_case : (p r : ℕ) (a b : Alternate) → p ≢ r → slice_get q.choices p ≡ Some a → slice_get q.choices r ≡ Some b → found_with (a ∷ b ∷ []) ≡ verdict_at in_case leg (a ∷ b ∷ [])
  two_in_case p r a b ne at and = subst (λ (l : List Alternate). found_with l ≡ verdict_at in_case leg l) (two_at p r a b at and) (in_case_at (p ∷ r ∷ []) (lit≤ tt) (pairs_of_two Differ p r ne))

  enough : (p r : ℕ) (a b : Alternate) → p ≢ r → slice_get q.choices p ≡ Some a → slice_get q.choices r ≡ Some b → (found_with (a ∷ b ∷ [])).are_enough ≡ true
  enough p r a b ne at and = ap (λ (v : Verdict). v.are_enough) (two_in_case p r a b ne at and) ∙ two_are_enough in_case leg a b []

  usable : (p r : ℕ) (a b : Alternate) → p ≢ r → slice_get q.choices p ≡ Some a → slice_get q.choices r ≡ Some b
      → (found_with (a ∷ b ∷ [])).are_usable ≡ ((found_with (a ∷ [])).are_usable && (found_with (b ∷ [])).are_usable)
  usable p r a b ne at and =
      ap (λ (v : Verdict). v.are_usable) (two_in_case p r a b ne at and) ∙ two_are_usable in_case leg a b
      ∙ sym (and_two (ap (λ (v : Verdict). v.are_usable) (one_in_case p a at)) (ap (λ (v : Verdict). v.are_usable) (one_in_case r b and)))

  requires : (p r : ℕ) (a b : Alternate) → p ≢ r → slice_get q.choices p ≡ Some a → slice_get q.choices r ≡ Some b
      → (found_with (a ∷ b ∷ [])).required ≡ max (found_with (a ∷ [])).required (found_with (b ∷ [])).required
  requires p r a b ne at and =
      ap (λ (v : Verdict). v.required) (two_in_case p r a b ne at and) ∙ two_require in_case leg a b
      ∙ sym (max_two (ap (λ (v : Verdict). v.required) (one_in_case p a at)) (ap (λ (v : Verdict). v.required) (one_in_case r b and)))

  costs_two : (p r : ℕ) (a b : Alternate) → p ≢ r → slice_get q.choices p ≡ Some a → slice_get q.choices r ≡ Some b
      → cost q (p ∷ r ∷ []) ≡ max (found_with (a ∷ [])).required (found_with (b ∷ [])).required
  costs_two p r a b ne at and = ap (λ l. (found_with l).required) (two_at p r a b at and) ∙ requires p r a b ne at and

  -- Legal lists by their verdicts

  legal_of : (places : List ℕ) → IsLegal q places → is_legal (found_with (listed_at q.choices places)) ≡ true
  legal_of places is = legal_if_silent (findings_of (plan_at q places) q.phase q.grounds) q.leg (cost q places) is.allowed

  legal_by : (places : List ℕ) → length places ≤ 3 → All (λ place. place < length q.choices) places → AllPairs Differ places → is_legal (found_with (listed_at q.choices places)) ≡ true → IsLegal q places
  legal_by places few within different e = record {
    few = few;
    are_choices = within;
    different = different;
    allowed = silent_if_legal (findings_of (plan_at q places) q.phase q.grounds) q.leg (cost q places) e;
  }

  abbrev alone : List Verdict
  alone = map (λ it. found_with (it ∷ [])) q.choices

  alone_at : (k : ℕ) (a : Alternate) → slice_get q.choices k ≡ Some a → slice_get alone k ≡ Some (found_with (a ∷ []))
  alone_at k a at = slice_get-map (λ it. found_with (it ∷ [])) q.choices k ∙ ap (option_map (λ it. found_with (it ∷ []))) at

  record IsAlone (k : ℕ) (v : Verdict) : Type 0 where
    pub it : Alternate
    pub at : slice_get q.choices k ≡ Some it
    pub is : found_with (it ∷ []) ≡ v

  at_alone : (k : ℕ) (v : Verdict) → slice_get alone k ≡ Some v → IsAlone k v
  at_alone k v at = by (slice_get q.choices k) refl (sym (slice_get-map (λ it. found_with (it ∷ [])) q.choices k) ∙ at)
    where
      by : (o : Option Alternate) → slice_get q.choices k ≡ o → option_map (λ it. found_with (it ∷ [])) o ≡ Some v → IsAlone k v
      by None e f = absurd (cc)
      by (Some it) e f = record { it = it; at = e; is = same_Some (found_with (it ∷ [])) v f }

  -- an offer of a legal list in order at its cost
  record IsGood (o : Offer) : Type 0 where
    pub legal : IsLegal q (places_in o.places)
    pub in_order : AreInOrder (places_in o.places)
    pub costs : cost q (places_in o.places) ≡ o.required

  good_one : (k : ℕ) (v : Verdict) → IsAlone k v → is_legal v ≡ true → IsGood (record { places = One k; required = v.required })
  good_one k v is legal = record {
    legal = legal_by (k ∷ []) (lit≤ tt) (All-cons (λ place. place < length q.choices) k [] (slice_get_within q.choices k is.it is.at) (All-nil (λ place. place < length q.choices)))
        (pairs_of_one Differ k) (ap (λ l. is_legal (found_with l)) (one_at k is.it is.at) ∙ ap is_legal is.is ∙ legal);
    in_order = pairs_of_one Below k;
    costs = ap (λ l. (found_with l).required) (one_at k is.it is.at) ∙ ap (λ (w : Verdict). w.required) is.is;
  }

  good_two : (j k : ℕ) (v w : Verdict) → j < k → IsAlone j v → IsAlone k w → (v.are_usable && w.are_usable) ≡ true → IsGood (record { places = Two j k; required = max v.required w.required })
  good_two j k v w less is and both =
      let ne : j ≢ k = omega arith in
      record {
        legal = legal_by (j ∷ k ∷ []) (lit≤ tt)
            (All-cons (λ place. place < length q.choices) j (k ∷ []) (slice_get_within q.choices j is.it is.at)
            (All-cons (λ place. place < length q.choices) k [] (slice_get_within q.choices k and.it and.at) (All-nil (λ place. place < length q.choices))))
            (pairs_of_two Differ j k ne)
            (ap (λ l. is_legal (found_with l)) (two_at j k is.it and.it is.at and.at)
            ∙ and_from (found_with (is.it ∷ and.it ∷ [])).are_enough (found_with (is.it ∷ and.it ∷ [])).are_usable (enough j k is.it and.it ne is.at and.at)
            (usable j k is.it and.it ne is.at and.at ∙ and_two (ap (λ (x : Verdict). x.are_usable) is.is) (ap (λ (x : Verdict). x.are_usable) and.is) ∙ both));
        in_order = pairs_of_two Below j k less;
        costs = costs_two j k is.it and.it ne is.at and.at ∙ max_two (ap (λ (x : Verdict). x.required) is.is) (ap (λ (x : Verdict). x.required) and.is);
      }

  each_good : HoldsOfEach IsGood (found_with []) alone
  each_good = record {
    none = λ e. record { legal = legal_by [] (omega arith) (All-nil (λ place. place < length q.choices)) (no_pairs Differ) e; in_order = no_pairs Below; costs = refl };
    one = λ k v at legal. good_one k v (at_alone k v at) legal;
    two = λ j k v w less at and both. good_two j k v w less (at_alone j v at) (at_alone k w and) both;
  }

  -- Each legal list is reached: it is made if it is short and in order, and else one is made that costs no more.

  module _ (P : Offer → Type 0) (has : HoldsOfEach P (found_with []) alone) where
    record IsMade (places : List ℕ) : Type 0 where
      pub offer : Offer
      pub holds : P offer
      pub at : places_in offer.places ≡ places
      pub costs : offer.required ≡ cost q places

    record IsReached (places : List ℕ) : Type 0 where
      pub offer : Offer
      pub holds : P offer
      pub costs : offer.required ≤ cost q places

    reached : (places : List ℕ) → IsMade places → IsReached places
    reached places is = record { offer = is.offer; holds = is.holds; costs = let same = is.costs in omega (arith, same) }

    made_two : (p r : ℕ) (a b : Alternate) → p < r → slice_get q.choices p ≡ Some a → slice_get q.choices r ≡ Some b
        → ((found_with (a ∷ [])).are_usable && (found_with (b ∷ [])).are_usable) ≡ true → IsMade (p ∷ r ∷ [])
    made_two p r a b less at and both = record {
      offer = record { places = Two p r; required = max (found_with (a ∷ [])).required (found_with (b ∷ [])).required };
      holds = has.two p r (found_with (a ∷ [])) (found_with (b ∷ [])) less (alone_at p a at) (alone_at r b and) both;
      at = refl;
      costs = sym (costs_two p r a b (let ne : p ≢ r = omega arith in ne) at and);
    }

    made : (places : List ℕ) → IsLegal q places → AreInOrder places → length places ≤ 2 → IsMade places
    made [] is order short = record { offer = record { places = Empty; required = (found_with []).required }; holds = has.none (legal_of [] is); at = refl; costs = refl }
    made (p ∷ []) is order short =
        let one = some_at q.choices p (All-head (λ place. place < length q.choices) p [] is.are_choices) in
        record {
          offer = record { places = One p; required = (found_with (one.0 ∷ [])).required };
          holds = has.one p (found_with (one.0 ∷ [])) (alone_at p one.0 one.1) (sym (ap (λ l. is_legal (found_with l)) (one_at p one.0 one.1)) ∙ legal_of (p ∷ []) is);
          at = refl;
          costs = sym (ap (λ l. (found_with l).required) (one_at p one.0 one.1));
        }
    made (p ∷ r ∷ []) is order short =
        let one = some_at q.choices p (All-head (λ place. place < length q.choices) p (r ∷ []) is.are_choices) in
        let two = some_at q.choices r (All-head (λ place. place < length q.choices) r [] (All-tail (λ place. place < length q.choices) p (r ∷ []) is.are_choices)) in
        let legal = sym (ap (λ l. is_legal (found_with l)) (two_at p r one.0 two.0 one.1 two.1)) ∙ legal_of (p ∷ r ∷ []) is in
        let both = (and_parts (found_with (one.0 ∷ two.0 ∷ [])).are_enough (found_with (one.0 ∷ two.0 ∷ [])).are_usable legal).1 in
        made_two p r one.0 two.0 (first_two Below p r [] order) one.1 two.1
        (sym (usable p r one.0 two.0 (first_two Differ p r [] is.different) one.1 two.1) ∙ both)
    made (p ∷ r ∷ s ∷ rest) is order short = absurd (omega (arith, short))

    reached_two : (p r : ℕ) (a b : Alternate) → p ≢ r → slice_get q.choices p ≡ Some a → slice_get q.choices r ≡ Some b → (found_with (a ∷ b ∷ [])).are_usable ≡ true → IsReached (p ∷ r ∷ [])
    reached_two p r a b ne at and both =
        let each = and_parts (found_with (a ∷ [])).are_usable (found_with (b ∷ [])).are_usable (sym (usable p r a b ne at and) ∙ both) in
        elim (cases_order p r) [
          | inl same ↦ absurd (ne same)
          | inr either ↦ elim either [
            | inl less ↦ reached (p ∷ r ∷ []) (made_two p r a b less at and (and_from (found_with (a ∷ [])).are_usable (found_with (b ∷ [])).are_usable each.0 each.1))
            | inr more ↦
                let other = made_two r p b a more and at (and_from (found_with (b ∷ [])).are_usable (found_with (a ∷ [])).are_usable each.1 each.0) in
                let one = costs_two p r a b ne at and in
                let two = costs_two r p b a (λ same. ne (sym same)) and at in
                record { offer = other.offer; holds = other.holds; costs = let same = other.costs in omega (arith, same, one, two) }
          ]
        ]

    reached_three : (p r s : ℕ) (a b d : Alternate) → AllPairs Differ (p ∷ r ∷ s ∷ []) → slice_get q.choices p ≡ Some a → slice_get q.choices r ≡ Some b → slice_get q.choices s ≡ Some d
        → is_legal (found_with (a ∷ b ∷ d ∷ [])) ≡ true → IsReached (p ∷ r ∷ s ∷ [])
    reached_three p r s a b d different at and then legal =
        let ne : p ≢ r = first_two Differ p r (s ∷ []) different in
        let all = subst (λ (l : List Alternate). found_with l ≡ verdict_at in_case leg l) (three_at p r s a b d at and then) (in_case_at (p ∷ r ∷ s ∷ []) (lit≤ tt) different) in
        let two = two_in_case p r a b ne at and in
        let three = sym (ap (λ (v : Verdict). v.are_usable) all) ∙ (and_parts (found_with (a ∷ b ∷ d ∷ [])).are_enough (found_with (a ∷ b ∷ d ∷ [])).are_usable legal).1 in
        let one = reached_two p r a b ne at and (ap (λ (v : Verdict). v.are_usable) two ∙ two_of_three in_case leg a b d three) in
        let less = three_require in_case leg a b d in
        let costs : cost q (p ∷ r ∷ []) ≡ (verdict_at in_case leg (a ∷ b ∷ [])).required = ap (λ l. (found_with l).required) (two_at p r a b at and) ∙ ap (λ (v : Verdict). v.required) two in
        let costs_more : cost q (p ∷ r ∷ s ∷ []) ≡ (verdict_at in_case leg (a ∷ b ∷ d ∷ [])).required = ap (λ l. (found_with l).required) (three_at p r s a b d at and then) ∙ ap (λ (v : Verdict). v.required) all in
        record { offer = one.offer; holds = one.holds; costs = let h = one.costs in omega (arith, h, costs, costs_more, less) }

    each_reached : (places : List ℕ) → IsLegal q places → IsReached places
    each_reached [] is = reached [] (made [] is (no_pairs Below) (omega arith))
    each_reached (p ∷ []) is = reached (p ∷ []) (made (p ∷ []) is (pairs_of_one Below p) (lit≤ tt))
    each_reached (p ∷ r ∷ []) is =
        let one = some_at q.choices p (All-head (λ place. place < length q.choices) p (r ∷ []) is.are_choices) in
        let two = some_at q.choices r (All-head (λ place. place < length q.choices) r [] (All-tail (λ place. place < length q.choices) p (r ∷ []) is.are_choices)) in
        let legal = sym (ap (λ l. is_legal (found_with l)) (two_at p r one.0 two.0 one.1 two.1)) ∙ legal_of (p ∷ r ∷ []) is in
        reached_two p r one.0 two.0 (first_two Differ p r [] is.different) one.1 two.1
        (and_parts (found_with (one.0 ∷ two.0 ∷ [])).are_enough (found_with (one.0 ∷ two.0 ∷ [])).are_usable legal).1
    each_reached (p ∷ r ∷ s ∷ []) is =
        let tail = All-tail (λ place. place < length q.choices) p (r ∷ s ∷ []) is.are_choices in
        let one = some_at q.choices p (All-head (λ place. place < length q.choices) p (r ∷ s ∷ []) is.are_choices) in
        let two = some_at q.choices r (All-head (λ place. place < length q.choices) r (s ∷ []) tail) in
        let three = some_at q.choices s (All-head (λ place. place < length q.choices) s [] (All-tail (λ place. place < length q.choices) r (s ∷ []) tail)) in
        reached_three p r s one.0 two.0 three.0 is.different one.1 two.1 three.1
        (sym (ap (λ l. is_legal (found_with l)) (three_at p r s one.0 two.0 three.0 one.1 two.1 three.1)) ∙ legal_of (p ∷ r ∷ s ∷ []) is)
    each_reached (p ∷ r ∷ s ∷ t ∷ rest) is = absurd (let few = is.few in omega (arith, few))

  -- The offer that is found

  short_places : (places : Places) → length (places_in places) ≤ 2
  short_places Empty = omega arith
  short_places (One a) = lit≤ tt
  short_places (Two a b) = lit≤ tt

  good_is_least : (o : Offer) (places : List ℕ) (required : ℕ) → IsAsGood o places required → o.required ≤ required
  good_is_least o places required good = elim good [
    | inl less ↦ omega (arith, less)
    | inr same ↦ let e = same.0 in omega (arith, e)
  ]

  -- at the same cost a good offer comes first
  good_precedes : (o : Offer) (places : List ℕ) (required : ℕ) → IsAsGood o places required → required ≡ o.required → Precedes (places_in o.places) places
  good_precedes o places required good same = elim good [
    | inl less ↦ absurd (omega (arith, less, same))
    | inr first ↦ first.1
  ]

  precedes_is_short : (these others : List ℕ) → Precedes these others → length these ≤ length others
  precedes_is_short these others first = elim first [
    | inl less ↦ omega (arith, less)
    | inr same ↦ let e = same.0 in omega (arith, e)
  ]

  precedes_in_order : (these others : List ℕ) → Precedes these others → length others ≡ length these → IsNotAfter these others
  precedes_in_order these others first same = elim first [
    | inl less ↦ absurd (omega (arith, less, same))
    | inr after ↦ after.1
  ]

  module _ (o : Offer) (good : IsGood o) (beats : HoldsOfEach (λ other. IsAsGood o (places_in other.places) other.required) (found_with []) alone) where
    comes_first : (places : List ℕ) → IsLegal q places → AreInOrder places → cost q places ≡ cost q (places_in o.places) → length places ≤ 2 → Precedes (places_in o.places) places
    comes_first places is order same short =
        let one = made (λ other. IsAsGood o (places_in other.places) other.required) beats places is order short in
        subst (Precedes (places_in o.places)) one.at
        (good_precedes o (places_in one.offer.places) one.offer.required one.holds (one.costs ∙ same ∙ good.costs))

    is_least : (places : List ℕ) → IsLegal q places → cost q (places_in o.places) ≤ cost q places
    is_least places is =
        let one = each_reached (λ other. IsAsGood o (places_in other.places) other.required) beats places is in
        let least = good_is_least o (places_in one.offer.places) one.offer.required one.holds in
        let costs = one.costs in
        let same = good.costs in
        omega (arith, least, costs, same)

    is_fewest : (places : List ℕ) → IsLegal q places → AreInOrder places → cost q places ≡ cost q (places_in o.places) → length (places_in o.places) ≤ length places
    is_fewest places is order same = elim (cases_lt 2 (length places)) [
      | inl long ↦ let short = short_places o.places in omega (arith, long, short)
      | inr short ↦ precedes_is_short (places_in o.places) places (comes_first places is order same short)
    ]

    is_first : (places : List ℕ) → IsLegal q places → AreInOrder places → cost q places ≡ cost q (places_in o.places) → length places ≡ length (places_in o.places) → IsNotAfter (places_in o.places) places
    is_first places is order same alike =
        precedes_in_order (places_in o.places) places
        (comes_first places is order same (let short = short_places o.places in omega (arith, alike, short))) alike

    best : IsBest q (places_in o.places)
    best = record { legal = good.legal; in_order = good.in_order; least = is_least; fewest = is_fewest; first = is_first }

  advises_found : Advises q (advice_by found_with q.choices)
  advises_found = by (found_among found_with q.choices) (found_has IsGood (found_with []) alone each_good) (is_found (found_with []) alone)
    where
      by : (o : Option Offer) → IfSome o IsGood → IsFound (found_with []) alone o → Advises q (option_map (advice_at q.choices) o)
      by None good none = λ places is. (each_reached (λ o. ⊥) none places is).holds
      by (Some o) good beats = record { places = places_in o.places; best = best o good beats; alternates = refl; required = sym good.costs }

pub advises : (plan : Plan) (phase : Phase) (number : ℕ) (candidates : List Candidate) (g : Grounds) → plan_fault g.tables plan ≡ None → 1 ≤ number → number ≤ length plan.legs
    → (standing phase number ≡ Flown → ⊥) → AreCandidates g.tables plan candidates
    → Advises (question plan phase number candidates g) (advice_by (verdict_of plan phase number g) (choices_for number candidates))
advises plan phase number candidates g valid low high still are =
    let leg = numbered number 1 plan.legs low (omega (arith, high)) in
    advises_found (question plan phase number candidates g) leg.0 valid leg.1 still (choices_are g.tables plan number leg.0 candidates leg.1 are)
