-- What becomes of the floors of persons when replies are swept away.
use Rattle.std.proofs.Common.{◌≡◌, ℕ, ◌≤◌, arith, eq-eqb, cond, Bool, true, false, ◌⊎◌, inl, inr, List, [], ◌∷◌, Option, None, Some, refl, ap, sym, ◌∙◌, subst}
use Rattle.std.specs.Prelude.{max, nat_le}
use Rattle.std.specs.List.{AllByRecursion, list_any}
use Rattle.std.specs.Ordering.{is_eq, nat_cmp, ordering_reverse}
use Rattle.std.specs.declared.cmp.Ordering.{Ordering}
use Rattle.std.specs.declared.cmp.Ordering.TheVariants.{Less, Equal, Greater}
use Rattle.std.specs.Cmp.Lexicographic.{slice_cmp}
use Rattle.std.specs.Str.{bytes_eq}
use Rattle.std.proofs.lemmas.Cmp.{nat_list_cmp_total}
use Rattle.std.proofs.lemmas.Bool.{leb-true, leb-false, or_right}
use Rattle.std.proofs.lemmas.Map.Text.{is_eq-slice_cmp}
use Rattle.std.proofs.lemmas.Slice.Eq.{bytes_eq-Decides}
use Rattle.asks.specs.declared.kept.Floor.{Floor}
use Rattle.asks.specs.declared.kept.KeptReply.{KeptReply}
use Rattle.asks.specs.Forms.{FloorsRise}
use Rattle.desk_state.specs.Once.{IsCovered}
use Rattle.desk_state.specs.Requests.{is_request, floor, floor_at, raised_here, raised_to, raised_by}
use Rattle.desk_state.proofs.FloorForms.{all_later, raised_rises}

-- ---- one floor that rises

still_equal : (o : Ordering) → is_eq (ordering_reverse o) ≡ is_eq o
still_equal Less = refl
still_equal Equal = refl
still_equal Greater = refl

-- whether two names are the same, by their order
same_by : (a b : List ℕ) (o : Ordering) → slice_cmp nat_cmp a b ≡ o → bytes_eq b a ≡ is_eq o
same_by a b o e = sym (is_eq-slice_cmp b a) ∙ ap is_eq (nat_list_cmp_total.antisymm b a ∙ ap ordering_reverse e) ∙ still_equal o

floor_first : (who : List ℕ) (f : Floor) (fs : List Floor) (b : Bool) → bytes_eq f.actor who ≡ b → floor_at who (f ∷ fs) ≡ cond b (Some f.number) (floor_at who fs)
floor_first who f fs true e = rw e refl
floor_first who f fs false e = rw e refl

-- a person has no floor where all are of persons that come later
none_below : (who : List ℕ) (fs : List Floor) → AllByRecursion (λ (g : Floor). slice_cmp nat_cmp who g.actor ≡ Less) fs → floor_at who fs ≡ None
none_below who [] below = refl
none_below who (f ∷ fs) below = floor_first who f fs false (same_by who f.actor Less below.0) ∙ none_below who fs below.1

-- the greater of a number and of a floor
abbrev over : Option ℕ → ℕ → ℕ
over None number = number
over (Some low) number = max low number

-- the floor of someone where that of a person rises to a number
abbrev RisesAs : List ℕ → List ℕ → ℕ → List Floor → List Floor → Type 0
RisesAs who actor number fs raised = floor_at who raised ≡ cond (bytes_eq actor who) (Some (over (floor_at actor fs) number)) (floor_at who fs)

equal_by : (who actor : List ℕ) (number : ℕ) (f : Floor) (fs : List Floor) (b : Bool) → bytes_eq f.actor actor ≡ true → bytes_eq f.actor who ≡ b → bytes_eq actor who ≡ b
    → RisesAs who actor number (f ∷ fs) (floor f.actor (max f.number number) ∷ fs)
equal_by who actor number f fs true named one two = rw (named, one, two) refl
equal_by who actor number f fs false named one two = rw (named, one, two) refl

greater_by : (who actor : List ℕ) (number : ℕ) (f : Floor) (fs raised : List Floor) (b : Bool) → bytes_eq f.actor actor ≡ false → bytes_eq f.actor who ≡ b
    → (b ≡ true → bytes_eq actor who ≡ false) → RisesAs who actor number fs raised → RisesAs who actor number (f ∷ fs) (f ∷ raised)
greater_by who actor number f fs raised true named one apart is = let two = apart refl in rw (named, one, two) refl
greater_by who actor number f fs raised false named one apart is = rw (named, one) is

-- a name that is another's isn't one that differs from it
apart_by : (actor key who : List ℕ) → slice_cmp nat_cmp actor key ≡ Greater → bytes_eq key who ≡ true → bytes_eq actor who ≡ false
apart_by actor key who e is = ap (bytes_eq actor) (sym ((bytes_eq-Decides key who).0 is)) ∙ sym (is_eq-slice_cmp actor key) ∙ ap is_eq e

here_rises : (who actor : List ℕ) (number : ℕ) (f : Floor) (fs raised : List Floor) (o : Ordering) → slice_cmp nat_cmp actor f.actor ≡ o → FloorsRise (f ∷ fs)
    → RisesAs who actor number fs raised → RisesAs who actor number (f ∷ fs) (raised_here o actor number f fs raised)
here_rises who actor number f fs raised Less e rising is =
    let none : floor_at actor (f ∷ fs) ≡ None = none_below actor (f ∷ fs) (e, all_later actor f.actor fs e rising.0) in
    floor_first who (floor actor number) (f ∷ fs) (bytes_eq actor who) refl
    ∙ ap (λ (o : Option ℕ). cond (bytes_eq actor who) (Some (over o number)) (floor_at who (f ∷ fs))) (sym none)
here_rises who actor number f fs raised Equal e rising is =
    let named : bytes_eq f.actor actor ≡ true = same_by actor f.actor Equal e in
    equal_by who actor number f fs (bytes_eq f.actor who) named refl (ap (λ (name : List ℕ). bytes_eq name who) (sym ((bytes_eq-Decides f.actor actor).0 named)))
here_rises who actor number f fs raised Greater e rising is =
    greater_by who actor number f fs raised (bytes_eq f.actor who) (same_by actor f.actor Greater e) refl (apart_by actor f.actor who e) is

floor_rises : (who actor : List ℕ) (number : ℕ) (fs : List Floor) → FloorsRise fs → RisesAs who actor number fs (raised_to actor number fs)
floor_rises who actor number [] rising = floor_first who (floor actor number) [] (bytes_eq actor who) refl
floor_rises who actor number (f ∷ fs) rising =
    here_rises who actor number f fs (raised_to actor number fs) (slice_cmp nat_cmp actor f.actor) refl rising (floor_rises who actor number fs rising.1)

-- ---- what floors cover

over_covers : (o : Option ℕ) (number covered : ℕ) → IsCovered o covered → covered ≤ over o number
over_covers None number covered is = absurd is
over_covers (Some low) number covered is = omega (arith, is)

over_number : (o : Option ℕ) (number : ℕ) → number ≤ over o number
over_number None number = omega arith
over_number (Some low) number = omega arith

still_by : (who actor : List ℕ) (number covered : ℕ) (fs : List Floor) (b : Bool) → bytes_eq actor who ≡ b → IsCovered (floor_at who fs) covered
    → IsCovered (cond b (Some (over (floor_at actor fs) number)) (floor_at who fs)) covered
still_by who actor number covered fs true e is =
    over_covers (floor_at actor fs) number covered (subst (λ (name : List ℕ). IsCovered (floor_at name fs) covered) (sym ((bytes_eq-Decides actor who).0 e)) is)
still_by who actor number covered fs false e is = is

-- what a floor covers it covers once floors rise
pub still_covered : (ks : List KeptReply) (fs : List Floor) (who : List ℕ) (covered : ℕ) → FloorsRise fs → IsCovered (floor_at who fs) covered
    → IsCovered (floor_at who (raised_by ks fs)) covered
still_covered [] fs who covered rising is = is
still_covered (k ∷ ks) fs who covered rising is =
    still_covered ks (raised_to k.actor k.number fs) who covered (raised_rises k.actor k.number fs rising)
    (subst (λ (o : Option ℕ). IsCovered o covered) (sym (floor_rises who k.actor k.number fs rising)) (still_by who k.actor k.number covered fs (bytes_eq k.actor who) refl is))

covers_own : (actor : List ℕ) (number : ℕ) (fs : List Floor) → FloorsRise fs → IsCovered (floor_at actor (raised_to actor number fs)) number
covers_own actor number fs rising =
    let own : floor_at actor (raised_to actor number fs) ≡ Some (over (floor_at actor fs) number) =
    floor_rises actor actor number fs rising ∙ ap (λ (b : Bool). cond b (Some (over (floor_at actor fs) number)) (floor_at actor fs)) ((bytes_eq-Decides actor actor).1 refl) in
    subst (λ (o : Option ℕ). IsCovered o number) (sym own) (over_number (floor_at actor fs) number)

-- the number of each reply that goes is covered
pub all_covered : (ks : List KeptReply) (fs : List Floor) → FloorsRise fs → AllByRecursion (λ k. IsCovered (floor_at k.actor (raised_by ks fs)) k.number) ks
all_covered [] fs rising = tt
all_covered (k ∷ ks) fs rising =
    let higher : FloorsRise (raised_to k.actor k.number fs) = raised_rises k.actor k.number fs rising in
    (still_covered ks (raised_to k.actor k.number fs) k.actor k.number higher (covers_own k.actor k.number fs rising), all_covered ks (raised_to k.actor k.number fs) higher)

-- ---- whence a floor has its number

asked_here : (who : List ℕ) (number : ℕ) (k : KeptReply) (ks : List KeptReply) → bytes_eq k.actor who ≡ true → k.number ≡ number → list_any (is_request who number) (k ∷ ks) ≡ true
asked_here who number k ks named is = rw (eq-eqb k.number number is, named) refl

some_same : (m n : ℕ) → Some m ≡ Some n → m ≡ n
some_same m n e = cc

greatest_by : (who : List ℕ) (number low : ℕ) (k : KeptReply) (ks : List KeptReply) (fs : List Floor) (b : Bool) → nat_le k.number low ≡ b → bytes_eq k.actor who ≡ true
    → floor_at who fs ≡ Some low → max low k.number ≡ number → (floor_at who fs ≡ Some number) ⊎ (list_any (is_request who number) (k ∷ ks) ≡ true)
greatest_by who number low k ks fs true e named has is =
    let less = leb-true k.number low e in inl (has ∙ ap (λ (n : ℕ). Some n) (omega (arith, less, is)))
greatest_by who number low k ks fs false e named has is =
    let more = leb-false k.number low e in inr (asked_here who number k ks named (omega (arith, more, is)))

own_by : (who : List ℕ) (number : ℕ) (k : KeptReply) (ks : List KeptReply) (fs : List Floor) (o : Option ℕ) → bytes_eq k.actor who ≡ true → floor_at who fs ≡ o
    → over o k.number ≡ number → (floor_at who fs ≡ Some number) ⊎ (list_any (is_request who number) (k ∷ ks) ≡ true)
own_by who number k ks fs None named has is = inr (asked_here who number k ks named is)
own_by who number k ks fs (Some low) named has is = greatest_by who number low k ks fs (nat_le k.number low) refl named has is

one_by : (who : List ℕ) (number : ℕ) (k : KeptReply) (ks : List KeptReply) (fs : List Floor) (b : Bool) → bytes_eq k.actor who ≡ b
    → cond b (Some (over (floor_at k.actor fs) k.number)) (floor_at who fs) ≡ Some number → (floor_at who fs ≡ Some number) ⊎ (list_any (is_request who number) (k ∷ ks) ≡ true)
one_by who number k ks fs false e is = inl is
one_by who number k ks fs true e is =
    own_by who number k ks fs (floor_at k.actor fs) e (ap (λ (name : List ℕ). floor_at name fs) (sym ((bytes_eq-Decides k.actor who).0 e)))
    (some_same (over (floor_at k.actor fs) k.number) number is)

-- a floor is what it was, or the number of a reply that goes
pub whence : (ks : List KeptReply) (fs : List Floor) (who : List ℕ) (number : ℕ) → FloorsRise fs → floor_at who (raised_by ks fs) ≡ Some number
    → (floor_at who fs ≡ Some number) ⊎ (list_any (is_request who number) ks ≡ true)
whence [] fs who number rising is = inl is
whence (k ∷ ks) fs who number rising is = next (whence ks (raised_to k.actor k.number fs) who number (raised_rises k.actor k.number fs rising) is)
  where
    next : (floor_at who (raised_to k.actor k.number fs) ≡ Some number) ⊎ (list_any (is_request who number) ks ≡ true)
        → (floor_at who fs ≡ Some number) ⊎ (list_any (is_request who number) (k ∷ ks) ≡ true)
    next (inl e) = one_by who number k ks fs (bytes_eq k.actor who) refl (sym (floor_rises who k.actor k.number fs rising) ∙ e)
    next (inr later) = inr (or_right (is_request who number k) (list_any (is_request who number) ks) later)
