-- Raised minima are what the landing minima give, and all of it.
use Rattle.std.proofs.Common.{◌≡◌, suc, List, [], ◌∷◌, ◌++◌, map, All, Contains, refl, sym, subst, arith}
use Rattle.std.proofs.lemmas.List.Elements.{All-nil, All-cons, All-map, All-append, All-contains_itself, Contains-append_left, Contains-append_right, All-weaker}
use Rattle.desk_io.specs.declared.pair.Pair.{Pair}
use Rattle.airport_minima.specs.Raised.{raised_freely, raised_to, raised_by, each_raised, raised}
use Rattle.airport_minima.specs.FewHours.{IsRaisedFreely, IsRaisedTo, IsRaised, IsAtOrOver, AreRaised}
use Rattle.airport_minima.specs.FewHours.IsRaised.{Freely, To}
use Rattle.airport_minima.proofs.AlternateLaws.{same_pair, mapped}

freely_is : (l pair : Pair) → IsRaisedFreely l pair → raised_freely l ≡ pair
freely_is l pair is = same_pair (raised_freely l) pair (sym is.ceiling) (sym is.visibility)

to_is : (l a pair : Pair) → IsRaisedTo l a pair → raised_to l a ≡ pair
to_is l a pair is = same_pair (raised_to l a) pair (sym is.ceiling) (sym is.visibility)

-- each is given by some of the landing minima
by_given : (landing alternate : List Pair) (l : Pair) → Contains landing l → All (IsRaised landing alternate) (raised_by alternate l)
by_given landing [] l here =
    All-cons (IsRaised landing []) (raised_freely l) [] (Freely l here refl (record { ceiling = refl; visibility = refl })) (All-nil (IsRaised landing []))
by_given landing (first ∷ others) l here =
    let alternate : List Pair = first ∷ others in
    All-map (IsRaised landing alternate) (λ a. raised_to l a) alternate
    (All-weaker (Contains alternate) (λ a. IsRaised landing alternate (raised_to l a)) (λ a there. To l a here there (record { ceiling = refl; visibility = refl })) alternate (All-contains_itself alternate))

each_given : (landing alternate some : List Pair) → All (Contains landing) some → All (IsRaised landing alternate) (each_raised some alternate)
each_given landing alternate [] there = All-nil (IsRaised landing alternate)
each_given landing alternate (l ∷ others) there =
    All-append (IsRaised landing alternate) (raised_by alternate l) (each_raised others alternate) (by_given landing alternate l (there 0 l (omega arith)))
    (each_given landing alternate others (λ k d within. there (suc k) d (omega (arith, within))))

-- all that they give is there
abbrev FreelyIn : List Pair → Pair → Type 0
FreelyIn pairs l = (pair : Pair) → IsRaisedFreely l pair → Contains pairs pair

abbrev ToIn : List Pair → Pair → Pair → Type 0
ToIn pairs l a = (pair : Pair) → IsRaisedTo l a pair → Contains pairs pair

freely_come : (some : List Pair) → All (FreelyIn (each_raised some [])) some
freely_come [] = All-nil (FreelyIn [])
freely_come (l ∷ others) =
    let one : List Pair = raised_freely l ∷ [] in
    let more = each_raised others [] in
    All-cons (FreelyIn (one ++ more)) l others
    (λ pair is. Contains-append_left one more pair (subst (Contains one) (freely_is l pair is) (0, omega arith, refl)))
    (All-weaker (FreelyIn more) (FreelyIn (one ++ more)) (λ x comes pair is. Contains-append_right one more pair (comes pair is)) others (freely_come others))

to_one : (alternate : List Pair) (l a pair : Pair) → Contains alternate a → IsRaisedTo l a pair → Contains (raised_by alternate l) pair
to_one [] l a pair there is = absurd (let within = there.1 in omega (arith, within))
to_one (first ∷ others) l a pair there is =
    subst (Contains (map (λ it. raised_to l it) (first ∷ others))) (to_is l a pair is) (mapped (λ it. raised_to l it) (first ∷ others) a there)

to_come : (alternate some : List Pair) → All (λ l. All (ToIn (each_raised some alternate) l) alternate) some
to_come alternate [] = All-nil (λ l. All (ToIn [] l) alternate)
to_come alternate (l ∷ others) =
    let one = raised_by alternate l in
    let more = each_raised others alternate in
    All-cons (λ x. All (ToIn (one ++ more) x) alternate) l others
    (All-weaker (Contains alternate) (ToIn (one ++ more) l) (λ a there pair is. Contains-append_left one more pair (to_one alternate l a pair there is)) alternate (All-contains_itself alternate))
    (All-weaker (λ x. All (ToIn more x) alternate) (λ x. All (ToIn (one ++ more) x) alternate)
    (λ x all. All-weaker (ToIn more x) (ToIn (one ++ more) x) (λ a comes pair is. Contains-append_right one more pair (comes pair is)) alternate all) others (to_come alternate others))

-- none is lower than what it comes of
over : (landing alternate : List Pair) (pair : Pair) → IsRaised landing alternate pair → IsAtOrOver landing pair
over landing alternate pair (Freely l here none is) =
    let ceiling = is.ceiling in
    let visibility = is.visibility in
    (here.0, l, here.1, here.2, (omega (arith, ceiling), omega (arith, visibility)))
over landing alternate pair (To l a here there is) =
    let ceiling = is.ceiling in
    let visibility = is.visibility in
    (here.0, l, here.1, here.2, (omega (arith, ceiling), omega (arith, visibility)))

pub are_raised : (landing alternate pairs : List Pair) → pairs ≡ raised landing alternate → AreRaised landing alternate pairs
unfolding raised
are_raised landing alternate pairs e =
    rw e (record {
      only = each_given landing alternate landing (All-contains_itself landing);
      freely = λ none. subst (λ some. All (FreelyIn (each_raised landing some)) landing) (sym none) (freely_come landing);
      to_each = to_come alternate landing;
      none_is_lower = All-weaker (IsRaised landing alternate) (IsAtOrOver landing) (over landing alternate) (each_raised landing alternate)
          (each_given landing alternate landing (All-contains_itself landing));
    })
