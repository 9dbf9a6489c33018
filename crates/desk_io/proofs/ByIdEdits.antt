-- What edits of values in rising order of their ids do, and that the ids still rise.
use Rattle.std.proofs.Common.{◌≡◌, refl, sym, ap, ◌∙◌, subst, ℕ, zero, suc, ◌<◌, Bool, true, false, List, [], ◌∷◌, length, set, filter, arith}
use denote.Ref.{Bor}
use denote.Param.Members.{Mut}
use Rattle.std.specs.List.{insert, remove, items_where_true}
use Rattle.std.proofs.lemmas.List.Quantifiers.{all_pairs_remove}
use Rattle.std.specs.List.Retain.{ReturnsInTurn, IsFiltered}
use Rattle.std.specs.Fn.{CalledAt, ComputesKey}
use Rattle.desk_io.specs.ById.{AreRising, replaced, put, StandsAt, GoesAt, IsFoundAt, IsGapAt}
use Rattle.desk_io.proofs.ByIdLaws.{same, lower, higher, below, not_below, Above, Rise, rise, rising, higher_above}

module _ {T : Type 0} (id_of : T → ℕ) where
  each_where : (n : ℕ) (bs : List Bool) (xs : List T) → Above id_of n xs → Above id_of n (items_where_true bs xs)
  each_where n [] xs all = tt
  each_where n (b ∷ bs) [] all = tt
  each_where n (true ∷ bs) (x ∷ xs) all = (all.0, each_where n bs xs all.1)
  each_where n (false ∷ bs) (x ∷ xs) all = each_where n bs xs all.1

  part : (bs : List Bool) (xs : List T) → Rise id_of xs → Rise id_of (items_where_true bs xs)
  part [] xs all = tt
  part (b ∷ bs) [] all = tt
  part (true ∷ bs) (x ∷ xs) all = (each_where (id_of x) bs xs all.0, part bs xs all.1)
  part (false ∷ bs) (x ∷ xs) all = part bs xs all.1

  -- what a test leaves, whatever it answers
  pub rising_part : {P : Type 0} (R : P → T → Bool → P → Type 0) (p : P) (xs ys : List T) → IsFiltered R p xs ys → AreRising id_of xs → AreRising id_of ys
  rising_part R p xs ys is pairs = subst (AreRising id_of) (sym is.4) (rising id_of (items_where_true is.0 xs) (part is.0 xs (rise id_of xs pairs)))

  -- one that is there goes
  pub rising_without : (id : ℕ) (xs seen fresh : List T) (i : ℕ) → xs ≡ seen → IsFoundAt id_of id seen i → fresh ≡ remove xs i → AreRising id_of xs → AreRising id_of fresh
  rising_without id xs seen fresh i view is after pairs =
      subst (AreRising id_of) (sym after) (all_pairs_remove (λ a b. id_of a < id_of b) xs i (subst (λ ys. i < length ys) (sym view) is.within) pairs)

  module _ (x : T) where
    -- In the place of the one of its id.

    over : (ys : List T) (i : ℕ) → StandsAt id_of (id_of x) ys i → set ys i x ≡ replaced id_of x ys
    over [] i at = absurd at
    over (y ∷ ys) zero at = rw (same (id_of y) (id_of x) at) refl
    over (y ∷ ys) (suc i) at = rw (lower (id_of y) (id_of x) at.0) (ap (λ zs. y ∷ zs) (over ys i at.1))

    put_over : (ys : List T) (i : ℕ) → StandsAt id_of (id_of x) ys i → set ys i x ≡ put id_of x ys
    put_over [] i at = absurd at
    put_over (y ∷ ys) zero at = rw (same (id_of y) (id_of x) at) refl
    put_over (y ∷ ys) (suc i) at = rw (lower (id_of y) (id_of x) at.0, not_below (id_of x) (id_of y) at.0) (ap (λ zs. y ∷ zs) (put_over ys i at.1))

    above_over : (n : ℕ) (ys : List T) (i : ℕ) → n < id_of x → Above id_of n ys → Above id_of n (set ys i x)
    above_over n [] i one all = tt
    above_over n (y ∷ ys) zero one all = (one, all.1)
    above_over n (y ∷ ys) (suc i) one all = (all.0, above_over n ys i one all.1)

    rise_over : (ys : List T) (i : ℕ) → StandsAt id_of (id_of x) ys i → Rise id_of ys → Rise id_of (set ys i x)
    rise_over [] i at all = tt
    rise_over (y ∷ ys) zero at all = (higher_above id_of (id_of x) (id_of y) ys (omega (arith, at)) all.0, all.1)
    rise_over (y ∷ ys) (suc i) at all = (above_over (id_of y) ys i at.0 all.0, rise_over ys i at.1 all.1)

    -- Where none has its id.

    stays_above : (ys : List T) → Above id_of (id_of x) ys → ys ≡ replaced id_of x ys
    stays_above [] all = refl
    stays_above (y ∷ ys) all = rw (higher (id_of y) (id_of x) all.0) (ap (λ zs. y ∷ zs) (stays_above ys all.1))

    stays : (ys : List T) (i : ℕ) → Rise id_of ys → GoesAt id_of (id_of x) ys i → ys ≡ replaced id_of x ys
    stays [] i all at = refl
    stays (y ∷ ys) zero all at = stays_above (y ∷ ys) (at, higher_above id_of (id_of x) (id_of y) ys (omega (arith, at)) all.0)
    stays (y ∷ ys) (suc i) all at = rw (lower (id_of y) (id_of x) at.0) (ap (λ zs. y ∷ zs) (stays ys i all.1 at.1))

    put_between : (ys : List T) (i : ℕ) → GoesAt id_of (id_of x) ys i → insert ys i x ≡ put id_of x ys
    put_between [] zero at = refl
    put_between [] (suc i) at = absurd at
    put_between (y ∷ ys) zero at = rw (higher (id_of y) (id_of x) at, below (id_of x) (id_of y) at) refl
    put_between (y ∷ ys) (suc i) at = rw (lower (id_of y) (id_of x) at.0, not_below (id_of x) (id_of y) at.0) (ap (λ zs. y ∷ zs) (put_between ys i at.1))

    above_between : (n : ℕ) (ys : List T) (i : ℕ) → GoesAt id_of (id_of x) ys i → n < id_of x → Above id_of n ys → Above id_of n (insert ys i x)
    above_between n [] zero at one all = (one, tt)
    above_between n [] (suc i) at one all = absurd at
    above_between n (y ∷ ys) zero at one all = (one, all)
    above_between n (y ∷ ys) (suc i) at one all = (all.0, above_between n ys i at.1 one all.1)

    rise_between : (ys : List T) (i : ℕ) → GoesAt id_of (id_of x) ys i → Rise id_of ys → Rise id_of (insert ys i x)
    rise_between [] zero at all = (tt, tt)
    rise_between [] (suc i) at all = absurd at
    rise_between (y ∷ ys) zero at all = ((at, higher_above id_of (id_of x) (id_of y) ys (omega (arith, at)) all.0), all)
    rise_between (y ∷ ys) (suc i) at all = (above_between (id_of y) ys i at.1 at.0 all.0, rise_between ys i at.1 all.1)

    -- Of values that are seen.

    pub replace_found : (ys seen : List T) (i : ℕ) → ys ≡ seen → IsFoundAt id_of (id_of x) seen i → set ys i x ≡ replaced id_of x seen
    replace_found ys seen i view is = ap (λ zs. set zs i x) view ∙ over seen i is.stands

    pub replace_none : (seen : List T) (i : ℕ) → AreRising id_of seen → IsGapAt id_of (id_of x) seen i → seen ≡ replaced id_of x seen
    replace_none seen i pairs is = stays seen i (rise id_of seen pairs) is.goes

    pub put_found : (ys seen : List T) (i : ℕ) → ys ≡ seen → IsFoundAt id_of (id_of x) seen i → set ys i x ≡ put id_of x seen
    put_found ys seen i view is = ap (λ zs. set zs i x) view ∙ put_over seen i is.stands

    pub put_gap : (ys seen fresh : List T) (i : ℕ) → ys ≡ seen → IsGapAt id_of (id_of x) seen i → fresh ≡ insert ys i x → fresh ≡ put id_of x seen
    put_gap ys seen fresh i view is after = after ∙ ap (λ zs. insert zs i x) view ∙ put_between seen i is.goes

    pub rising_found : (ys seen : List T) (i : ℕ) → ys ≡ seen → IsFoundAt id_of (id_of x) seen i → AreRising id_of ys → AreRising id_of (set ys i x)
    rising_found ys seen i view is pairs =
        rising id_of (set ys i x) (rise_over ys i (subst (λ zs. StandsAt id_of (id_of x) zs i) (sym view) is.stands) (rise id_of ys pairs))

    pub rising_gap : (ys seen fresh : List T) (i : ℕ) → ys ≡ seen → IsGapAt id_of (id_of x) seen i → fresh ≡ insert ys i x → AreRising id_of ys → AreRising id_of fresh
    rising_gap ys seen fresh i view is after pairs =
        subst (AreRising id_of) (sym after)
        (rising id_of (insert ys i x) (rise_between ys i (subst (λ zs. GoesAt id_of (id_of x) zs i) (sym view) is.goes) (rise id_of ys pairs)))

-- What a test leaves that answers by a function.
module _ {T F : Type 0} (g : Mut F (Bor T × Unit {0}) Bool) (p : T → Bool) where
  in_turn : (f last : F) (bs : List Bool) (xs : List T) → length bs ≡ length xs → ReturnsInTurn (CalledAt g) f bs xs last → ComputesKey g p f → items_where_true bs xs ≡ filter p xs
  in_turn f last [] [] same turns computes = refl
  in_turn f last [] (x ∷ xs) same turns computes = absurd (omega (arith, same))
  in_turn f last (b ∷ bs) [] same turns computes = absurd turns
  in_turn f last (b ∷ bs) (x ∷ xs) same turns computes =
      let call = turns.1 in
      let answer = (computes.at ((call.shown, tt) ∷ []) b turns.0 call.called).0 in
      by b (subst (λ y. b ≡ p y) call.shows answer)
      (in_turn turns.0 last bs xs (omega (arith, same)) turns.2 (record { at = λ more. (computes.at ((call.shown, tt) ∷ more) b turns.0 call.called).1 }))
    where
      by : (r : Bool) → r ≡ p x → items_where_true bs xs ≡ filter p xs → items_where_true (r ∷ bs) (x ∷ xs) ≡ filter p (x ∷ xs)
      by true is rest = rw (sym is) (ap (λ ys. x ∷ ys) rest)
      by false is rest = rw (sym is) rest

  pub filtered : (f : F) (xs ys : List T) → IsFiltered (CalledAt g) f xs ys → ComputesKey g p f → ys ≡ filter p xs
  filtered f xs ys is computes = is.4 ∙ in_turn f is.1 is.0 xs is.2 is.3 computes
