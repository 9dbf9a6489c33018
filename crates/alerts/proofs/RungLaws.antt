-- Bells that are rung twice are rung for all of it.
use Rattle.std.proofs.Common.{◌≡◌, ℕ, zero, suc, ◌+◌, Bool, true, false, ◌<◌, List, [], ◌∷◌, ◌++◌, length, length-append, map, get_or, set, if◌then◌else◌, Option, None, Some, take, arith, refl, sym, ap, subst, ◌∙◌}
use Rattle.std.proofs.lemmas.List.Elements.{filter-append}
use Rattle.std.proofs.lemmas.Bool.{true≢false}
use Rattle.std.proofs.lemmas.List.{take_more}
use Rattle.std.specs.List.{AllZip}
use Rattle.std.specs.Option.{option_map}
use Rattle.alerts.specs.declared.notices.Notice.{Notice}
use Rattle.alerts.specs.Ringing.{Hung, Hears, FailsAmong, IsRungFor, AreRungFor, AreRung, concerns, due, namesake}
use Rattle.desk_io.proofs.HealthLaws.{stays, goes_on, failed_last}
use Rattle.desk_io.specs.Health.{GoesOn, HasFailed}
use Rattle.desk_io.specs.Planned.{after}

append_none : {A : Type 0} (xs : List A) → xs ++ [] ≡ xs
append_none [] = refl
append_none (x ∷ xs) = ap (λ more. x ∷ more) (append_none xs)

append_assoc : {A : Type 0} (xs ys zs : List A) → (xs ++ ys) ++ zs ≡ xs ++ (ys ++ zs)
append_assoc [] ys zs = refl
append_assoc (x ∷ xs) ys zs = ap (λ more. x ∷ more) (append_assoc xs ys zs)

told_none : (told : Option (List Notice)) → told ≡ option_map (λ all. all ++ []) told
told_none None = refl
told_none (Some all) = ap (λ more. Some more) (sym (append_none all))

told_on : (told : Option (List Notice)) (xs ys : List Notice)
    → option_map (λ all. all ++ ys) (option_map (λ all. all ++ xs) told) ≡ option_map (λ all. all ++ (xs ++ ys)) told
told_on None xs ys = refl
told_on (Some all) xs ys = ap (λ more. Some more) (append_assoc all xs ys)

hears_none : (a : Hung) → Hears [] a a
hears_none a = record { place = refl; desk = refl; told = told_none a.bell.heard; count = λ under. omega (arith, under); health = stays a.bell.health }

hears_on : (xs ys : List Notice) (a b c : Hung) → Hears xs a b → Hears ys b c → Hears (xs ++ ys) a c
hears_on xs ys a b c one two = record {
  place = two.place ∙ one.place;
  desk = two.desk ∙ one.desk;
  told = two.told ∙ ap (option_map (λ all. all ++ ys)) one.told ∙ told_on a.bell.heard xs ys;
  count = λ under.
      let first = one.count under in
      let later = two.count (omega (arith, first)) in
      let long = length-append xs ys in
      omega (arith, first, later, long);
  health = goes_on a.bell.health b.bell.health c.bell.health one.health two.health;
}

-- ---- two times, and none

both : {A : Type 0} {b : Bool} → b ≡ true → b ≡ false → A
both one other = absurd (true≢false (sym one ∙ other))

stays_on : (f g : List ℕ → List Notice) (a b c : Hung) (s : Bool) → b.stays ≡ s → IsRungFor f a b → IsRungFor g b c → a.stays ≡ true → c.stays ≡ true
    → Hears (f a.bell.desk ++ g a.bell.desk) a c
stays_on f g a b c true is one two first last =
    let heard : Hears (f a.bell.desk) a b = one.stays first is in
    let later : Hears (g a.bell.desk) b c = subst (λ desk. Hears (g desk) b c) heard.desk (two.stays is last) in
    hears_on (f a.bell.desk) (g a.bell.desk) a b c heard later
stays_on f g a b c false is one two first last = both last (ap (λ h. h.stays) (two.gone is) ∙ is)

fails_then : (xs ys : List Notice) (a b c : Hung) → Hears xs a b → FailsAmong ys b c → FailsAmong (xs ++ ys) a c
fails_then xs ys a b c heard failing = record {
  front = xs ++ failing.front;
  missed = failing.missed;
  rest = failing.rest;
  within = ap (λ more. xs ++ more) failing.within ∙ sym (append_assoc xs failing.front (failing.missed ∷ failing.rest));
  hears = hears_on xs failing.front a b c heard failing.hears;
  failed = failed_last a.bell.health b.bell.health c.bell.health heard.health failing.failed;
}

fails_first : (xs ys : List Notice) (a b : Hung) → FailsAmong xs a b → FailsAmong (xs ++ ys) a b
fails_first xs ys a b failing = record {
  front = failing.front;
  missed = failing.missed;
  rest = failing.rest ++ ys;
  within = ap (λ more. more ++ ys) failing.within ∙ append_assoc failing.front (failing.missed ∷ failing.rest) ys;
  hears = failing.hears;
  failed = failing.failed;
}

fails_on : (f g : List ℕ → List Notice) (a b c : Hung) (s : Bool) → b.stays ≡ s → IsRungFor f a b → IsRungFor g b c → a.stays ≡ true → c.stays ≡ false
    → FailsAmong (f a.bell.desk ++ g a.bell.desk) a c
fails_on f g a b c true is one two first last =
    let heard : Hears (f a.bell.desk) a b = one.stays first is in
    let later : FailsAmong (g a.bell.desk) b c = subst (λ desk. FailsAmong (g desk) b c) heard.desk (two.fails is last) in
    fails_then (f a.bell.desk) (g a.bell.desk) a b c heard later
fails_on f g a b c false is one two first last =
    subst (λ h. FailsAmong (f a.bell.desk ++ g a.bell.desk) a h) (sym (two.gone is)) (fails_first (f a.bell.desk) (g a.bell.desk) a b (one.fails first is))

-- some notices, and then others
pub rung_then : (f g : List ℕ → List Notice) (a b c : Hung) → IsRungFor f a b → IsRungFor g b c → IsRungFor (λ desk. f desk ++ g desk) a c
rung_then f g a b c one two = record {
  gone = λ is. two.gone (ap (λ h. h.stays) (one.gone is) ∙ is) ∙ one.gone is;
  stays = λ first last. stays_on f g a b c b.stays refl one two first last;
  fails = λ first last. fails_on f g a b c b.stays refl one two first last;
}

-- the same notices, said in other words
pub rung_same : (f g : List ℕ → List Notice) (a b : Hung) → ((desk : List ℕ) → f desk ≡ g desk) → IsRungFor f a b → IsRungFor g a b
rung_same f g a b same one = record {
  gone = one.gone;
  stays = λ first last. subst (λ all. Hears all a b) (same a.bell.desk) (one.stays first last);
  fails = λ first last. subst (λ all. FailsAmong all a b) (same a.bell.desk) (one.fails first last);
}

pub rung_none : (a : Hung) → IsRungFor (λ desk. []) a a
rung_none a = record { gone = λ is. refl; stays = λ first last. hears_none a; fails = λ first last. both first last }

-- ---- one notice

module _ (sitter_of : List ℕ → Option (List ℕ)) where
  due_on : (ns ms : List Notice) (desk : List ℕ) → due sitter_of ns desk ++ due sitter_of ms desk ≡ due sitter_of (ns ++ ms) desk
  due_on ns ms desk = sym (filter-append (concerns sitter_of desk) ns ms)

  pub rung_on : (ns ms : List Notice) (a b c : Hung) → IsRungFor (due sitter_of ns) a b → IsRungFor (due sitter_of ms) b c → IsRungFor (due sitter_of (ns ++ ms)) a c
  rung_on ns ms a b c one two =
      rung_same (λ desk. due sitter_of ns desk ++ due sitter_of ms desk) (due sitter_of (ns ++ ms)) a c (due_on ns ms)
      (rung_then (due sitter_of ns) (due sitter_of ms) a b c one two)

  -- of a bell that was dropped
  pub passed : (n : Notice) (a : Hung) → a.stays ≡ false → IsRungFor (due sitter_of (n ∷ [])) a a
  passed n a is = record { gone = λ gone. refl; stays = λ first last. both first is; fails = λ first last. both first is }

  -- of a bell that it doesn't concern
  pub unheard : (n : Notice) (a : Hung) → concerns sitter_of a.bell.desk n ≡ false → IsRungFor (due sitter_of (n ∷ [])) a a
  unheard n a is = record {
    gone = λ gone. refl;
    stays = λ first last. subst (λ all. Hears all a a) (sym (ap (λ b. if b then n ∷ [] else []) is)) (hears_none a);
    fails = λ first last. both first last;
  }

  pub rings : (n : Notice) (a b : Hung) → a.stays ≡ true → concerns sitter_of a.bell.desk n ≡ true → b.place ≡ a.place → b.stays ≡ a.stays → b.bell.desk ≡ a.bell.desk
      → b.bell.heard ≡ option_map (λ all. all ++ n ∷ []) a.bell.heard → b.heard ≡ after a.heard → GoesOn a.bell.health b.bell.health
      → IsRungFor (due sitter_of (n ∷ [])) a b
  rings n a b stays is place stayed desk told count on = record {
    gone = λ gone. both stays gone;
    stays = λ first last. subst (λ all. Hears all a b) (sym (ap (λ b. if b then n ∷ [] else []) is))
        (record { place = place; desk = desk; told = told; count = λ under. omega (arith, count); health = on });
    fails = λ first last. both (stayed ∙ stays) last;
  }

  pub fails : (n : Notice) (a b : Hung) → a.stays ≡ true → concerns sitter_of a.bell.desk n ≡ true → b.place ≡ a.place → b.stays ≡ false → b.bell.desk ≡ a.bell.desk
      → b.bell.heard ≡ a.bell.heard → b.heard ≡ a.heard → GoesOn a.bell.health b.bell.health → HasFailed a.bell.health b.bell.health
      → IsRungFor (due sitter_of (n ∷ [])) a b
  fails n a b stays is place left desk told count on failed = record {
    gone = λ gone. both stays gone;
    stays = λ first last. both last left;
    fails = λ first last. subst (λ all. FailsAmong all a b) (sym (ap (λ b. if b then n ∷ [] else []) is))
        (record {
          front = [];
          missed = n;
          rest = [];
          within = refl;
          hears = record { place = place; desk = desk; told = told ∙ told_none a.bell.heard; count = λ under. omega (arith, under, count); health = on };
          failed = failed;
        });
  }

  -- the next of some notices
  pub rung_next : (ns : List Notice) (i : ℕ) (n : Notice) (a b c : Hung) → i < length ns → get_or ns i n ≡ n → IsRungFor (due sitter_of (take i ns)) a b
      → IsRungFor (due sitter_of (n ∷ [])) b c → IsRungFor (due sitter_of (take (i + 1) ns)) a c
  rung_next ns i n a b c within at one two =
      let next : take (i + 1) ns ≡ take i ns ++ n ∷ [] = take_more ns i n within ∙ ap (λ (m : Notice). take i ns ++ m ∷ []) at in
      subst (λ all. IsRungFor (due sitter_of all) a c) (sym next) (rung_on (take i ns) (n ∷ []) a b c one two)

-- ---- all bells

pub are_rung_then : (f g : List ℕ → List Notice) (a b c : List Hung) → AreRungFor f a b → AreRungFor g b c → AreRungFor (λ desk. f desk ++ g desk) a c
are_rung_then f g [] [] [] one two = tt
are_rung_then f g [] [] (z ∷ c) one two = absurd two
are_rung_then f g [] (y ∷ b) c one two = absurd one
are_rung_then f g (x ∷ a) [] c one two = absurd one
are_rung_then f g (x ∷ a) (y ∷ b) [] one two = absurd two
are_rung_then f g (x ∷ a) (y ∷ b) (z ∷ c) one two = (rung_then f g x y z one.0 two.0, are_rung_then f g a b c one.1 two.1)

pub are_rung_same : (f g : List ℕ → List Notice) (a b : List Hung) → ((desk : List ℕ) → f desk ≡ g desk) → AreRungFor f a b → AreRungFor g a b
are_rung_same f g [] [] same one = tt
are_rung_same f g [] (y ∷ b) same one = absurd one
are_rung_same f g (x ∷ a) [] same one = absurd one
are_rung_same f g (x ∷ a) (y ∷ b) same one = (rung_same f g x y same one.0, are_rung_same f g a b same one.1)

pub are_rung_on : (ns ms : List Notice) (a b c : List Hung) → AreRung ns a b → AreRung ms b c → AreRung (ns ++ ms) a c
are_rung_on ns ms a b c one two =
    are_rung_same (λ desk. due namesake ns desk ++ due namesake ms desk) (due namesake (ns ++ ms)) a c (due_on namesake ns ms)
    (are_rung_then (due namesake ns) (due namesake ms) a b c one two)

pub are_rung_none : (a : List Hung) → AreRung [] a a
are_rung_none [] = tt
are_rung_none (x ∷ a) = (rung_none x, are_rung_none a)

-- ---- a list that is changed from its front on, place by place

abbrev pub UpTo : {A : Type 0} → (A → A → Type 0) → ℕ → List A → List A → Type 0
UpTo R zero olds news = news ≡ olds
UpTo R (suc i) (a ∷ olds) (b ∷ news) = R a b × UpTo R i olds news
UpTo R (suc i) (a ∷ olds) [] = ⊥
UpTo R (suc i) [] news = ⊥

up_to_more : {A : Type 0} (R : A → A → Type 0) (i : ℕ) (olds news : List A) (x y : A) → UpTo R i olds news → i < length news → R (get_or news i x) y
    → UpTo R (suc i) olds (set news i y)
up_to_more R zero olds [] x y is within rel = absurd (omega (arith, within))
up_to_more R zero olds (b ∷ news) x y is within rel = subst (λ all. UpTo R (suc zero) all (y ∷ news)) is (rel, refl)
up_to_more R (suc i) [] news x y is within rel = absurd is
up_to_more R (suc i) (a ∷ olds) [] x y is within rel = absurd is
up_to_more R (suc i) (a ∷ olds) (b ∷ news) x y is within rel = (is.0, up_to_more R i olds news x y is.1 (omega (arith, within)) rel)

pub up_to_next : {A : Type 0} (R : A → A → Type 0) (i : ℕ) (olds news : List A) (x y : A) → UpTo R i olds news → i < length news → R (get_or news i x) y
    → UpTo R (i + 1) olds (set news i y)
up_to_next R i olds news x y is within rel =
    let next : suc i ≡ i + 1 = omega arith in
    subst (λ n. UpTo R n olds (set news i y)) next (up_to_more R i olds news x y is within rel)

all_up_to : {A B : Type 0} (R : B → B → Type 0) (f : A → B) (olds news : List A) → UpTo (λ a b. R (f a) (f b)) (length news) olds news
    → AllZip R (map f olds) (map f news)
all_up_to R f olds [] is = subst (λ all. AllZip R (map f all) []) is tt
all_up_to R f [] (b ∷ news) is = absurd is
all_up_to R f (a ∷ olds) (b ∷ news) is = (is.0, all_up_to R f olds news is.1)

pub up_to_end : {A B : Type 0} (R : B → B → Type 0) (f : A → B) (i : ℕ) (olds news : List A) → i ≡ length news → UpTo (λ a b. R (f a) (f b)) i olds news
    → AllZip R (map f olds) (map f news)
up_to_end R f i olds news end is = all_up_to R f olds news (subst (λ n. UpTo (λ a b. R (f a) (f b)) n olds news) end is)
