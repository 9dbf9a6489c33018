-- The lines of a lane among what comes of the turns of all lanes.
use Rattle.std.proofs.Common.{◌≡◌, ℕ, zero, suc, ◌≤◌, ◌==◌, Bool, true, false, List, [], ◌∷◌, length, map, take, Some, refl, ap, sym, ◌∙◌, subst, arith}
use Rattle.std.specs.Prelude.{slice_get}
use Rattle.std.proofs.lemmas.Bool.Decides.{nat_tests}
use Rattle.desk.specs.Merge.{Event, of_lane}

pub some_is : {X : Type 0} (y x : X) → Some y ≡ Some x → y ≡ x
some_is y x is = cc

hit : (number : ℕ) (e : Event) (events : List Event) → (e.lane == number) ≡ true → of_lane number (e ∷ events) ≡ e ∷ of_lane number events
hit number e events is = rw is refl

miss : (number : ℕ) (e : Event) (events : List Event) → (e.lane == number) ≡ false → of_lane number (e ∷ events) ≡ of_lane number events
miss number e events is = rw is refl

-- how many of the first events are of a lane
abbrev pub before_in : ℕ → ℕ → List Event → ℕ
before_in number j events = length (of_lane number (take j events))

pub record LineAt (number n : ℕ) (e : Event) (events : List Event) : Type 0 where
  pub j : ℕ
  pub at : slice_get events j ≡ Some e
  pub lane : e.lane ≡ number
  pub place : n ≡ before_in number j events

first_line : (number : ℕ) (x e : Event) (events : List Event) → (x.lane == number) ≡ true → Some x ≡ Some e → LineAt number 0 e (x ∷ events)
first_line number x e events is same = record {
  j = 0;
  at = same;
  lane = let lane : x.lane ≡ number = grind (arith, nat_tests, is) in subst (λ (y : Event). y.lane ≡ number) (some_is x e same) lane;
  place = refl;
}

later_line : (number n : ℕ) (x e : Event) (events : List Event) → (x.lane == number) ≡ true → LineAt number n e events → LineAt number (suc n) e (x ∷ events)
later_line number n x e events is line = record {
  j = suc line.j;
  at = line.at;
  lane = line.lane;
  place = ap suc line.place ∙ sym (ap length (hit number x (take line.j events) is));
}

past_line : (number n : ℕ) (x e : Event) (events : List Event) → (x.lane == number) ≡ false → LineAt number n e events → LineAt number n e (x ∷ events)
past_line number n x e events is line = record {
  j = suc line.j;
  at = line.at;
  lane = line.lane;
  place = line.place ∙ sym (ap length (miss number x (take line.j events) is));
}

-- what stands at a place of a lane stands at one among all
line_by : (number : ℕ) (x : Event) (events : List Event) (n : ℕ) (e : Event) (b : Bool) → (x.lane == number) ≡ b → ((m : ℕ) → slice_get (of_lane number events) m ≡ Some e → LineAt number m e events)
    → slice_get (of_lane number (x ∷ events)) n ≡ Some e → LineAt number n e (x ∷ events)
line_by number x events zero e true is rest at = first_line number x e events is (sym (ap (λ es. slice_get es 0) (hit number x events is)) ∙ at)
line_by number x events (suc n) e true is rest at = later_line number n x e events is (rest n (sym (ap (λ es. slice_get es (suc n)) (hit number x events is)) ∙ at))
line_by number x events n e false is rest at = past_line number n x e events is (rest n (sym (ap (λ es. slice_get es n) (miss number x events is)) ∙ at))

pub line_at : (number : ℕ) (events : List Event) (n : ℕ) (e : Event) → slice_get (of_lane number events) n ≡ Some e → LineAt number n e events
line_at number [] n e at = absurd (cc)
line_at number (x ∷ events) n e at = line_by number x events n e (x.lane == number) refl (λ m. line_at number events m e) at

-- and the other way round
at_by : (number : ℕ) (x : Event) (events : List Event) (j : ℕ) (e : Event) (b : Bool) → (x.lane == number) ≡ b → e.lane ≡ number
    → slice_get (of_lane number events) (before_in number j events) ≡ Some e → slice_get (of_lane number (x ∷ events)) (before_in number (suc j) (x ∷ events)) ≡ Some e
at_by number x events j e true is lane rest =
    ap (λ es. slice_get es (before_in number (suc j) (x ∷ events))) (hit number x events is)
    ∙ (ap (λ (k : ℕ). slice_get (x ∷ of_lane number events) k) (ap length (hit number x (take j events) is)) ∙ rest)
at_by number x events j e false is lane rest =
    ap (λ es. slice_get es (before_in number (suc j) (x ∷ events))) (miss number x events is)
    ∙ (ap (λ (k : ℕ). slice_get (of_lane number events) k) (ap length (miss number x (take j events) is)) ∙ rest)

pub at_line : (number : ℕ) (events : List Event) (j : ℕ) (e : Event) → e.lane ≡ number → slice_get events j ≡ Some e → slice_get (of_lane number events) (before_in number j events) ≡ Some e
at_line number [] j e lane at = absurd (cc)
at_line number (x ∷ events) zero e lane at =
    let same : x ≡ e = some_is x e at in
    let is : (x.lane == number) ≡ true = let lane' : x.lane ≡ number = ap (λ (y : Event). y.lane) same ∙ lane in grind (arith, nat_tests, lane') in
    ap (λ es. slice_get es 0) (hit number x events is) ∙ at
at_line number (x ∷ events) (suc j) e lane at = at_by number x events j e (x.lane == number) refl lane (at_line number events j e lane at)

rises_by : (number : ℕ) (x : Event) (events : List Event) (j k : ℕ) (b : Bool) → (x.lane == number) ≡ b → before_in number j events ≤ before_in number k events
    → before_in number (suc j) (x ∷ events) ≤ before_in number (suc k) (x ∷ events)
rises_by number x events j k true is rest =
    let one = ap length (hit number x (take j events) is) in let two = ap length (hit number x (take k events) is) in omega (arith, one, two, rest)
rises_by number x events j k false is rest =
    let one = ap length (miss number x (take j events) is) in let two = ap length (miss number x (take k events) is) in omega (arith, one, two, rest)

-- more events have no fewer of a lane
none_before : (number j : ℕ) → before_in number j [] ≡ 0
none_before number zero = refl
none_before number (suc j) = refl

pub before_rises : (number : ℕ) (events : List Event) (j k : ℕ) → j ≤ k → before_in number j events ≤ before_in number k events
before_rises number [] j k le = let one = none_before number j in let two = none_before number k in omega (arith, one, two)
before_rises number (x ∷ events) zero k le = omega arith
before_rises number (x ∷ events) (suc j) zero le = absurd (omega (arith, le))
before_rises number (x ∷ events) (suc j) (suc k) le = rises_by number x events j k (x.lane == number) refl (before_rises number events j k (omega (arith, le)))

pub get_map : {X Y : Type 0} (f : X → Y) (xs : List X) (n : ℕ) (x : X) → slice_get xs n ≡ Some x → slice_get (map f xs) n ≡ Some (f x)
get_map f [] n x at = absurd (cc)
get_map f (y ∷ xs) zero x at = ap (λ z. Some (f z)) (some_is y x at)
get_map f (y ∷ xs) (suc n) x at = get_map f xs n x at

pub record Mapped {X Y : Type 0} (f : X → Y) (xs : List X) (n : ℕ) (y : Y) : Type 0 where
  pub x : X
  pub at : slice_get xs n ≡ Some x
  pub is : f x ≡ y

pub map_get : {X Y : Type 0} (f : X → Y) (xs : List X) (n : ℕ) (y : Y) → slice_get (map f xs) n ≡ Some y → Mapped f xs n y
map_get f [] n y at = absurd (cc)
map_get f (x ∷ xs) zero y at = record { x = x; at = refl; is = some_is (f x) y at }
map_get f (x ∷ xs) (suc n) y at = let rest = map_get f xs n y at in record { x = rest.x; at = rest.at; is = rest.is }

pub take_get : {X : Type 0} (k : ℕ) (xs : List X) (n : ℕ) (x : X) → slice_get (take k xs) n ≡ Some x → slice_get xs n ≡ Some x
take_get zero xs n x at = absurd (cc)
take_get (suc k) [] n x at = absurd (cc)
take_get (suc k) (y ∷ xs) zero x at = at
take_get (suc k) (y ∷ xs) (suc n) x at = take_get k xs n x at
