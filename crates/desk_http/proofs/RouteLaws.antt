-- The route of the name that the router finds is the route of the path.
use Rattle.std.proofs.Common.{◌≡◌, ℕ, ◌==◌, ◌++◌, ◌||◌, ◌&&◌, List, [], ◌∷◌, Option, Some, None, cond, Bool, true, false, codes, refl, ap, sym, ◌∙◌, take, drop, length, Result, Ok, Err, IfOk, inl, inr, ne_eqb, unwrap_or, option_map}
use Rattle.std.specs.List.{list_any, list_all}
use Rattle.std.specs.Str.{bytes_eq, is_utf8}
use Rattle.std.proofs.lemmas.Bool.{and_right, and_parts, cases_eq, eqb-true, false_from_ne_true}
use Rattle.matchit.specs.Seek.{first, has_slash}
use Rattle.desk_io.specs.Station.{is_capital, is_capital_or_digit, is_station}
use Rattle.desk_time.specs.Numbers.{is_digit, digits_after}
use Rattle.desk_http.specs.Digits.{has_length}
use Rattle.desk_http.specs.Routes.{after, fixed_route, release_route, weather_route, deferred_route, route_among, route_in, route_of}
use Rattle.desk_http.specs.Names.{patterns, rest_after, named_route}
use Rattle.desk_http.proofs.Found.{follows, whole, one_segment, or_next, name_at, AreBytes, first_is, next_none}
use Rattle.desk_http.specs.declared.router.Named.{Named}
use Rattle.desk_http.specs.declared.router.Named.TheVariants.{ToCall, ToBoard, ToAlerts, ToRelease, ToWeather, ToDeferred}
use Rattle.desk_http.specs.declared.routes.Routed.{Routed}
use Rattle.desk_http.specs.declared.routes.Routed.TheVariants.{Post, Board, Alerts, Release, Weather, Deferred}

flip : (a b : ℕ) → (a == b) ≡ (b == a)
flip a b = elim (cases_eq a b) [
  | inl e ↦ ap (λ x. x == b) e ∙ sym (ap (λ x. b == x) e)
  | inr n ↦ ne_eqb a b n ∙ sym (ne_eqb b a (λ e. n (sym e)))
]

both : {A : Type 0} (s t : Bool) (a : A) → cond (s && t) (Some a) None ≡ cond s (cond t (Some a) None) None
both true t a = refl
both false t a = refl

-- what stands after a front, byte by byte
pub after_is : (front path : List ℕ) → after front path ≡ follows front path
after_is [] path = refl
after_is (x ∷ xs) [] = refl
after_is (x ∷ xs) (c ∷ path) =
    both (c == x) (bytes_eq (take (length xs) path) xs) (drop (length xs) path) ∙ ap (λ o. cond (c == x) o None) (after_is xs path) ∙ ap (λ b. cond b (follows xs path) None) (flip c x)

whole_step : (n : Named) (s : Bool) (o : Option (List ℕ)) (t : Bool) → whole n o ≡ cond t (Some n) None → whole n (cond s o None) ≡ cond (s && t) (Some n) None
whole_step n true o t is = is
whole_step n false o t is = refl

-- nothing follows where the path is the front
whole_is : (n : Named) (front path : List ℕ) → whole n (follows front path) ≡ cond (bytes_eq path front) (Some n) None
whole_is n [] [] = refl
whole_is n [] (c ∷ path) = refl
whole_is n (x ∷ xs) [] = refl
whole_is n (x ∷ xs) (c ∷ path) = ap (λ b. whole n (cond b (follows xs path) None)) (flip x c) ∙ whole_step n (c == x) (follows xs path) (bytes_eq path xs) (whole_is n xs path)

-- bytes with a slash are no number, no station and no tail

slash_step : (at : Bool) (text : List ℕ) → cond at true (has_slash text) ≡ true → (has_slash text ≡ true → list_any (λ b. b == 47) text ≡ true) → (at || list_any (λ b. b == 47) text) ≡ true
slash_step true text has later = refl
slash_step false text has later = later has

slash_among : (text : List ℕ) → has_slash text ≡ true → list_any (λ b. b == 47) text ≡ true
slash_among [] has = absurd (cc)
slash_among (b ∷ text) has = slash_step (b == 47) text has (slash_among text)

no_tail : (text : List ℕ) → has_slash text ≡ true → deferred_route text ≡ None
no_tail text has = rw (slash_among text has) (and_none (has_length 8 text))
  where
    and_none : (b : Bool) → cond (b && false) (Some (Deferred text)) None ≡ None
    and_none true = refl
    and_none false = refl

slash_digit : (b : ℕ) → (b == 47) ≡ true → is_digit b ≡ false
slash_digit b is = rw (eqb-true b 47 is) refl

digit_step : (b : ℕ) (text : List ℕ) (at : Bool) → (b == 47) ≡ at → cond at true (has_slash text) ≡ true → (has_slash text ≡ true → list_all is_digit text ≡ false)
    → (is_digit b && list_all is_digit text) ≡ false
digit_step b text true is has later = rw (slash_digit b is) refl
digit_step b text false is has later = and_right (is_digit b) (list_all is_digit text) (later has)

no_digits : (text : List ℕ) → has_slash text ≡ true → list_all is_digit text ≡ false
no_digits [] has = absurd (cc)
no_digits (b ∷ text) has = digit_step b text (b == 47) refl has (no_digits text)

no_number : (text : List ℕ) → has_slash text ≡ true → release_route text ≡ None
no_number text has = ap (λ digits. option_map Release (cond (has_length 10 text && digits) (Some (digits_after 0 text)) None)) (no_digits text has) ∙ dropped (has_length 10 text)
  where
    dropped : (b : Bool) → option_map Release (cond (b && false) (Some (digits_after 0 text)) None) ≡ None
    dropped true = refl
    dropped false = refl

slash_capital : (b : ℕ) → (b == 47) ≡ true → is_capital b ≡ false
slash_capital b is = rw (eqb-true b 47 is) refl

slash_letter : (b : ℕ) → (b == 47) ≡ true → is_capital_or_digit b ≡ false
slash_letter b is = rw (eqb-true b 47 is) refl

not_slash : (b : ℕ) (letter : Bool) (at : Bool) → (b == 47) ≡ at → (at ≡ true → letter ≡ false) → letter ≡ true → at ≡ false
not_slash b letter true is none has = absurd (cc (none refl, has))
not_slash b letter false is none has = refl

four : (a b c d : ℕ) → has_slash (a ∷ b ∷ c ∷ d ∷ []) ≡ true → is_station (a ∷ b ∷ c ∷ d ∷ []) ≡ true → ⊥
four a b c d has is =
    let abc = and_parts _ _ is in
    let ab = and_parts _ _ abc.0 in
    let one = and_parts _ _ ab.0 in
    let not_a = not_slash a _ (a == 47) refl (slash_capital a) one.0 in
    let not_b = not_slash b _ (b == 47) refl (slash_letter b) one.1 in
    let not_c = not_slash c _ (c == 47) refl (slash_letter c) ab.1 in
    let not_d = not_slash d _ (d == 47) refl (slash_letter d) abc.1 in
    absurd (cc (rw (not_a, not_b, not_c, not_d) at has))

no_letters : (text : List ℕ) → has_slash text ≡ true → is_station text ≡ false
no_letters [] has = refl
no_letters (a ∷ []) has = refl
no_letters (a ∷ b ∷ []) has = refl
no_letters (a ∷ b ∷ c ∷ []) has = refl
no_letters (a ∷ b ∷ c ∷ d ∷ []) has = false_from_ne_true _ (four a b c d has)
no_letters (a ∷ b ∷ c ∷ d ∷ e ∷ rest) has = refl

no_station : (text : List ℕ) → has_slash text ≡ true → weather_route text ≡ None
no_station text has = ap (λ is. option_map Weather (cond is (Some text) None)) (no_letters text has)

abbrev fixed : Bool → Bool → Bool → Option Routed
fixed call board alerts = cond call (Some Post) (cond board (Some Board) (cond alerts (Some Alerts) None))

-- one segment that follows a front
segment_by : (n : Named) (path id : List ℕ) (f : List ℕ → Option Routed) (slash : Bool) → has_slash id ≡ slash → ((text : List ℕ) → has_slash text ≡ true → f text ≡ None)
    → named_route (Some n) path ≡ f id → named_route (cond slash None (Some n)) path ≡ f id
segment_by n path id f true has none is = sym (none id has)
segment_by n path id f false has none is = is

segment : (n : Named) (path id : List ℕ) (f : List ℕ → Option Routed) → f [] ≡ None → ((text : List ℕ) → has_slash text ≡ true → f text ≡ None)
    → named_route (Some n) path ≡ f id → named_route (one_segment n (Some id)) path ≡ f id
segment n path [] f empty none is = sym empty
segment n path (c ∷ id) f empty none is = segment_by n path (c ∷ id) f (has_slash (c ∷ id)) refl none is

rest_is : (front path id : List ℕ) → follows front path ≡ Some id → rest_after front path ≡ id
rest_is front path id is = ap (λ o. unwrap_or o []) (after_is front path ∙ is)

-- what follows one front follows no other
parts_step : (x c : ℕ) (xs path id : List ℕ) (same : Bool) → (x == c) ≡ same → cond same (follows xs path) None ≡ Some id → (follows xs path ≡ Some id → path ≡ xs ++ id)
    → c ∷ path ≡ x ∷ (xs ++ id)
parts_step x c xs path id true same is later = ap (λ b. b ∷ path) (sym (eqb-true x c same)) ∙ ap (λ p. x ∷ p) (later is)
parts_step x c xs path id false same is later = absurd (cc)

parts : (front path id : List ℕ) → follows front path ≡ Some id → path ≡ front ++ id
parts [] path id is = cc
parts (x ∷ xs) [] id is = absurd (cc)
parts (x ∷ xs) (c ∷ path) id is = parts_step x c xs path id (x == c) refl is (parts xs path id)

not_weather : (path id : List ℕ) → follows (codes "/release/") path ≡ Some id → follows (codes "/weather/") path ≡ None
not_weather path id is = ap (follows (codes "/weather/")) (parts (codes "/release/") path id is)

not_deferred : (path id : List ℕ) → follows (codes "/release/") path ≡ Some id → follows (codes "/deferred/") path ≡ None
not_deferred path id is = ap (follows (codes "/deferred/")) (parts (codes "/release/") path id is)

not_deferred_too : (path id : List ℕ) → follows (codes "/weather/") path ≡ Some id → follows (codes "/deferred/") path ≡ None
not_deferred_too path id is = ap (follows (codes "/deferred/")) (parts (codes "/weather/") path id is)

abbrev next_segments : Option (List ℕ) → Option (List ℕ) → Option (List ℕ) → Option Named
next_segments release weather deferred = or_next (one_segment ToRelease release) (or_next (one_segment ToWeather weather) (one_segment ToDeferred deferred))

segments : (path : List ℕ) (release weather deferred : Option (List ℕ)) → follows (codes "/release/") path ≡ release → follows (codes "/weather/") path ≡ weather
    → follows (codes "/deferred/") path ≡ deferred → named_route (next_segments release weather deferred) path ≡ route_among None release weather deferred
segments path (Some id) weather deferred r w d =
    ap (λ n. named_route n path) (
    ap (λ x. or_next (one_segment ToRelease (Some id)) (or_next (one_segment ToWeather x) (one_segment ToDeferred deferred))) (sym w ∙ not_weather path id r)
    ∙ ap (λ x. or_next (one_segment ToRelease (Some id)) (one_segment ToDeferred x)) (sym d ∙ not_deferred path id r)
    ∙ next_none (one_segment ToRelease (Some id))
    )
    ∙ segment ToRelease path id release_route refl no_number (ap release_route (rest_is (codes "/release/") path id r))
segments path None (Some id) deferred r w d =
    ap (λ n. named_route n path) (
    ap (λ x. or_next (one_segment ToWeather (Some id)) (one_segment ToDeferred x)) (sym d ∙ not_deferred_too path id w)
    ∙ next_none (one_segment ToWeather (Some id))
    )
    ∙ segment ToWeather path id weather_route refl no_station (ap weather_route (rest_is (codes "/weather/") path id w))
segments path None None (Some id) r w d = segment ToDeferred path id deferred_route refl no_tail (ap deferred_route (rest_is (codes "/deferred/") path id d))
segments path None None None r w d = refl

by_fixed : (call board alerts : Bool) (path : List ℕ) (n : Option Named) (release weather deferred : Option (List ℕ)) → named_route n path ≡ route_among None release weather deferred
    → named_route (or_next (cond call (Some ToCall) None) (or_next (cond board (Some ToBoard) None) (or_next (cond alerts (Some ToAlerts) None) n))) path
    ≡ route_among (fixed call board alerts) release weather deferred
by_fixed true board alerts path n release weather deferred is = refl
by_fixed false true alerts path n release weather deferred is = refl
by_fixed false false true path n release weather deferred is = refl
by_fixed false false false path n release weather deferred is = is

named_path : (path : List ℕ) → named_route (name_at path) path ≡ route_in path
named_path path =
    let release = follows (codes "/release/") path in
    let weather = follows (codes "/weather/") path in
    let deferred = follows (codes "/deferred/") path in
    let rest = next_segments release weather deferred in
    ap (λ n. named_route n path) (
    ap (λ o. or_next o (or_next (whole ToBoard (follows (codes "/board") path)) (or_next (whole ToAlerts (follows (codes "/alerts") path)) rest))) (whole_is ToCall (codes "/call") path)
    ∙ ap (λ o. or_next (cond (bytes_eq path (codes "/call")) (Some ToCall) None) (or_next o (or_next (whole ToAlerts (follows (codes "/alerts") path)) rest))) (whole_is ToBoard (codes "/board") path)
    ∙ ap (λ o. or_next (cond (bytes_eq path (codes "/call")) (Some ToCall) None) (or_next (cond (bytes_eq path (codes "/board")) (Some ToBoard) None) (or_next o rest))) (whole_is ToAlerts (codes "/alerts") path)
    )
    ∙ by_fixed (bytes_eq path (codes "/call")) (bytes_eq path (codes "/board")) (bytes_eq path (codes "/alerts")) path rest release weather deferred (segments path release weather deferred refl refl refl)
    ∙ ap (λ o. route_among (fixed_route path) o weather deferred) (sym (after_is (codes "/release/") path))
    ∙ ap (λ o. route_among (fixed_route path) (after (codes "/release/") path) o deferred) (sym (after_is (codes "/weather/") path))
    ∙ ap (λ o. route_among (fixed_route path) (after (codes "/release/") path) (after (codes "/weather/") path) o) (sym (after_is (codes "/deferred/") path))

-- the router's first match is the route
pub routed_by_name : {E : Type 0} (r : Result (Option Routed) E) (name : Option Named) (bytes path : List ℕ) → AreBytes path → name ≡ first patterns path → bytes ≡ path
    → IfOk r (λ x. x ≡ named_route name bytes) → IfOk r (λ x. x ≡ route_in path)
routed_by_name (Ok x) name bytes path small named same is =
    is ∙ ap (λ b. named_route name b) same ∙ ap (λ n. named_route n path) (named ∙ first_is path small) ∙ named_path path
routed_by_name (Err e) name bytes path small named same is = tt

pub routed_text : {E : Type 0} (r : Result (Option Routed) E) (text path : List ℕ) → text ≡ path → is_utf8 path ≡ true → IfOk r (λ x. x ≡ route_in text) → IfOk r (λ x. x ≡ route_of path)
unfolding route_of
routed_text (Ok x) text path same utf8 is = is ∙ ap route_in same ∙ sym (ap (λ b. cond b (route_in path) None) utf8)
routed_text (Err e) text path same utf8 is = tt
