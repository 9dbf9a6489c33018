-- Laws on one pass over the parts of a forecast.
use Rattle.std.proofs.Common.{◌≡◌, ℕ, Bool, true, false, cond, ◌&&◌, ◌||◌, nat_le, nat_lt, List, [], ◌∷◌, ◌++◌, Option, None, Some, refl, ap, sym, ◌∙◌, arith, filter, option_to_list}
use Rattle.std.specs.List.{list_any, cons_option}
use Rattle.std.proofs.lemmas.Bool.Decides.{nat_tests}
use Rattle.desk_time.specs.Digits.{or_else}
use Rattle.codes.specs.Cond.{lesser}
use Rattle.weather_reports.specs.declared.forecast.Part.{Part}
use Rattle.weather_reports.specs.declared.forecast.PartKind.{PartKind}
use Rattle.weather_reports.specs.declared.forecast.PartKind.TheVariants.{Base, From, Becoming, Tempo, Prob}
use Rattle.codes.proofs.CondLaws.{lesser_assoc, lesser_comm}
use Rattle.weather_window.specs.declared.parts.Role.{Role}
use Rattle.weather_window.specs.declared.parts.Role.TheVariants.{Replaces, Lasts, Passes, Silent}
use Rattle.weather_window.specs.declared.parts.Holding.{Holding}
use Rattle.weather_window.specs.Values.{Element, is_becoming, is_temporary, is_within, has_replaced, has_become, is_changing, may_hold, last_named, all_named, values_in_force, part_values}
use Rattle.weather_window.specs.Window.{least_of}
use Rattle.weather_window.specs.Running.{role_of, and_value, held_after, least_held, only, least_at}
use Rattle.weather_window.proofs.LeastLaws.{or_else_assoc, least_of_append, least_of_option}

-- what the parts that have become last, where they name the element
abbrev lasting_of : Element → ℕ → List Part → Option ℕ
lasting_of element m ps = last_named element (filter (has_become m) ps)

-- the least that is held for a time
abbrev passing_of : Element → ℕ → List Part → Option ℕ
passing_of element m ps =
    lesser (least_of (all_named element (filter (is_changing m) ps))) (least_of (all_named element (filter (may_hold m) ps)))

-- the least of what was held before, and of what more parts name
abbrev total : Holding → Option ℕ → Option ℕ → Option ℕ
total held lasting passing = lesser (or_else lasting held.lasting) (lesser held.passing passing)

-- at most one of the three holds of a part
record IsOne (become changing hold : Bool) : Type 0 where
  apart : (become && changing) ≡ false
  settled : (become && hold) ≡ false
  moving : (changing && hold) ≡ false

never_both : (from to m : ℕ) → (nat_le to m && (nat_le from m && nat_lt m to)) ≡ false
never_both from to m = grind (arith, nat_tests)

is_one_of : (kind : PartKind) (from to m : ℕ)
    → IsOne (is_becoming kind && nat_le to m) (is_becoming kind && nat_le from m && nat_lt m to) (is_temporary kind && is_within from to m)
is_one_of Base from to m = record { apart = refl; settled = refl; moving = refl }
is_one_of From from to m = record { apart = refl; settled = refl; moving = refl }
is_one_of Becoming from to m = record { apart = never_both from to m; settled = grind (arith, nat_tests); moving = grind (arith, nat_tests) }
is_one_of Tempo from to m = record { apart = refl; settled = refl; moving = refl }
is_one_of Prob from to m = record { apart = refl; settled = refl; moving = refl }

least_of_cons_option : (o : Option ℕ) (xs : List ℕ) → least_of (cons_option o xs) ≡ lesser o (least_of xs)
least_of_cons_option None xs = refl
least_of_cons_option (Some x) xs = refl

-- a change that is over
become_step : (held : Holding) (value lasting passing : Option ℕ)
    → total (and_value held Lasts value) lasting passing ≡ total held (or_else lasting value) passing
become_step held value lasting passing = ap (λ a. lesser a (lesser held.passing passing)) (sym (or_else_assoc lasting value held.lasting))

-- a change that takes place
changing_step : (held : Holding) (value lasting : Option ℕ) (changes holds : List ℕ)
    → total (and_value held Passes value) lasting (lesser (least_of changes) (least_of holds))
    ≡ total held lasting (lesser (least_of (cons_option value changes)) (least_of holds))
changing_step held value lasting changes holds =
    ap (λ a. lesser (or_else lasting held.lasting) a)
    (sym (lesser_assoc held.passing value (lesser (least_of changes) (least_of holds)))
    ∙ ap (λ a. lesser held.passing a) (lesser_assoc value (least_of changes) (least_of holds) ∙ ap (λ a. lesser a (least_of holds)) (sym (least_of_cons_option value changes))))

lesser_between : (value a b : Option ℕ) → lesser value (lesser a b) ≡ lesser a (lesser value b)
lesser_between value a b = lesser_assoc value a b ∙ ap (λ x. lesser x b) (lesser_comm value a) ∙ sym (lesser_assoc a value b)

-- what may hold
hold_step : (held : Holding) (value lasting : Option ℕ) (changes holds : List ℕ)
    → total (and_value held Passes value) lasting (lesser (least_of changes) (least_of holds))
    ≡ total held lasting (lesser (least_of changes) (least_of (cons_option value holds)))
hold_step held value lasting changes holds =
    ap (λ a. lesser (or_else lasting held.lasting) a)
    (sym (lesser_assoc held.passing value (lesser (least_of changes) (least_of holds)))
    ∙ ap (λ a. lesser held.passing a) (lesser_between value (least_of changes) (least_of holds) ∙ ap (λ a. lesser (least_of changes) a) (sym (least_of_cons_option value holds))))

abbrev role_by : Bool → Bool → Bool → Role
role_by become changing hold = cond become Lasts (cond (changing || hold) Passes Silent)

-- one more part, by what it does
part_step : (element : Element) (become changing hold : Bool) (p : Part) (held : Holding) (becomes changes holds : List Part) → IsOne become changing hold
    → total (and_value held (role_by become changing hold) (element p.cond)) (last_named element becomes) (lesser (least_of (all_named element changes)) (least_of (all_named element holds)))
    ≡ total held (last_named element (cond become (p ∷ becomes) becomes))
    (lesser (least_of (all_named element (cond changing (p ∷ changes) changes))) (least_of (all_named element (cond hold (p ∷ holds) holds))))
part_step element true true hold p held becomes changes holds one = let apart = one.apart in cc
part_step element true false true p held becomes changes holds one = let settled = one.settled in cc
part_step element true false false p held becomes changes holds one = become_step held (element p.cond) (last_named element becomes) (lesser (least_of (all_named element changes)) (least_of (all_named element holds)))
part_step element false true true p held becomes changes holds one = let moving = one.moving in cc
part_step element false true false p held becomes changes holds one = changing_step held (element p.cond) (last_named element becomes) (all_named element changes) (all_named element holds)
part_step element false false true p held becomes changes holds one = hold_step held (element p.cond) (last_named element becomes) (all_named element changes) (all_named element holds)
part_step element false false false p held becomes changes holds one = refl

or_false : (a b : Bool) → (a || b) ≡ false → a ≡ false
or_false true b e = cc
or_false false b e = refl

or_false_right : (a b : Bool) → (a || b) ≡ false → b ≡ false
or_false_right true b e = cc
or_false_right false b e = e

or_true : (a b : Bool) → b ≡ false → (a || b) ≡ true → a ≡ true
or_true true b none some = refl
or_true false b none some = cc

-- what no part replaces
unreplaced : (element : Element) (m : ℕ) (held : Holding) (ps : List Part) → list_any (has_replaced m) ps ≡ false
    → least_held (held_after element m held ps) ≡ total held (lasting_of element m ps) (passing_of element m ps)
unreplaced element m held [] none = ap (λ a. lesser held.lasting a) (lesser_comm None held.passing)
unreplaced element m held (p ∷ ps) none =
    let one : has_replaced m p ≡ false = or_false (has_replaced m p) (list_any (has_replaced m) ps) none in
    let more : list_any (has_replaced m) ps ≡ false = or_false_right (has_replaced m p) (list_any (has_replaced m) ps) none in
    let role : role_of m p ≡ role_by (has_become m p) (is_changing m p) (may_hold m p) = rw one refl in
    ap (λ role. least_held (held_after element m (and_value held role (element p.cond)) ps)) role
    ∙ unreplaced element m (and_value held (role_by (has_become m p) (is_changing m p) (may_hold m p)) (element p.cond)) ps more
    ∙ part_step element (has_become m p) (is_changing m p) (may_hold m p) p held (filter (has_become m) ps) (filter (is_changing m) ps) (filter (may_hold m) ps) (is_one_of p.kind p.from p.to m)

-- the least of the values of a part and those after it
first_law : (element : Element) (m : ℕ) (s : Part) (after : List Part)
    → least_of (values_in_force element m (s ∷ after)) ≡ lesser (or_else (lasting_of element m after) (element s.cond)) (passing_of element m after)
first_law element m s after =
    let last = option_to_list (or_else (lasting_of element m after) (element s.cond)) in
    let changes = all_named element (filter (is_changing m) after) in
    let holds = all_named element (filter (may_hold m) after) in
    least_of_append (last ++ changes) holds
    ∙ ap (λ a. lesser a (least_of holds)) (least_of_append last changes)
    ∙ sym (lesser_assoc (least_of last) (least_of changes) (least_of holds))
    ∙ ap (λ a. lesser a (lesser (least_of changes) (least_of holds))) (least_of_option (or_else (lasting_of element m after) (element s.cond)))

-- the same for a part after which none has replaced it
alone : (element : Element) (m : ℕ) (s : Part) (after : List Part) → list_any (has_replaced m) after ≡ false
    → least_held (held_after element m (only (element s.cond)) after) ≡ least_of (part_values element m (s ∷ after))
unfolding part_values
alone element m s after none = rw none (unreplaced element m (only (element s.cond)) after none ∙ sym (first_law element m s after))

replaced_case : (element : Element) (m : ℕ) (held : Holding) (p : Part) (ps : List Part) (some : Bool) → list_any (has_replaced m) ps ≡ some
    → ((n : Holding) → list_any (has_replaced m) ps ≡ true → least_held (held_after element m n ps) ≡ least_of (part_values element m ps))
    → list_any (has_replaced m) (p ∷ ps) ≡ true → least_held (held_after element m held (p ∷ ps)) ≡ least_of (part_values element m (p ∷ ps))
unfolding part_values
replaced_case element m held p ps true is later any = rw is (later (and_value held (role_of m p) (element p.cond)) is)
replaced_case element m held p ps false is later any =
    let here : has_replaced m p ≡ true = or_true (has_replaced m p) (list_any (has_replaced m) ps) is any in
    let role : role_of m p ≡ Replaces = rw here refl in
    ap (λ role. least_held (held_after element m (and_value held role (element p.cond)) ps)) role ∙ alone element m p ps is

-- what some part replaces
replaced : (element : Element) (m : ℕ) (held : Holding) (ps : List Part) → list_any (has_replaced m) ps ≡ true
    → least_held (held_after element m held ps) ≡ least_of (part_values element m ps)
replaced element m held [] some = cc
replaced element m held (p ∷ ps) some = replaced_case element m held p ps (list_any (has_replaced m) ps) refl (λ n. replaced element m n ps) some

first_case : (element : Element) (m : ℕ) (s : Part) (after : List Part) (some : Bool) → list_any (has_replaced m) after ≡ some
    → least_held (held_after element m (only (element s.cond)) after) ≡ least_of (part_values element m (s ∷ after))
unfolding part_values
first_case element m s after true is = rw is (replaced element m (only (element s.cond)) after is)
first_case element m s after false is = alone element m s after is

-- one pass finds the least of the values of the parts
pub least_at_law : (element : Element) (m : ℕ) (parts : List Part) → least_at element m parts ≡ least_of (part_values element m parts)
unfolding least_at part_values
least_at_law element m [] = refl
least_at_law element m (s ∷ after) = first_case element m s after (list_any (has_replaced m) after) refl
