-- Computing the controlling weather in one pass over parts, moments of change, or the minutes of a window.
use Rattle.std.specs.Prelude.{ℕ, ◌||◌, min, if◌then◌else◌, List, [], ◌∷◌, Option, None, Some}
use Rattle.desk_time.specs.Digits.{or_else}
use Rattle.codes.specs.Cond.{lesser}
use Rattle.weather_reports.specs.declared.forecast.Part.{Part}
use Rattle.weather_window.specs.declared.parts.Role.{Role}
use Rattle.weather_window.specs.declared.parts.Role.TheVariants.{Replaces, Lasts, Passes, Silent}
use Rattle.weather_window.specs.declared.parts.Holding.{Holding}
use Rattle.weather_window.specs.Values.{Element, has_replaced, has_become, is_changing, may_hold}
use Rattle.weather_window.specs.Changes.{is_between}

-- how a part counts at a moment
abbrev pub role_of : ℕ → Part → Role
role_of m p =
    if has_replaced m p then Replaces else (if has_become m p then Lasts else (if is_changing m p || may_hold m p then Passes else Silent))

-- the values held after a part that counts in this way
abbrev pub and_value : Holding → Role → Option ℕ → Holding
and_value held Replaces value = record { lasting = value; passing = None }
and_value held Lasts value = record { lasting = or_else value held.lasting; passing = held.passing }
and_value held Passes value = record { lasting = held.lasting; passing = lesser held.passing value }
and_value held Silent value = held

-- the values held after more parts
abbrev pub held_after : Element → ℕ → Holding → List Part → Holding
held_after element m held [] = held
held_after element m held (p ∷ ps) = held_after element m (and_value held (role_of m p) (element p.cond)) ps

-- the least value held
abbrev pub least_held : Holding → Option ℕ
least_held held = lesser held.lasting held.passing

-- the values held after the first part alone
abbrev pub only : Option ℕ → Holding
only value = record { lasting = value; passing = None }

-- the least value of a first part and the parts after it
abbrev pub least_after : Element → ℕ → Part → List Part → Option ℕ
least_after element m first after = least_held (held_after element m (only (element first.cond)) after)

-- the least value of the parts, in one pass
unfoldable pub least_at : Element → ℕ → List Part → Option ℕ
least_at element m [] = None
least_at element m (first ∷ after) = least_after element m first after

-- the worse of two values; an unknown one is the worst
abbrev pub worse : Option ℕ → Option ℕ → Option ℕ
worse None b = None
worse (Some x) None = None
worse (Some x) (Some y) = Some (min x y)

-- the earlier of the moment found so far and `m`, if `m` is in range
abbrev pub sooner : ℕ → ℕ → Option ℕ → ℕ → Option ℕ
sooner after to found m = if is_between after to m then lesser found (Some m) else found

-- the earliest of the moment found so far and the moments in range
abbrev pub soonest : ℕ → ℕ → Option ℕ → List ℕ → Option ℕ
soonest after to found [] = found
soonest after to found (m ∷ ms) = soonest after to (sooner after to found m) ms
