-- Reading a plan from a JSON object with exactly the keys captain, flight, kind, legs and tail.
use Rattle.std.specs.Prelude.{ℕ, Bool, ◌&&◌, ◌||◌, ◌==◌, nat_le, if◌then◌else◌, List, length, Option, None, Some, codes, option_and_then}
use Rattle.std.specs.List.{list_all}
use Rattle.std.specs.Str.{bytes_eq}
use Rattle.serde_json.specs.Data.{Data}
use Rattle.desk_time.specs.Digits.{◌>>=◌}
use Rattle.desk_io.specs.Station.{is_capital_or_digit}
use Rattle.plan.specs.declared.flights.Kind.{Kind}
use Rattle.plan.specs.declared.flights.Kind.TheVariants.{Domestic, Flag}
use Rattle.plan.specs.declared.flights.Leg.{Leg}
use Rattle.plan.specs.declared.flights.Plan.{Plan}
use Rattle.asks.specs.declared.plans.Form.{Form}
use Rattle.asks.specs.declared.plans.Form.TheVariants.{Flight, Tail, Captain}
use Rattle.asks.specs.Fields.{text_at, has_members}
use Rattle.asks.specs.Legs.{legs_at}
use Rattle.ops_tables.specs.Forms.{is_small}

-- the character may be in such a name
abbrev pub is_of_form : Form → ℕ → Bool
is_of_form Flight b = is_capital_or_digit b
is_of_form Tail b = is_capital_or_digit b || (b == 45)
is_of_form Captain b = is_capital_or_digit b || is_small b

-- the largest length of such a name
abbrev pub longest : Form → ℕ
longest Flight = 8
longest Tail = 8
longest Captain = 16

abbrev pub has_form : Form → List ℕ → Bool
has_form form t = nat_le 1 (length t) && nat_le (length t) (longest form) && list_all (is_of_form form) t

abbrev pub formed : Form → List ℕ → Option (List ℕ)
formed form t = if has_form form t then Some t else None

-- the well-formed name at a key
abbrev pub name_at : List ℕ → Form → Data → Option (List ℕ)
name_at key form d = option_and_then (formed form) (text_at key d)

-- the kind of operation with this name
abbrev pub kind_of : List ℕ → Option Kind
kind_of name = if bytes_eq name (codes "domestic") then Some Domestic else (if bytes_eq name (codes "flag") then Some Flag else None)

abbrev pub kind_at : Data → Option Kind
kind_at d = option_and_then kind_of (text_at (codes "kind") d)

abbrev pub plan_with : List ℕ → List ℕ → List ℕ → Kind → List Leg → Plan
plan_with flight tail captain kind legs = record { flight = flight; tail = tail; kind = kind; captain = captain; legs = legs }

abbrev pub named_plan : Data → Kind → List Leg → Option Plan
named_plan d kind legs =
    name_at (codes "flight") Flight d >>= λ flight. name_at (codes "tail") Tail d >>= λ tail. name_at (codes "captain") Captain d >>= λ captain.
    if has_members 5 d then Some (plan_with flight tail captain kind legs) else None

-- the plan of a JSON object
unfoldable pub plan_of : Data → Option Plan
plan_of d = kind_at d >>= λ kind. legs_at d >>= λ legs. named_plan d kind legs
