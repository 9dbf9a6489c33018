-- The hours that a revision keeps are few enough to be kept.
use Rattle.std.proofs.Common.{◌≡◌, ◌≤◌, ℕ, Bool, ◌&&◌, true, List, Option, None, Some, IfSome, find, sym, subst, arith}
use Rattle.ops_tables.specs.Named.{AreNamed}
use Rattle.ops_tables.specs.Tables.{TableRows, hours_by, hours_of, type_of}
use Rattle.ops_tables.specs.Rows.{CaptainHours}
use Rattle.ops_tables.specs.declared.rows.TypeRow.{TypeRow}
use Rattle.plan.specs.declared.flights.Plan.{Plan}
use Rattle.asks.specs.Forms.{IsHours}
use Rattle.desk_state.specs.Hours.{hours_in, captain_hours}
use Rattle.desk_state.proofs.NameForms.{found_has}
use Rattle.std.specs.Str.{bytes_eq}

abbrev is_of : List ℕ → List ℕ → CaptainHours → Bool
is_of captain kind row = bytes_eq row.captain captain && bytes_eq row.kind kind

found_small : (captain kind : List ℕ) (o : Option CaptainHours) → IfSome o (λ row. (row.hours ≤ 100_000) × (is_of captain kind row ≡ true)) → IsHours (hours_by o)
found_small captain kind None small = omega arith
found_small captain kind (Some row) small = small.0

hours_small : (tables : TableRows) (captain kind : List ℕ) → AreNamed tables → IsHours (hours_of tables captain kind)
hours_small tables captain kind named =
    found_small captain kind (find (is_of captain kind) tables.hours) (found_has (λ row. row.hours ≤ 100_000) (is_of captain kind) tables.hours named.hours)

in_small : (tables : TableRows) (captain : List ℕ) (o : Option TypeRow) → AreNamed tables → IsHours (hours_in tables captain o)
in_small tables captain None named = omega arith
in_small tables captain (Some aircraft) named = hours_small tables captain aircraft.kind named

pub captain_small : (tables : TableRows) (plan : Plan) → AreNamed tables → IsHours (captain_hours tables plan)
unfolding captain_hours
captain_small tables plan named = in_small tables plan.captain (type_of tables plan.tail) named

-- hours that are those, none, or those of a revision that has its forms
pub hours_formed : (o : Option ℕ) (n : ℕ) → o ≡ Some n → IsHours n → IfSome o IsHours
hours_formed o n e is = subst (λ (p : Option ℕ). IfSome p IsHours) (sym e) is

pub no_hours : (o : Option ℕ) → o ≡ None → IfSome o IsHours
no_hours o e = subst (λ (p : Option ℕ). IfSome p IsHours) (sym e) tt

pub same_hours : (o p : Option ℕ) → o ≡ p → IfSome p IsHours → IfSome o IsHours
same_hours o p e is = subst (λ (q : Option ℕ). IfSome q IsHours) (sym e) is
