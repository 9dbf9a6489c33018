-- Names of the desk's forms are printable characters without blanks.
use Rattle.std.proofs.Common.{◌≡◌, ℕ, ◌&&◌, true, List, [], ◌∷◌, length, nat_le, refl, arith}
use Rattle.std.specs.List.{list_all}
use Rattle.std.proofs.lemmas.Bool.{and_parts}
use Rattle.std.proofs.lemmas.Bool.Decides.{nat_tests}
use Rattle.desk_io.specs.Station.{is_station}
use Rattle.ops_tables.specs.Forms.{in_key}
use Rattle.plan.specs.declared.flights.Plan.{Plan}
use Rattle.asks.specs.declared.plans.Form.{Form}
use Rattle.asks.specs.declared.plans.Form.TheVariants.{Flight, Tail, Captain}
use Rattle.asks.specs.Forms.{HasForms}
use Rattle.asks.specs.Plans.{has_form, is_of_form, longest}

printable : (form : Form) (b : ℕ) → is_of_form form b ≡ true → in_key b ≡ true
printable Flight b is = grind (arith, nat_tests, is)
printable Tail b is = grind (arith, nat_tests, is)
printable Captain b is = grind (arith, nat_tests, is)

all_printable : (form : Form) (t : List ℕ) → list_all (is_of_form form) t ≡ true → list_all in_key t ≡ true
all_printable form [] is = refl
all_printable form (b ∷ t) is =
    let parts = and_parts (is_of_form form b) (list_all (is_of_form form) t) is in
    rw (printable form b parts.0) (all_printable form t parts.1)

name_printable : (form : Form) (t : List ℕ) → has_form form t ≡ true → list_all in_key t ≡ true
name_printable form t is = all_printable form t ((and_parts (nat_le 1 (length t) && nat_le (length t) (longest form)) (list_all (is_of_form form) t) is).1)

pub names_printable : (p : Plan) → HasForms p → (list_all in_key p.flight ≡ true) × (list_all in_key p.tail ≡ true) × (list_all in_key p.captain ≡ true)
names_printable p is = (name_printable Flight p.flight is.flight, name_printable Tail p.tail is.tail, name_printable Captain p.captain is.captain)

pub station_printable : (s : List ℕ) → is_station s ≡ true → list_all in_key s ≡ true
station_printable [] is = absurd (cc is)
station_printable (a ∷ []) is = absurd (cc is)
station_printable (a ∷ b ∷ []) is = absurd (cc is)
station_printable (a ∷ b ∷ c ∷ []) is = absurd (cc is)
station_printable (a ∷ b ∷ c ∷ d ∷ []) is = grind (arith, nat_tests, is)
station_printable (a ∷ b ∷ c ∷ d ∷ e ∷ rest) is = absurd (cc is)
