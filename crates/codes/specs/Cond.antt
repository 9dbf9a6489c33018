-- The condition that consecutive groups report, and the first of them that is malformed.
use Rattle.std.specs.Prelude.{ℕ, ◌+◌, nat_le, ◌&&◌, ◌||◌, ◌==◌, min, Bool, if◌then◌else◌, true, false, List, [], ◌∷◌, Option, None, Some, Result, Ok, Err}
use Rattle.std.specs.List.{list_any}
use Rattle.codes.specs.declared.shapes.Named.{Named}
use Rattle.codes.specs.declared.shapes.Named.TheVariants.{Value, Unmeasured, Nothing, Bad}
use Rattle.codes.specs.declared.cond.Cond.{Cond}
use Rattle.codes.specs.declared.fault.Why.{Why}
use Rattle.codes.specs.declared.fault.Why.TheVariants.{BadVisibility, BadSky, BadPeriod}
use Rattle.codes.specs.declared.fault.BadReport.{BadReport}
use Rattle.codes.specs.declared.fault.Form.{Form}
use Rattle.codes.specs.declared.fault.Form.TheVariants.{Report, Forecast}
use Rattle.codes.specs.declared.shapes.Elements.{Elements}
use Rattle.codes.specs.declared.cond.Stretch.{Stretch}
use Rattle.codes.specs.declared.cond.Found.{Found}
use Rattle.codes.specs.Groups.{first_of}
use Rattle.codes.specs.Shapes.{visibility_after, sky, are_digits, elements_of}
use Rattle.codes.specs.Class.{class_of, is_unread, one_if, unread_count}

-- the lesser of two values, or the only one that is present
abbrev pub lesser : Option ℕ → Option ℕ → Option ℕ
lesser None b = b
lesser (Some x) None = Some x
lesser (Some x) (Some y) = Some (min x y)

abbrev pub value_of : Named → Option ℕ
value_of (Value n) = Some n
value_of Unmeasured = None
value_of Nothing = None
value_of Bad = None

-- The least value that the groups report, if `f` reads each group, given the group before it.
abbrev pub least : (List ℕ → List ℕ → Named) → List ℕ → List (List ℕ) → Option ℕ
least f before [] = None
least f before (g ∷ gs) = lesser (value_of (f before g)) (least f g gs)

abbrev pub sky_after : List ℕ → List ℕ → Named
sky_after before g = sky g

abbrev pub is_unmeasured_name : Named → Bool
is_unmeasured_name (Value n) = false
is_unmeasured_name Unmeasured = true
is_unmeasured_name Nothing = false
is_unmeasured_name Bad = false

-- a layer whose height wasn't measured
abbrev pub is_unmeasured : List ℕ → Bool
is_unmeasured g = is_unmeasured_name (sky g)

-- An unmeasured layer makes the ceiling unknown, unless the least height is below 100,000 feet.
abbrev pub ceiling_of : Option ℕ → Bool → Option ℕ
ceiling_of None unmeasured = None
ceiling_of (Some n) unmeasured = if unmeasured && nat_le 100_000 n then None else Some n

-- the condition of the groups read so far
abbrev pub cond_with : Found → Cond
cond_with found = record { ceiling = ceiling_of found.height found.unmeasured; vis = found.vis }

-- the condition that groups report: the least visibility and the least ceiling
unfoldable pub named_cond : List (List ℕ) → Cond
named_cond gs = record { ceiling = ceiling_of (least sky_after [] gs) (list_any is_unmeasured gs); vis = least visibility_after [] gs }

abbrev pub is_bad : Named → Bool
is_bad (Value n) = false
is_bad Unmeasured = false
is_bad Nothing = false
is_bad Bad = true

-- four digits, / and four digits, the form of a forecast's period
abbrev pub is_period : List ℕ → Bool
is_period (a ∷ b ∷ c ∷ d ∷ s ∷ e ∷ f ∷ g ∷ h ∷ []) = (s == 47) && are_digits (a ∷ b ∷ c ∷ d ∷ []) && are_digits (e ∷ f ∷ g ∷ h ∷ [])
is_period _ = false

-- A report's body has no period. A period there shows a forecast without the word TAF.
abbrev pub period_fault : Form → List ℕ → Option Why
period_fault Report g = if is_period g then Some BadPeriod else None
period_fault Forecast g = None

-- why a group with these elements is malformed
abbrev pub fault_by : Form → Elements → List ℕ → Option Why
fault_by form elements g = if is_bad elements.vis then Some BadVisibility else (if is_bad elements.sky then Some BadSky else period_fault form g)

-- why a group is malformed
unfoldable pub shape_fault : Form → List ℕ → Option Why
shape_fault form g = fault_by form (elements_of g) g

abbrev pub fault_or : Option Why → ℕ → Option BadReport → Option BadReport
fault_or None n later = later
fault_or (Some why) n later = Some (record { group = n; why = why })

-- the first malformed group, if the groups are numbered from n
abbrev pub first_fault : Form → ℕ → List (List ℕ) → Option BadReport
first_fault form n [] = None
first_fault form n (g ∷ gs) = fault_or (shape_fault form g) n (first_fault form (n + 1) gs)

abbrev pub cond_unless : Option BadReport → List (List ℕ) → Result Cond BadReport
cond_unless None gs = Ok (named_cond gs)
cond_unless (Some bad) gs = Err bad

-- the condition of groups numbered from n, or their first fault
unfoldable pub cond_of : Form → ℕ → List (List ℕ) → Result Cond BadReport
cond_of form n gs = cond_unless (first_fault form n gs) gs

-- how many groups of a report have class Unread; 0 for a forecast
abbrev pub unread_in : Form → List (List ℕ) → ℕ
unread_in Report gs = unread_count gs
unread_in Forecast gs = 0

abbrev pub stretch_with : Result Cond BadReport → ℕ → Result Stretch BadReport
stretch_with (Ok cond) unread = Ok (record { cond = cond; unread = unread })
stretch_with (Err bad) unread = Err bad

-- the reading of groups numbered from n, or their first fault
unfoldable pub stretch_of : Form → ℕ → List (List ℕ) → Result Stretch BadReport
stretch_of form n gs = stretch_with (cond_of form n gs) (unread_in form gs)

-- 1 if the group is one of a report and has class Unread, otherwise 0
abbrev pub unread_one : Form → List ℕ → List ℕ → ℕ
unread_one Report g next = one_if (is_unread (class_of g next))
unread_one Forecast g next = 0

-- the reading after one more group, given the groups before and after it
abbrev pub found_with : Form → Found → List ℕ → List ℕ → List ℕ → Found
found_with form found before g next = record {
  vis = lesser found.vis (value_of (visibility_after before g));
  height = lesser found.height (value_of (sky g));
  unmeasured = found.unmeasured || is_unmeasured g;
  unread = found.unread + unread_one form g next;
}

abbrev pub nothing_found : Found
nothing_found = record { vis = None; height = None; unmeasured = false; unread = 0 }

-- the reading after more groups, which follow the group `before`
abbrev pub found_in : Form → Found → List ℕ → List (List ℕ) → Found
found_in form found before [] = found
found_in form found before (g ∷ gs) = found_in form (found_with form found before g (first_of gs)) g gs
