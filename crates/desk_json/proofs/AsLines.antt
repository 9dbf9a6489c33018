-- A line with no key of its own is read as any line of a script.
use Rattle.std.proofs.Common.{◌≡◌, ℕ, Bool, true, false, if◌then◌else◌, List, Option, None, Some, Result, Ok, Err, Ordering, Less, Equal, Greater, nat_cmp, is_eq, codes, refl, sym, ap, ◌∙◌, subst, true≢false}
use Rattle.std.specs.Prelude.{◌||◌}
use Rattle.std.specs.Ordering.{match_ordering}
use Rattle.std.specs.Str.{bytes_eq}
use Rattle.std.specs.Cmp.Lexicographic.{slice_cmp}
use Rattle.std.proofs.lemmas.Map.Text.{is_eq-slice_cmp}
use Rattle.std.proofs.lemmas.Slice.Eq.{bytes_eq-Decides}
use Rattle.serde_json.specs.Data.{Data, null, boolean, number, string, array, object, Members, no_members, member}
use Rattle.serde_json.specs.Find.{get, get_member}
use Rattle.asks.specs.declared.bad_call.BadCall.{BadCall}
use Rattle.asks.specs.declared.call.Call.{Call}
use Rattle.asks.specs.Fields.{short_at, moment_at}
use Rattle.desk_json.specs.declared.bad_call.CallFault.{CallFault}
use Rattle.desk_json.specs.declared.keys.Object.TheVariants as of
use Rattle.desk_json.specs.declared.planned.PlannedLine.{PlannedLine}
use Rattle.desk_json.specs.declared.planned.PlannedLine.TheVariants as planned
use Rattle.desk_json.specs.declared.shifts.ShiftLine.{ShiftLine}
use Rattle.desk_json.specs.declared.shifts.ShiftLine.TheVariants as shift
use Rattle.desk_json.specs.Keys.{and_then, found, is_line_key, first_extra, no_extra, only_keys}
use Rattle.desk_json.specs.Faults.{object_at, line_with, call_by, line_fields, line_in, read_as, Answers}
use Rattle.desk_json.specs.Shifts as shifts
use Rattle.desk_json.specs.Shifts.{maybe, asked_fields, shift_object, shift_fields, shift_in, shift_or_fault}
use Rattle.desk_json.specs.PlannedLines as lines
use Rattle.desk_json.specs.PlannedLines.{planned_object, planned_fields, planned_in, planned_or_fault}

-- a chain of chains, as one
joined : {A B C : Type 0} (r : Result A BadCall) (f : A → Result B BadCall) (g : B → Result C BadCall) → and_then (and_then r f) g ≡ and_then r (λ x. and_then (f x) g)
joined (Ok x) f g = refl
joined (Err b) f g = refl

-- ---- planned lines

planned_as_line : (d : Data) → get (codes "planned") d ≡ None → planned_in d ≡ and_then (line_in d) (λ line. Ok (planned.Asked line.0 line.1))
planned_as_line d none =
    ap (λ p. and_then (only_keys (planned_object p) d) (λ only. planned_fields p d)) none ∙ sym (joined (only_keys of.Line d) (λ only. line_fields d) (λ line. Ok (planned.Asked line.0 line.1)))

pub planned_line : (text : List ℕ) (r : Result PlannedLine CallFault) → Answers (planned_or_fault text) r → lines.IsLine text r
unfolding planned_or_fault
planned_line text r is = λ d same none. subst (λ s. Answers s r) (planned_as_line d none) (subst (λ o. Answers (read_as planned_in o) r) same is)

-- ---- lines of shifts

-- no member has a key that isn't found
other_at : (o : Ordering) (d : Data) (g : Option Data) → match_ordering o g (Some d) g ≡ None → (is_eq o ≡ false) × (g ≡ None)
other_at Less d g is = (refl, is)
other_at Equal d g is = absurd (cc is)
other_at Greater d g is = (refl, is)

same_extra_at : (a : Bool) (k : List ℕ) (ms : Members) → bytes_eq k (codes "desk") ≡ a → a ≡ false → first_extra of.Shift ms ≡ first_extra of.Line ms
    → (if a || is_line_key k then first_extra of.Shift ms else Some k) ≡ (if is_line_key k then first_extra of.Line ms else Some k)
same_extra_at true k ms is not same = absurd (true≢false not)
same_extra_at false k ms is not same = ap (λ rest. if is_line_key k then rest else Some k) same

same_extra : (ms : Members) → get_member (codes "desk") ms ≡ None → first_extra of.Shift ms ≡ first_extra of.Line ms
same_extra no_members none = refl
same_extra (member k d ms) none =
    let other = other_at (slice_cmp nat_cmp (codes "desk") k) d (get_member (codes "desk") ms) none in
    same_extra_at (bytes_eq k (codes "desk")) k ms refl (by (bytes_eq k (codes "desk")) refl other.0) (same_extra ms other.1)
  where
    by : (a : Bool) → bytes_eq k (codes "desk") ≡ a → is_eq (slice_cmp nat_cmp (codes "desk") k) ≡ false → a ≡ false
    by true is not =
        let same : codes "desk" ≡ k = sym ((bytes_eq-Decides k (codes "desk")).0 is) in
        absurd (true≢false (sym ((bytes_eq-Decides (codes "desk") k).1 same) ∙ sym (is_eq-slice_cmp (codes "desk") k) ∙ not))
    by false is not = refl

same_keys : (d : Data) → get (codes "desk") d ≡ None → only_keys of.Shift d ≡ only_keys of.Line d
same_keys null none = refl
same_keys (boolean b) none = refl
same_keys (number n) none = refl
same_keys (string t) none = refl
same_keys (array ds) none = refl
same_keys (object ms) none = ap no_extra (same_extra ms none)

abbrev line_of : ℕ → Call → ℕ × Call
line_of at call = (at, call)

-- a line without a desk, whose other keys are read alike
without_desk : (d : Data) (a : Option (List ℕ)) (i : Option Data) (m : Option ℕ) (p : Option (List ℕ))
    → and_then (found (codes "actor") d a) (λ actor. and_then (found (codes "ask") d i) (λ ask. and_then (found (codes "at") d m) (λ at.
    and_then (maybe None (found (codes "desk") d p)) (λ desk. and_then (call_by actor ask d) (λ call. Ok (shift.Asked at call desk))))))
    ≡ and_then (and_then (found (codes "actor") d a) (λ actor. and_then (found (codes "ask") d i) (λ ask. and_then (found (codes "at") d m) (λ at.
    and_then (call_by actor ask d) (λ call. Ok (line_of at call)))))) (λ line. Ok (shift.Asked line.0 line.1 None))
without_desk d None i m p = refl
without_desk d (Some actor) None m p = refl
without_desk d (Some actor) (Some ask) None p = refl
without_desk d (Some actor) (Some ask) (Some at) p = sym (joined (call_by actor ask d) (λ call. Ok (line_of at call)) (λ line. Ok (shift.Asked line.0 line.1 None)))

asked_as_line : (d : Data) → get (codes "desk") d ≡ None → asked_fields d ≡ and_then (line_fields d) (λ line. Ok (shift.Asked line.0 line.1 None))
asked_as_line d none =
    ap (λ o. line_with d (λ actor ask at. and_then (maybe o (found (codes "desk") d (short_at (codes "desk") d))) (λ desk. and_then (call_by actor ask d) (λ call. Ok (shift.Asked at call desk))))) none
    ∙ without_desk d (short_at (codes "actor") d) (object_at (codes "ask") d) (moment_at (codes "at") d) (short_at (codes "desk") d)

shift_as_line : (d : Data) → get (codes "relief") d ≡ None → get (codes "desk") d ≡ None → shift_in d ≡ and_then (line_in d) (λ line. Ok (shift.Asked line.0 line.1 None))
shift_as_line d none no_desk =
    ap (λ o. and_then (only_keys (shift_object o) d) (λ only. shift_fields o d)) none
    ∙ ap (λ keys. and_then keys (λ only. asked_fields d)) (same_keys d no_desk)
    ∙ ap (λ read. and_then (only_keys of.Line d) (λ only. read)) (asked_as_line d no_desk)
    ∙ sym (joined (only_keys of.Line d) (λ only. line_fields d) (λ line. Ok (shift.Asked line.0 line.1 None)))

pub shift_line : (text : List ℕ) (r : Result ShiftLine CallFault) → Answers (shift_or_fault text) r → shifts.IsLine text r
unfolding shift_or_fault
shift_line text r is = λ d same none no_desk. subst (λ s. Answers s r) (shift_as_line d none no_desk) (subst (λ o. Answers (read_as shift_in o) r) same is)
