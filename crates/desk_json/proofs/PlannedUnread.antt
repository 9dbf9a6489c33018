-- Of the keys of a planned line that are missing or whose value doesn't fit the least is named.
use Rattle.std.proofs.Common.{inl, inr, ℕ, Bool, true, false, if◌then◌else◌, List, Option, None, Some, Result, Ok, Err, codes, refl}
use Rattle.std.specs.Prelude.{MatchBool}
use Rattle.serde_json.specs.Data.{Data}
use Rattle.serde_json.specs.Find.{get}
use Rattle.asks.specs.declared.bad_call.BadCall.{BadCall}
use Rattle.asks.specs.declared.call.Call.{Call}
use Rattle.desk_json.specs.declared.bad_call.CallFault.{CallFault}
use Rattle.desk_json.specs.declared.keys.Object.TheVariants as of
use Rattle.desk_json.specs.declared.planned.PlannedLine.{PlannedLine}
use Rattle.desk_json.specs.declared.planned.PlannedLine.TheVariants.{Asked}
use Rattle.desk_json.specs.Keys.{and_then, is_key, is_line_key, is_planned_key, is_turn_key}
use Rattle.desk_json.specs.Faults.{object_at, request_at, line_fields, Answers, IsUnreadOfLine, IsUnreadNamed, NamesUnreadOf}
use Rattle.desk_json.specs.PlannedLines.{is_turn, planned_object, filed_fields, turn_fields, planned_fields, planned_or_fault, may_have, IsUnreadOfFiled, IsUnreadOfTurn, IsUnreadBy, IsUnreadOfPlanned}
use Rattle.desk_json.proofs.Results.{told}
use Rattle.desk_json.proofs.Unread.{here, before, line_first, names}
use Rattle.desk_json.proofs.SenderLaws.{sender_here, sender_past}

-- what is named of a line is named of what is made of it
made_of_line : (expected : List ℕ → Bool) (unread : Data → List ℕ → Type 0) (d : Data) (k : List ℕ) (r : Result (ℕ × Call) BadCall) → ((q : List ℕ) → IsUnreadOfLine d q → unread d q)
    → IsUnreadNamed expected IsUnreadOfLine d k (told r) → IsUnreadNamed expected unread d k (told (and_then r (λ line. Ok (Asked line.0 line.1))))
made_of_line expected unread d k (Ok line) at is = is
made_of_line expected unread d k (Err b) at (inl is) = inl is
made_of_line expected unread d k (Err b) at (inr is) = inr (is.0, at b.key is.1, is.2)

module _ (unread : Data → List ℕ → Type 0) (d : Data) (k : List ℕ) where
  filed_first : ((q : List ℕ) → IsUnreadOfFiled d q → unread d q) → IsUnreadOfFiled d k → IsUnreadNamed is_planned_key unread d k (told (filed_fields d))
  filed_first at (inr is) = sender_here is_planned_key unread d k _ (λ q u. at q (inr u)) is
  filed_first at (inl (same, none)) =
      sender_past is_planned_key unread d k _ (λ q u. at q (inr u)) (before (codes "actor") (codes "planned") k same refl) (before (codes "at") (codes "planned") k same refl) (before (codes "key") (codes "planned") k same refl) (λ s.
      here is_planned_key unread (codes "planned") k d (object_at (codes "planned") d) _ same none (at (codes "planned") (inl (refl, none))))

  turn_first : ((q : List ℕ) → IsUnreadOfTurn d q → unread d q) → IsUnreadOfTurn d k → IsUnreadNamed is_turn_key unread d k (told (turn_fields d))
  turn_first at (inr is) = sender_here is_turn_key unread d k _ (λ q u. at q (inr u)) is
  turn_first at (inl (same, none)) =
      sender_past is_turn_key unread d k _ (λ q u. at q (inr u)) (before (codes "actor") (codes "number") k same refl) (before (codes "at") (codes "number") k same refl) (before (codes "key") (codes "number") k same refl) (λ s.
      here is_turn_key unread (codes "number") k d (request_at (codes "number") d) _ same none (at (codes "number") (inl (refl, none))))

  some_first : (b : Bool) → ((q : List ℕ) → MatchBool b (IsUnreadOfTurn d q) (IsUnreadOfFiled d q) → unread d q) → MatchBool b (IsUnreadOfTurn d k) (IsUnreadOfFiled d k)
      → IsUnreadNamed (is_key (if b then of.Turn else of.Planned)) unread d k (told (if b then turn_fields d else filed_fields d))
  some_first true at is = turn_first at is
  some_first false at is = filed_first at is

  fields_first : (o : Option Data) → ((q : List ℕ) → IsUnreadBy o d q → unread d q) → IsUnreadBy o d k → IsUnreadNamed (is_key (planned_object o)) unread d k (told (planned_fields o d))
  fields_first None at is = made_of_line is_line_key unread d k (line_fields d) at (line_first d k is)
  fields_first (Some planned) at is = some_first (is_turn planned) at is

pub planned_unread : (text : List ℕ) (r : Result PlannedLine CallFault) → Answers (planned_or_fault text) r → NamesUnreadOf may_have IsUnreadOfPlanned text r
unfolding planned_or_fault
planned_unread text r is =
    names (λ d. planned_object (get (codes "planned") d)) IsUnreadOfPlanned (λ d. planned_fields (get (codes "planned") d) d) text r
    (λ d k none. fields_first IsUnreadOfPlanned d k (get (codes "planned") d) (λ q u. u) none) is
