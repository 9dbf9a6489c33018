-- The moment and the call of a record of an import, or its first fault.
use Rattle.std.specs.Prelude.{◌≡◌, ℕ, Bool, true, false, ◌&&◌, ◌==◌, nat_le, List, [], ◌∷◌, length, Option, None, Some, Result, Ok, Err, codes, decimal}
use Rattle.std.specs.Str.Lossy.{utf8_valid_len}
use Rattle.asks.specs.declared.bad_call.BadCall.{BadCall}
use Rattle.asks.specs.declared.bad_call.CallWhy.{CallWhy}
use Rattle.asks.specs.declared.bad_call.CallWhy.TheVariants.{Missing, BadValue}
use Rattle.asks.specs.declared.call.Ask.TheVariants.{Admit}
use Rattle.asks.specs.declared.call.Call.{Call}
use Rattle.asks.specs.Forms.{CallHasForms}
use Rattle.desk_time.specs.Limits.{IsMoment}
use Rattle.desk_time.specs.Moments.{minute_of, shown}
use Rattle.desk_time.specs.Numbers.{number_in}

-- a moment and a call, or the first fault
abbrev pub Line : Type 0
Line = Result (ℕ × Call) BadCall

abbrev pub bad : CallWhy → List ℕ → Line
bad why key = Err (record { why = why; key = key })

-- the field is UTF-8
abbrev pub is_text : List ℕ → Bool
is_text field = utf8_valid_len field == length field

-- the field is UTF-8 and has at most 64 bytes
abbrev pub is_short : List ℕ → Bool
is_short field = is_text field && nat_le (length field) 64

-- a person's call that admits a report
abbrev pub admit_of : List ℕ → List ℕ → ℕ → List ℕ → Call
admit_of actor key number text = record { actor = actor; key = key; number = number; ask = Admit text }

-- ---- one field after another

-- continues if the field of this name is well-formed, otherwise reports it
abbrev pub formed : Bool → List ℕ → Line → Line
formed true name rest = rest
formed false name rest = bad BadValue name

-- continues with what was read of the field of this name, or reports it
abbrev pub read_as : Option ℕ → List ℕ → (ℕ → Line) → Line
read_as None name rest = bad BadValue name
read_as (Some x) name rest = rest x

-- the line of five fields, or the first malformed field
abbrev pub line_of : List ℕ → List ℕ → List ℕ → List ℕ → List ℕ → Line
line_of actor key number at text =
    formed (is_short actor) (codes "actor") (formed (is_short key) (codes "key")
    (read_as (number_in 1_000_000_000_000 number) (codes "number") (λ n.
    read_as (minute_of at) (codes "at") (λ m.
    formed (is_text text) (codes "text") (Ok (m, admit_of actor key n text))))))

-- the line of a record; a record that hasn't five fields is reported as missing
abbrev pub record_or_fault : List (List ℕ) → Line
record_or_fault (actor ∷ key ∷ number ∷ at ∷ text ∷ []) = line_of actor key number at text
record_or_fault _ = bad Missing (codes "record")

-- ---- laws

-- The record that is written for a call at a moment: the person, his key, the number in decimal, the moment, and the
-- report.
pub record IsRecordOf (at : ℕ) (call : Call) (fields : List (List ℕ)) : Type 0 where
  pub text : List ℕ
  pub admits : call.ask ≡ Admit text
  pub written : fields ≡ call.actor ∷ call.key ∷ decimal call.number ∷ shown at ∷ text ∷ []
  pub moment : IsMoment at
  pub forms : CallHasForms call

-- the call is well-formed, and its moment is in the range that the desk reads
abbrev pub HasForms : Line → Type 0
HasForms (Ok line) = IsMoment line.0 × CallHasForms line.1
HasForms (Err fault) = Unit {0}
