-- What a server's answer to a request says: its messages, up to ReadyForQuery.
use Rattle.std.specs.Prelude.{◌≡◌, ℕ, ◌+◌, ◌==◌, nat_lt, ◌||◌, Bool, true, false, if◌then◌else◌, List, [], ◌∷◌, ◌++◌, take, Option, None, Some, is_some}
use Rattle.std.specs.Str.{bytes_eq}
use Rattle.desk_time.specs.Digits.{◌>>=◌}
use Rattle.pg_wire.specs.Backend.{Message, all_bytes}
use Rattle.pg_wire.specs.declared.session.Answer.{Answer}

-- how many commands were completed, whether the server reported an error, and whether the latest row is `true_row`
pub record Told : Type 0 where
  pub completed : ℕ
  pub failed : Bool
  pub is_true : Bool

abbrev pub told : ℕ → Bool → Bool → Told
told completed failed is_true = record { completed = completed; failed = failed; is_true = is_true }

-- nothing was said yet
abbrev pub silent : Told
silent = told 0 false false

abbrev pub told_of : Answer → Told
told_of a = told a.completed (is_some a.refused) a.is_true

-- the content of a DataRow with one column, the text `t` of a true boolean
abbrev pub true_row : List ℕ
true_row = 0 ∷ 1 ∷ 0 ∷ 0 ∷ 0 ∷ 1 ∷ 116 ∷ []

-- a message that changes nothing: ParseComplete, BindComplete, NoData, RowDescription, ParameterStatus,
-- NotificationResponse
abbrev pub is_idle : ℕ → Bool
is_idle tag = (tag == 49) || (tag == 50) || (tag == 110) || (tag == 84) || (tag == 83) || (tag == 65)

-- at most 100,000,000 commands are counted
abbrev pub one_more : Told → Option Told
one_more t = if nat_lt t.completed 100_000_000 then Some (told (t.completed + 1) t.failed t.is_true) else None

-- What a message with this tag and this front of its content adds: CommandComplete, DataRow, ErrorResponse, or
-- nothing. Any other message ends the session, also a notice: a server so warns that it stopped waiting for a standby
-- after a commit.
unfoldable pub noted : Told → ℕ → List ℕ → Option Told
noted t tag content =
    if tag == 67 then one_more t else
    (if tag == 68 then Some (told t.completed t.failed (bytes_eq content true_row)) else
    (if tag == 69 then Some (told t.completed true t.is_true) else
    (if is_idle tag then Some t else None)))

-- what messages say after what was said before, unless one of them ends the session
unfoldable pub told_by : Told → List Message → Option Told
told_by t [] = Some t
told_by t (m ∷ messages) = noted t m.0 (take 512 m.1) >>= λ u. told_by u messages

-- ReadyForQuery outside a transaction
abbrev pub ready : List ℕ
ready = 90 ∷ 0 ∷ 0 ∷ 0 ∷ 5 ∷ 73 ∷ []

-- The messages that came say this, and then the server was ready outside a transaction.
pub record HasAnswered (before after : List ℕ) (t : Told) : Type 0 where
  pub messages : List Message
  pub read : after ≡ before ++ all_bytes messages ++ ready
  pub says : told_by silent messages ≡ Some t
