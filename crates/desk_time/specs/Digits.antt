-- Digits, and chains of steps that may return nothing.
use Rattle.std.specs.Prelude.{ℕ, ◌+◌, ◌-◌, ◌*◌, nat_le, ◌&&◌, if◌then◌else◌, Option, None, Some}

infixl 10 ◌>>=◌
-- the next step, if the one before it returned something
abbrev pub ◌>>=◌ : {A B : Type 0} → Option A → (A → Option B) → Option B
None >>= f = None
(Some x) >>= f = f x

-- the first number if there is one, otherwise the second
abbrev pub or_else : Option ℕ → Option ℕ → Option ℕ
or_else None second = second
or_else (Some first) second = Some first

-- the value of an ASCII digit
abbrev pub digit : ℕ → Option ℕ
digit a = if nat_le 48 a && nat_le a 57 then Some (a - 48) else None

-- the value of two ASCII digits
abbrev pub pair : ℕ → ℕ → Option ℕ
pair a b = do
  tens ← digit a
  ones ← digit b
  Some (10 * tens + ones)
