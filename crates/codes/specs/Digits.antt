-- Decimal digits and the numbers that they write.
use Rattle.std.specs.Prelude.{◌≡◌, ℕ, ◌+◌, ◌*◌, ◌≤◌, List, [], ◌∷◌}

-- the character is the digit n
pub record IsDigitOf (character n : ℕ) : Type 0 where
  pub shown : character ≡ 48 + n
  pub single : n ≤ 9

-- one or two digits and their number
pub data OneOrTwoDigits : List ℕ → ℕ → Type 0 where
  one : {a m : ℕ} → IsDigitOf a m → OneOrTwoDigits (a ∷ []) m
  two : {a b m n : ℕ} → IsDigitOf a m → IsDigitOf b n → OneOrTwoDigits (a ∷ b ∷ []) (10 * m + n)

-- three digits and their number
pub data ThreeDigits : List ℕ → ℕ → Type 0 where
  three : {a b c l m n : ℕ} → IsDigitOf a l → IsDigitOf b m → IsDigitOf c n → ThreeDigits (a ∷ b ∷ c ∷ []) (100 * l + 10 * m + n)

-- four digits and their number
pub data FourDigits : List ℕ → ℕ → Type 0 where
  four : {a b c d k l m n : ℕ} → IsDigitOf a k → IsDigitOf b l → IsDigitOf c m → IsDigitOf d n → FourDigits (a ∷ b ∷ c ∷ d ∷ []) (1000 * k + 100 * l + 10 * m + n)
