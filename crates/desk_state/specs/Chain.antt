-- Chains of tests: each test gives a value or a refusal, and the first refusal counts.
use Rattle.std.specs.Prelude.{Bool, true, false, Option, None, Some, Result, Ok, Err}
use Rattle.asks.specs.declared.reply.Refusal.{Refusal}

infixl 10 ◌>>-◌
-- continues with the value of a test, unless it refused
abbrev pub ◌>>-◌ : {A B : Type 0} → Result A Refusal → (A → Result B Refusal) → Result B Refusal
(Err refusal) >>- f = Err refusal
(Ok a) >>- f = f a

-- refuses if a test does, and otherwise continues
abbrev pub unless : {A : Type 0} → Option Refusal → Result A Refusal → Result A Refusal
unless None rest = rest
unless (Some refusal) rest = Err refusal

abbrev pub some_or : {A : Type 0} → Refusal → Option A → Result A Refusal
some_or refusal None = Err refusal
some_or refusal (Some a) = Ok a

abbrev pub refused_if : Bool → Refusal → Option Refusal
refused_if true refusal = Some refusal
refused_if false refusal = None
