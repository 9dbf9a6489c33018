-- The results that code may return for the tests of an ask.
use Rattle.std.specs.Prelude.{◌≡◌, Option, None, Some, Result, Ok, Err}
use Rattle.asks.specs.declared.reply.Refusal.{Refusal}
use Rattle.decisions.specs.declared.chain.Stop.{Stop}
use Rattle.decisions.specs.declared.chain.Stop.TheVariants as stop

-- the code returns this value, this refusal, or out of memory
abbrev pub Answers : {T A : Type 0} → (T → A) → Result T Stop → Result A Refusal → Type 0
Answers f (Ok t) wanted = Ok (f t) ≡ wanted
Answers f (Err (stop.Refused x)) wanted = Err x ≡ wanted
Answers f (Err stop.OutOfMemory) wanted = Unit {0}

-- the test passes or refuses as wanted, or memory runs out
abbrev pub Passes : {T : Type 0} → Result T Stop → Option Refusal → Type 0
Passes (Ok t) wanted = wanted ≡ None
Passes (Err (stop.Refused x)) wanted = wanted ≡ Some x
Passes (Err stop.OutOfMemory) wanted = Unit {0}

-- one test, and a second one if the first passes
abbrev pub in_turn : Option Refusal → Option Refusal → Option Refusal
in_turn None later = later
in_turn (Some refusal) later = Some refusal

abbrev pub IsWant : Stop → Type 0
IsWant s = s ≡ stop.OutOfMemory
