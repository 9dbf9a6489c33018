-- What holds of the result of a chain of readers, and of what is answered of it.
use Rattle.std.proofs.Common.{◌≡◌, ℕ, List, Option, None, Some, IfOk, Result, Ok, Err, IfSome, refl, sym, ap, ◌∙◌, subst}
use Rattle.serde_json.specs.Data.{Data}
use Rattle.serde_json.specs.Find.{get}
use Rattle.asks.specs.declared.bad_call.BadCall.{BadCall}
use Rattle.desk_json.specs.declared.bad_call.CallFault.{CallFault}
use Rattle.desk_json.specs.declared.bad_call.CallFault.TheVariants as fault
use Rattle.desk_json.specs.Keys.{bad, lack, and_then, found}
use Rattle.desk_json.specs.Faults.{Answers, Gives}

-- a result, answered with memory
abbrev pub told : {A : Type 0} → Result A BadCall → Result A CallFault
told (Ok x) = Ok x
told (Err b) = Err (fault.Bad b)

-- what holds of that and of want of memory holds of each answer
pub answered : {A : Type 0} (N : Result A CallFault → Type 0) (s : Result A BadCall) (r : Result A CallFault) → N (Err fault.OutOfMemory) → N (told s) → Answers s r → N r
answered N s (Ok x) memory held is = subst (λ t. N (told t)) is held
answered N s (Err (fault.Bad b)) memory held is = subst (λ t. N (told t)) is held
answered N s (Err fault.OutOfMemory) memory held is = memory

-- what is read is answered
pub gives : {A : Type 0} (x : A) (s : Result A BadCall) (r : Result A CallFault) → s ≡ Ok x → Answers s r → Gives x r
gives x s r same is = answered (Gives x) s r tt (subst (λ t. Gives x (told t)) (sym same) refl) is

-- after a key: nothing is read there, or what follows
pub chain : {A B : Type 0} (N : Result B CallFault → Type 0) (key : List ℕ) (d : Data) (o : Option A) (f : A → Result B BadCall)
    → (o ≡ None → N (Err (fault.Bad (bad (lack (get key d)) key)))) → ((x : A) → o ≡ Some x → N (told (f x))) → N (told (and_then (found key d o) f))
chain N key d None f none some = none refl
chain N key d (Some x) f none some = some x refl

-- after any reader
pub after : {A B : Type 0} (N : Result B CallFault → Type 0) (r : Result A BadCall) (f : A → Result B BadCall)
    → ((b : BadCall) → r ≡ Err b → N (Err (fault.Bad b))) → ((x : A) → r ≡ Ok x → N (told (f x))) → N (told (and_then r f))
after N (Ok x) f none some = some x refl
after N (Err b) f none some = none b refl

-- what holds of what is read where something is read
pub formed : {A B : Type 0} (key : List ℕ) (d : Data) (o : Option A) (f : A → Result B BadCall) (P : A → Type 0) (Q : B → Type 0)
    → IfSome o P → ((x : A) → P x → IfOk (told (f x)) Q) → IfOk (told (and_then (found key d o) f)) Q
formed key d None f P Q held next = tt
formed key d (Some x) f P Q held next = next x held

pub formed_after : {A B : Type 0} (r : Result A BadCall) (f : A → Result B BadCall) (P : A → Type 0) (Q : B → Type 0)
    → IfOk (told r) P → ((x : A) → P x → IfOk (told (f x)) Q) → IfOk (told (and_then r f)) Q
formed_after (Err b) f P Q held next = tt
formed_after (Ok x) f P Q held next = next x held

-- a key at which something is read
pub passed : {A B : Type 0} (key : List ℕ) (d : Data) (o : Option A) (f : A → Result B BadCall) (x : A) (y : Result B BadCall) → o ≡ Some x → f x ≡ y → and_then (found key d o) f ≡ y
passed key d o f x y is next = ap (λ p. and_then (found key d p) f) is ∙ next

pub passed_after : {A B : Type 0} (r : Result A BadCall) (f : A → Result B BadCall) (x : A) (y : Result B BadCall) → r ≡ Ok x → f x ≡ y → and_then r f ≡ y
passed_after r f x y is next = ap (λ p. and_then p f) is ∙ next
