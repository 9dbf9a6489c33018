-- What holds of the value at the end of a chain, where there is one.
use Rattle.std.proofs.Common.{◌≡◌, Bool, true, false, if◌then◌else◌, Option, None, Some, IfSome, refl}
use Rattle.std.specs.Prelude.{option_and_then}
use Rattle.std.specs.Option.{option_map}
use Rattle.desk_time.specs.Digits.{◌>>=◌}

pub bind_if : {A B : Type 0} (o : Option A) (f : A → Option B) (P : A → Type 0) (Q : B → Type 0) → IfSome o P → ((x : A) → P x → IfSome (f x) Q) → IfSome (o >>= f) Q
bind_if None f P Q held next = tt
bind_if (Some x) f P Q held next = next x held

pub bind_any : {A B : Type 0} (o : Option A) (f : A → Option B) (Q : B → Type 0) → ((x : A) → IfSome (f x) Q) → IfSome (o >>= f) Q
bind_any None f Q next = tt
bind_any (Some x) f Q next = next x

pub then_if : {A B : Type 0} (f : A → Option B) (o : Option A) (Q : B → Type 0) → ((x : A) → IfSome (f x) Q) → IfSome (option_and_then f o) Q
then_if f None Q next = tt
then_if f (Some x) Q next = next x

-- under a test
pub under : {A : Type 0} (b : Bool) (o : Option A) (Q : A → Type 0) → (b ≡ true → IfSome o Q) → IfSome (if b then o else None) Q
under true o Q held = held refl
under false o Q held = tt

-- on either side of a test
pub either : {A : Type 0} (b : Bool) (o p : Option A) (Q : A → Type 0) → IfSome o Q → IfSome p Q → IfSome (if b then o else p) Q
either true o p Q one two = one
either false o p Q one two = two

pub mapped : {A B : Type 0} (f : A → B) (o : Option A) (P : A → Type 0) (Q : B → Type 0) → IfSome o P → ((x : A) → P x → Q (f x)) → IfSome (option_map f o) Q
mapped f None P Q held next = tt
mapped f (Some x) P Q held next = next x held

pub both_held : {A : Type 0} (o : Option A) (P Q : A → Type 0) → IfSome o P → IfSome o Q → IfSome o (λ x. P x × Q x)
both_held None P Q one two = tt
both_held (Some x) P Q one two = (one, two)

-- with what is known of the step before, and of a test
pub bind_known : {A B : Type 0} (o : Option A) (f : A → Option B) (Q : B → Type 0) → ((x : A) → o ≡ Some x → IfSome (f x) Q) → IfSome (o >>= f) Q
bind_known None f Q next = tt
bind_known (Some x) f Q next = next x refl

pub either_known : {A : Type 0} (b : Bool) (o p : Option A) (Q : A → Type 0) → (b ≡ true → IfSome o Q) → IfSome p Q → IfSome (if b then o else p) Q
either_known true o p Q one two = one refl
either_known false o p Q one two = two
