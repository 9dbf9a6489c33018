-- What one byte does to the records reached so far.
use Rattle.std.proofs.Common.{◌≡◌, ℕ, List, [], ◌∷◌, ◌++◌, Some, None, true, false, refl}
use Rattle.csv.specs.Machine.{step, is_end, fields_after, field_after, next_record, ends_at_end}
use Rattle.csv.specs.declared.parser.Config.{Config}
use Rattle.csv.specs.declared.parser.State.{State}
use Rattle.csv.specs.declared.parser.State.TheVariants as st
use Rattle.csv.specs.declared.parser.Action.{Action}

-- a byte within a record
pub within : (config : Config) (from to : State) (action : Action) (fields : List (List ℕ)) (field rest : List ℕ) (b : ℕ) → (to, action) ≡ step config from b → is_end action ≡ false
    → next_record config from fields field (b ∷ rest) ≡ next_record config to (fields_after action fields field) (field_after action b field) rest
unfolding next_record
within config from to action fields field rest b e h = rw (← e, h) refl

-- the byte that ends one
pub ending : (config : Config) (from to : State) (action : Action) (fields : List (List ℕ)) (field rest : List ℕ) (b : ℕ) → (to, action) ≡ step config from b → is_end action ≡ true
    → next_record config from fields field (b ∷ rest) ≡ Some (fields_after action fields field, to, rest)
unfolding next_record
ending config from to action fields field rest b e h = rw (← e, h) refl

-- the end of the text
pub last : (config : Config) (from : State) (fields : List (List ℕ)) (field : List ℕ) → ends_at_end from ≡ true → next_record config from fields field [] ≡ Some (fields ++ field ∷ [], st.StartRecord, [])
unfolding next_record
last config from fields field h = rw h refl

pub no_more : (config : Config) (from : State) (fields : List (List ℕ)) (field : List ℕ) → ends_at_end from ≡ false → next_record config from fields field [] ≡ None
unfolding next_record
no_more config from fields field h = rw h refl
