-- The keys by which the open deferrals of an aircraft are found, and lookups by id.
use Rattle.std.specs.Prelude.{◌≡◌, ℕ, ◌+◌, ◌*◌, ◌%◌, ◌^◌, ◌&&◌, List, [], ◌∷◌, ◌++◌, filter, if◌then◌else◌, Option, None, Some}
use Rattle.std.specs.List.{list_any}
use Rattle.std.specs.BTreeMap.{is_at}
use Rattle.desk_io.specs.Keys.{is_held, pair_cmp}
use Rattle.deferrals.specs.declared.items.Deferral.{Deferral}
use Rattle.deferrals.specs.Held.{has_id}
use Rattle.deferrals.specs.Limits.{is_of}

-- the number made of the last eight bytes of a registration, after the number n
abbrev pub number_from : ℕ → List ℕ → ℕ
number_from n [] = n
number_from n (b ∷ bs) = number_from (((n * 256) % 2 ^ 64 + b) % 2 ^ 64) bs

unfoldable pub tail_number : List ℕ → ℕ
tail_number tail = number_from 0 tail

-- the number of its aircraft, and its id
abbrev pub key_of : Deferral → ℕ × ℕ
key_of deferral = (tail_number deferral.tail, deferral.id)

-- the key as an entry without a value
abbrev pub entry_of : Deferral → (ℕ × ℕ) × Unit {0}
entry_of deferral = (key_of deferral, tt)

-- the keys are those of these deferrals and no others
pub record AreKeysOf (list : List Deferral) (keys : List (ℕ × ℕ)) : Type 0 where
  pub each : (q : ℕ × ℕ) → is_held pair_cmp q keys ≡ list_any (λ deferral. is_at (pair_cmp q) (key_of deferral)) list

-- the deferral of this id, if it belongs to the aircraft
abbrev pub open_as : List ℕ → ℕ → List Deferral → List Deferral
open_as tail id list = filter (λ deferral. has_id id deferral && is_of tail deferral) list

-- the aircraft's deferrals with the ids of these keys
abbrev pub open_by : List ℕ → List Deferral → List (ℕ × ℕ) → List Deferral
open_by tail list [] = []
open_by tail list (key ∷ keys) = open_as tail key.1 list ++ open_by tail list keys

-- the index, if the deferral at it has this id
abbrev pub place_if : ℕ → ℕ → Option Deferral → Option ℕ
place_if id place None = None
place_if id place (Some deferral) = if has_id id deferral then Some place else None

abbrev pub open_if : List ℕ → ℕ → Option Deferral → List Deferral
open_if tail id None = []
open_if tail id (Some deferral) = if has_id id deferral && is_of tail deferral then deferral ∷ [] else []

-- the id of the deferral; 0 if there is none
abbrev pub id_or_none : Option Deferral → ℕ
id_or_none None = 0
id_or_none (Some deferral) = deferral.id
