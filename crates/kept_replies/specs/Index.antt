-- The keys by which kept replies are looked up.
use Rattle.std.specs.Prelude.{◌≡◌, ℕ, ◌==◌, ◌&&◌, Bool, if◌then◌else◌, List, [], ◌∷◌, find, Option, None, Some}
use Rattle.std.specs.declared.cmp.Ordering.{Ordering}
use Rattle.std.specs.Ordering.{nat_cmp, ordering_then}
use Rattle.std.specs.List.{list_any}
use Rattle.std.specs.Option.{option_or}
use Rattle.std.specs.BTreeMap.{is_at}
use Rattle.std.specs.Str.{bytes_eq}
use Rattle.desk_io.specs.Keys.{is_held}
use Rattle.facts.specs.Index.{fingerprint}
use Rattle.asks.specs.declared.kept.KeptReply.{KeptReply}

-- the fingerprint of a name, the number of a request and the id of a reply
abbrev pub Key : Type 0
Key = ℕ × ℕ × ℕ

abbrev pub key_of : KeptReply → Key
key_of k = (fingerprint k.actor, k.number, k.id)

abbrev pub key_cmp : Key → Key → Ordering
key_cmp x y = ordering_then (ordering_then (nat_cmp x.0 y.0) (nat_cmp x.1 y.1)) (nat_cmp x.2 y.2)

-- the key as an entry without a value
abbrev pub entry_of : KeptReply → Key × Unit {0}
entry_of k = (key_of k, tt)

abbrev pub id_of : KeptReply → ℕ
id_of k = k.id

-- the reply has this id
abbrev pub has_id : ℕ → KeptReply → Bool
has_id id k = k.id == id

-- the keys are those of these replies and no others
pub record AreKeysOf (kept : List KeptReply) (keys : List Key) : Type 0 where
  pub each : (q : Key) → is_held key_cmp q keys ≡ list_any (λ k. is_at (key_cmp q) (key_of k)) kept

-- the keys under each fingerprint are those of these replies and no others
pub record AreKeysUnder (kept : List KeptReply) (under : ℕ → List Key) : Type 0 where
  pub each : (q : Key) → is_held key_cmp q (under q.0) ≡ list_any (λ k. is_at (key_cmp q) (key_of k)) kept

-- the key is of this fingerprint and this number
abbrev pub is_under : ℕ → ℕ → Key → Bool
is_under mark number key = (key.0 == mark) && (key.1 == number)

-- the reply, if it is to this person
abbrev pub named : List ℕ → Option KeptReply → Option KeptReply
named actor None = None
named actor (Some k) = if bytes_eq k.actor actor then Some k else None

-- the first reply to the person among those of the keys, up to the first key of another fingerprint or number
abbrev pub first_to : List ℕ → ℕ → ℕ → List KeptReply → List Key → Option KeptReply
first_to actor mark number kept [] = None
first_to actor mark number kept (key ∷ keys) =
    if is_under mark number key then option_or (named actor (find (has_id key.2) kept)) (first_to actor mark number kept keys) else None

-- the reply of the key is still kept
abbrev pub leads_to : List KeptReply → Key → Bool
leads_to kept key = list_any (has_id key.2) kept
