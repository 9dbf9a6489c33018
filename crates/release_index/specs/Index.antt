-- An index of the stored releases: the set of all keys of all releases, and no others.
use Rattle.std.specs.Prelude.{◌≡◌, ℕ, List, [], ◌∷◌, Option, None, Some}
use Rattle.std.specs.List.{list_any}
use Rattle.facts.specs.Index.{key_cmp}
use Rattle.ops_tables.specs.declared.rows.Settings.{Settings}
use Rattle.plan.specs.declared.release.Release.{Release}
use Rattle.desk_io.specs.Keys.{is_held}
use Rattle.release_index.specs.declared.change.OnReleases.{OnReleases}
use Rattle.release_index.specs.declared.moves.By.{By}
use Rattle.release_index.specs.declared.moves.By.TheVariants as by
use Rattle.release_index.specs.declared.moves.Move.{Move}
use Rattle.release_index.specs.Changes.{old_of, fresh_of}
use Rattle.release_index.specs.Entries.{stations_onto, tail_onto, dues_onto}

-- the keys of a release in one index, appended to a list
abbrev pub onto_by : By → Settings → List (ℕ × ℕ) → Release → List (ℕ × ℕ)
onto_by by.Station settings keys r = stations_onto keys r
onto_by by.Tail settings keys r = tail_onto keys r
onto_by by.Due settings keys r = dues_onto settings keys r

module _ (onto : List (ℕ × ℕ) → Release → List (ℕ × ℕ)) where
  -- the keys of a release, if there is one
  abbrev pub keys_of : Option Release → List (ℕ × ℕ)
  keys_of None = []
  keys_of (Some r) = onto [] r

  -- the keys of all releases, appended to a list
  abbrev pub all_onto : List (ℕ × ℕ) → List Release → List (ℕ × ℕ)
  all_onto keys [] = keys
  all_onto keys (r ∷ rs) = all_onto (onto keys r) rs

  -- the set contains a key exactly if it is a key of one of the releases
  abbrev pub IsIndexOf : List (ℕ × ℕ) → List Release → Type 0
  IsIndexOf keys list = (q : ℕ × ℕ) → is_held key_cmp q keys ≡ list_any (λ r. is_held key_cmp q (onto [] r)) list

-- the keys that a change removes from an index and adds to it
pub record IsMove (by : By) (settings : Settings) (on : OnReleases) (list : List Release) (move : Move) : Type 0 where
  pub leaving : move.leaving.items ≡ keys_of (onto_by by settings) (old_of on list)
  pub coming : move.coming.items ≡ keys_of (onto_by by settings) (fresh_of on)
