-- Which index keys lead to a release that passes a test.
use Rattle.std.specs.Prelude.{ℕ, ◌==◌, Bool, false, if◌then◌else◌, List, [], ◌∷◌, ◌++◌, Option, None, Some}
use Rattle.ops_tables.specs.declared.rows.Settings.{Settings}
use Rattle.plan.specs.declared.release.Release.{Release}
use Rattle.rules.specs.Due.{next_due}
use Rattle.release_index.specs.Changes.{release_at}
use Rattle.release_index.specs.Touched.{is_active_where}

-- a release was found, and it passes the test
abbrev pub found_where : (Release → Bool) → Option Release → Bool
found_where test None = false
found_where test (Some r) = test r

-- the release with a key's id passes the test
abbrev pub leads_where : (Release → Bool) → List Release → ℕ × ℕ → Bool
leads_where test list key = found_where test (release_at key.1 list)

-- the ids of the keys that pass a test, appended to a list
abbrev pub chosen_onto : (ℕ × ℕ → Bool) → List ℕ → List (ℕ × ℕ) → List ℕ
chosen_onto test ids [] = ids
chosen_onto test ids (key ∷ keys) = chosen_onto test (if test key then ids ++ key.1 ∷ [] else ids) keys

-- the next due minute is this one
abbrev pub is_at_minute : ℕ → Option ℕ → Bool
is_at_minute minute None = false
is_at_minute minute (Some due) = due == minute

abbrev pub due_at : Settings → ℕ → ℕ → Release → Bool
due_at settings moment minute r = is_active_where (λ plan phase. is_at_minute minute (next_due plan phase settings moment)) r

-- the next due minute of the release with a key's id is the key's minute
abbrev pub leads_by : Settings → ℕ → List Release → ℕ × ℕ → Bool
leads_by settings moment list key = found_where (due_at settings moment key.0) (release_at key.1 list)

-- the id of a release, or 0 if there is none
abbrev pub id_or_none : Option Release → ℕ
id_or_none None = 0
id_or_none (Some r) = r.id
