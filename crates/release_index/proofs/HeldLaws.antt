-- What holds of the releases that are held, and of a change that is ready, after each call.
use Rattle.std.proofs.Common.{◌≡◌, refl, sym, subst, ℕ, ◌≤◌, ◌==◌, arith, Bool, true, false, ◌&&◌, ◌||◌, not, cond, List, [], ◌∷◌, length, length-append, Option, None, Some, IfSome}
use Rattle.std.specs.List.{AllByRecursion}
use Rattle.desk_io.proofs.Each.{each_push}
use Rattle.facts.specs.Index.{key_cmp}
use Rattle.ops_tables.specs.declared.rows.Settings.{Settings}
use Rattle.plan.specs.declared.release.Release.{Release}
use Rattle.desk_io.specs.ById.{AreRising, replaced, without}
use Rattle.desk_io.specs.Keys.{is_held}
use Rattle.release_index.specs.declared.change.OnReleases.{OnReleases}
use Rattle.release_index.specs.declared.change.OnReleases.TheVariants as on_releases
use Rattle.release_index.specs.declared.moves.By.TheVariants as by
use Rattle.release_index.specs.declared.moves.Move.{Move}
use Rattle.release_index.specs.declared.releases.Ready.{Ready}
use Rattle.release_index.specs.Bounds.{ReleaseInBounds}
use Rattle.release_index.specs.Changes.{releases_after, release_at, has_id, old_of, fresh_of, MayChange}
use Rattle.release_index.specs.Index.{onto_by, IsIndexOf, IsMove}
use Rattle.release_index.specs.Releases.{AreHeld, IsReady}
use Rattle.release_index.proofs.BoolLaws.{found_each}
use Rattle.release_index.proofs.ChangeLaws.{id_of, index_after}
use Rattle.release_index.proofs.EntryLaws.{own_by}

-- Opening.

pub none_held : (settings : Settings) (list : List Release) (stations tails dues : List (ℕ × ℕ)) → list ≡ [] → stations ≡ [] → tails ≡ [] → dues ≡ [] → AreHeld settings list stations tails dues
none_held settings list stations tails dues one two three four =
    rw (one, two, three, four) (record { each = tt; few = omega arith; by_station = λ q. refl; by_tail = λ q. refl; by_due = λ q. refl })

pub held_from : (settings : Settings) (list held : List Release) (stations tails dues : List (ℕ × ℕ)) → held ≡ list → AllByRecursion ReleaseInBounds list → length list ≤ 20_000
    → IsIndexOf (onto_by by.Station settings) stations list → IsIndexOf (onto_by by.Tail settings) tails list → IsIndexOf (onto_by by.Due settings) dues list → AreHeld settings held stations tails dues
held_from settings list held stations tails dues is each few one two three =
    subst (λ rs. AreHeld settings rs stations tails dues) (sym is) (record { each = each; few = few; by_station = one; by_tail = two; by_due = three })

-- The releases that a change names are in bounds.

optional : (P : Release → Type 0) (list : List Release) (id : ℕ) (o : Option Release) → release_at id list ≡ o → AllByRecursion P list → IfSome o P
optional P list id None is all = tt
optional P list id (Some r) is all = found_each P (has_id id) list r all is

pub old_bounds : (on : OnReleases) (list : List Release) → AllByRecursion ReleaseInBounds list → IfSome (old_of on list) ReleaseInBounds
old_bounds on_releases.Nothing list all = tt
old_bounds (on_releases.File r) list all = tt
old_bounds (on_releases.Put r) list all = optional ReleaseInBounds list r.id (release_at r.id list) refl all
old_bounds (on_releases.Remove id) list all = optional ReleaseInBounds list id (release_at id list) refl all

pub fresh_bounds : (on : OnReleases) (list : List Release) → MayChange on list → IfSome (fresh_of on) ReleaseInBounds
fresh_bounds on_releases.Nothing list may = tt
fresh_bounds (on_releases.File r) list may = may.bounds
fresh_bounds (on_releases.Put r) list may = may.bounds
fresh_bounds (on_releases.Remove id) list may = tt

-- The list after a change.

each_put : (P : Release → Type 0) (x : Release) (rs : List Release) → P x → AllByRecursion P rs → AllByRecursion P (replaced id_of x rs)
each_put P x [] here all = tt
each_put P x (r ∷ rs) here all = by (r.id == x.id) (each_put P x rs here all.1)
  where
    by : (b : Bool) → AllByRecursion P (replaced id_of x rs) → AllByRecursion P (cond b (x ∷ rs) (r ∷ replaced id_of x rs))
    by true rest = (here, all.1)
    by false rest = (all.0, rest)

each_without : (P : Release → Type 0) (id : ℕ) (rs : List Release) → AllByRecursion P rs → AllByRecursion P (without id_of id rs)
each_without P id [] all = tt
each_without P id (r ∷ rs) all = by (r.id == id) (each_without P id rs all.1)
  where
    by : (b : Bool) → AllByRecursion P (without id_of id rs) → AllByRecursion P (cond b rs (r ∷ without id_of id rs))
    by true rest = all.1
    by false rest = (all.0, rest)

each_after : (on : OnReleases) (list : List Release) → MayChange on list → AllByRecursion ReleaseInBounds list → AllByRecursion ReleaseInBounds (releases_after on list)
each_after on_releases.Nothing list may all = all
each_after (on_releases.File r) list may all = each_push ReleaseInBounds list r all may.bounds
each_after (on_releases.Put r) list may all = each_put ReleaseInBounds r list may.bounds all
each_after (on_releases.Remove id) list may all = each_without ReleaseInBounds id list all

put_length : (x : Release) (rs : List Release) → length (replaced id_of x rs) ≤ length rs
put_length x [] = omega arith
put_length x (r ∷ rs) = by (r.id == x.id) (put_length x rs)
  where
    by : (b : Bool) → length (replaced id_of x rs) ≤ length rs → length (cond b (x ∷ rs) (r ∷ replaced id_of x rs)) ≤ length (r ∷ rs)
    by true rest = omega arith
    by false rest = omega (arith, rest)

without_length : (id : ℕ) (rs : List Release) → length (without id_of id rs) ≤ length rs
without_length id [] = omega arith
without_length id (r ∷ rs) = by (r.id == id) (without_length id rs)
  where
    by : (b : Bool) → length (without id_of id rs) ≤ length rs → length (cond b rs (r ∷ without id_of id rs)) ≤ length (r ∷ rs)
    by true rest = omega arith
    by false rest = omega (arith, rest)

few_after : (on : OnReleases) (list : List Release) → MayChange on list → length list ≤ 20_000 → length (releases_after on list) ≤ 20_000
few_after on_releases.Nothing list may few = few
few_after (on_releases.File r) list may few = let long = length-append list (r ∷ []) in let less = may.few in omega (arith, long, less)
few_after (on_releases.Put r) list may few = let long = put_length r list in omega (arith, long, few)
few_after (on_releases.Remove id) list may few = let long = without_length id list in omega (arith, long, few)

-- what a turn makes of an index's keys
abbrev pub IsTurned : List (ℕ × ℕ) → Move → List (ℕ × ℕ) → Type 0
IsTurned keys move fresh = (q : ℕ × ℕ) → is_held key_cmp q fresh ≡ (is_held key_cmp q move.coming.items || (not (is_held key_cmp q move.leaving.items) && is_held key_cmp q keys))

pub held_after : (settings : Settings) (on : OnReleases) (list after : List Release) (stations tails dues fresh_stations fresh_tails fresh_dues : List (ℕ × ℕ)) (by_station by_tail by_due : Move) → AreRising id_of list
    → MayChange on list → AreHeld settings list stations tails dues → IsMove by.Station settings on list by_station → IsMove by.Tail settings on list by_tail → IsMove by.Due settings on list by_due
    → IsTurned stations by_station fresh_stations → IsTurned tails by_tail fresh_tails → IsTurned dues by_due fresh_dues → after ≡ releases_after on list
    → AreHeld settings after fresh_stations fresh_tails fresh_dues
held_after settings on list after stations tails dues fresh_stations fresh_tails fresh_dues by_station by_tail by_due rising may held one two three turned turned_too turned_last is =
    subst (λ rs. AreHeld settings rs fresh_stations fresh_tails fresh_dues) (sym is) (record {
      each = each_after on list may held.each;
      few = few_after on list may held.few;
      by_station = index_after (onto_by by.Station settings) (own_by by.Station settings) on list stations fresh_stations by_station.leaving.items by_station.coming.items rising may held.by_station one.leaving one.coming turned;
      by_tail = index_after (onto_by by.Tail settings) (own_by by.Tail settings) on list tails fresh_tails by_tail.leaving.items by_tail.coming.items rising may held.by_tail two.leaving two.coming turned_too;
      by_due = index_after (onto_by by.Due settings) (own_by by.Due settings) on list dues fresh_dues by_due.leaving.items by_due.coming.items rising may held.by_due three.leaving three.coming turned_last;
    })

-- what was made ready is made
pub installed : (settings : Settings) (ready : Ready) (on : OnReleases) (free room_stations room_tails room_dues : ℕ) (list after : List Release) (stations tails dues fresh_stations fresh_tails fresh_dues : List (ℕ × ℕ))
    → ready.on.value ≡ on → AreRising id_of list → IsReady settings list free room_stations room_tails room_dues ready → AreHeld settings list stations tails dues
    → IsTurned stations ready.stations fresh_stations → IsTurned tails ready.tails fresh_tails → IsTurned dues ready.dues fresh_dues → after ≡ releases_after on list
    → AreHeld settings after fresh_stations fresh_tails fresh_dues
installed settings ready on free room_stations room_tails room_dues list after stations tails dues fresh_stations fresh_tails fresh_dues same rising is held turned turned_too turned_last made =
    held_after settings on list after stations tails dues fresh_stations fresh_tails fresh_dues ready.stations ready.tails ready.dues rising (subst (λ o. MayChange o list) same is.may) held
    (subst (λ o. IsMove by.Station settings o list ready.stations) same is.by_station) (subst (λ o. IsMove by.Tail settings o list ready.tails) same is.by_tail)
    (subst (λ o. IsMove by.Due settings o list ready.dues) same is.by_due) turned turned_too turned_last made
