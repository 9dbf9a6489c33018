-- What a change does to the list of stored releases, and when a change is allowed.
use Rattle.std.specs.Prelude.{◌≡◌, ℕ, ◌<◌, ◌==◌, Bool, true, List, [], ◌∷◌, ◌++◌, length, All, Option, None, Some, find}
use Rattle.std.specs.List.{list_any}
use Rattle.plan.specs.declared.release.Release.{Release}
use Rattle.desk_io.specs.ById.{replaced, without}
use Rattle.release_index.specs.declared.change.OnReleases.{OnReleases}
use Rattle.release_index.specs.declared.change.OnReleases.TheVariants as on_releases
use Rattle.release_index.specs.Bounds.{ReleaseInBounds}

-- the list with a release in place of the first one with its id
abbrev pub put_release : Release → List Release → List Release
put_release r list = replaced (λ q. q.id) r list

-- the list without the first release with this id
abbrev pub without_release : ℕ → List Release → List Release
without_release id list = without (λ q. q.id) id list

abbrev pub releases_after : OnReleases → List Release → List Release
releases_after on_releases.Nothing list = list
releases_after (on_releases.File r) list = list ++ r ∷ []
releases_after (on_releases.Put r) list = put_release r list
releases_after (on_releases.Remove id) list = without_release id list

abbrev pub has_id : ℕ → Release → Bool
has_id id r = r.id == id

-- the release with this id
abbrev pub release_at : ℕ → List Release → Option Release
release_at id list = find (has_id id) list

-- the release that a change removes or replaces
abbrev pub old_of : OnReleases → List Release → Option Release
old_of on_releases.Nothing list = None
old_of (on_releases.File r) list = None
old_of (on_releases.Put r) list = release_at r.id list
old_of (on_releases.Remove id) list = release_at id list

-- the release that a change adds or puts in place of another
abbrev pub fresh_of : OnReleases → Option Release
fresh_of on_releases.Nothing = None
fresh_of (on_releases.File r) = Some r
fresh_of (on_releases.Put r) = Some r
fresh_of (on_releases.Remove id) = None

-- a release may be filed: it is in bounds, its id is above all others, and fewer than 20,000 are stored
pub record MayFile (r : Release) (list : List Release) : Type 0 where
  pub bounds : ReleaseInBounds r
  pub newest : All (λ q. q.id < r.id) list
  pub few : length list < 20_000

-- a release may replace another: it is in bounds, and its id is in the list
pub record MayPut (r : Release) (list : List Release) : Type 0 where
  pub bounds : ReleaseInBounds r
  pub taken : list_any (has_id r.id) list ≡ true

-- a change is allowed
abbrev pub MayChange : OnReleases → List Release → Type 0
MayChange on_releases.Nothing list = Unit {0}
MayChange (on_releases.File r) list = MayFile r list
MayChange (on_releases.Put r) list = MayPut r list
MayChange (on_releases.Remove id) list = Unit {0}
