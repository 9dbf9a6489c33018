-- What a change makes of the releases that are held, and of an index of them.
use Rattle.std.proofs.Common.{◌≡◌, refl, sym, ap, ◌∙◌, ℕ, ◌≤◌, ◌==◌, arith, Bool, true, false, ◌&&◌, ◌||◌, not, cond, List, [], ◌∷◌, ◌++◌, Option, None, Some, find}
use Rattle.std.specs.List.{list_any}
use Rattle.std.proofs.lemmas.List.Folds.{list_any-append}
use Rattle.facts.specs.Index.{key_cmp}
use Rattle.plan.specs.declared.release.Release.{Release}
use Rattle.desk_io.specs.ById.{AreRising, replaced, without}
use Rattle.desk_io.specs.Keys.{is_held}
use Rattle.desk_io.proofs.ByIdLaws.{Rise, rise, Above}
use Rattle.release_index.specs.declared.change.OnReleases.{OnReleases}
use Rattle.release_index.specs.declared.change.OnReleases.TheVariants as on_releases
use Rattle.release_index.specs.Changes.{has_id, release_at, releases_after, old_of, fresh_of, MayChange}
use Rattle.release_index.specs.Chosen.{found_where}
use Rattle.release_index.specs.Index.{keys_of, IsIndexOf}
use Rattle.release_index.proofs.BoolLaws.{or_left, or_right, or_swap, not_so}
use Rattle.release_index.proofs.SetLaws.{or_none}

abbrev pub id_of : Release → ℕ
id_of r = r.id

-- Of a test that only the release of one id passes.

module _ (h : Release → Bool) where
  found_any : (p : Release → Bool) (rs : List Release) → found_where h (find p rs) ≡ true → list_any h rs ≡ true
  found_any p [] is = absurd cc
  found_any p (r ∷ rs) is = by (p r) is (found_any p rs)
    where
      by : (b : Bool) → found_where h (cond b (Some r) (find p rs)) ≡ true → (found_where h (find p rs) ≡ true → list_any h rs ≡ true) → (h r || list_any h rs) ≡ true
      by true is rest = or_left (h r) (list_any h rs) is
      by false is rest = or_right (h r) (list_any h rs) (rest is)

  none_found : (p : Release → Bool) (rs : List Release) → list_any h rs ≡ false → found_where h (find p rs) ≡ false
  none_found p rs none = not_so (found_where h (find p rs)) (list_any h rs) (found_any p rs) none

  -- one more at the end
  filed : (x : Release) (rs : List Release) → list_any h (rs ++ x ∷ []) ≡ (h x || list_any h rs)
  filed x rs = list_any-append h rs (x ∷ []) ∙ or_swap (list_any h rs) (h x) false ∙ ap (λ b. h x || b) (or_none (list_any h rs))

  -- one in the place of another
  put_over : (x : Release) (rs : List Release) → list_any (has_id x.id) rs ≡ true → list_any h (replaced id_of x rs) ≡ (h x || list_any h (without id_of x.id rs))
  put_over x [] taken = absurd cc
  put_over x (r ∷ rs) taken = by (r.id == x.id) taken (put_over x rs)
    where
      by : (b : Bool) → (b || list_any (has_id x.id) rs) ≡ true → (list_any (has_id x.id) rs ≡ true → list_any h (replaced id_of x rs) ≡ (h x || list_any h (without id_of x.id rs)))
          → list_any h (cond b (x ∷ rs) (r ∷ replaced id_of x rs)) ≡ (h x || list_any h (cond b rs (r ∷ without id_of x.id rs)))
      by true taken rest = refl
      by false taken rest = ap (λ b. h r || b) (rest taken) ∙ or_swap (h r) (h x) (list_any h (without id_of x.id rs))

  module _ (k : ℕ) (own : (r : Release) → h r ≡ true → k ≡ r.id) where
    none_above : (n : ℕ) (rs : List Release) → k ≤ n → Above id_of n rs → list_any h rs ≡ false
    none_above n [] le all = refl
    none_above n (r ∷ rs) le all = by (h r) refl (none_above n rs le all.1)
      where
        by : (b : Bool) → h r ≡ b → list_any h rs ≡ false → (b || list_any h rs) ≡ false
        by true e rest = absurd (let is = own r e in let more = all.0 in omega (arith, is, more, le))
        by false e rest = rest

    -- one that goes
    gone : (id : ℕ) (rs : List Release) → Rise id_of rs → list_any h (without id_of id rs) ≡ (not (found_where h (release_at id rs)) && list_any h rs)
    gone id [] rising = refl
    gone id (r ∷ rs) rising = by (r.id == id) (h r) refl (gone id rs rising.1)
      where
        none : h r ≡ true → list_any h rs ≡ false
        none e = let is = own r e in none_above r.id rs (omega (arith, is)) rising.0

        by : (b c : Bool) → h r ≡ c → list_any h (without id_of id rs) ≡ (not (found_where h (release_at id rs)) && list_any h rs)
            → list_any h (cond b rs (r ∷ without id_of id rs)) ≡ (not (found_where h (cond b (Some r) (release_at id rs))) && (h r || list_any h rs))
        by true true e rest = rw e (none e)
        by true false e rest = rw e refl
        by false true e rest = rw (e, none_found (has_id id) rs (none e)) refl
        by false false e rest = rw e rest

module _ (onto : List (ℕ × ℕ) → Release → List (ℕ × ℕ)) (own : (q : ℕ × ℕ) (r : Release) → is_held key_cmp q (onto [] r) ≡ true → q.1 ≡ r.id) where
  keys_found : (q : ℕ × ℕ) (o : Option Release) → is_held key_cmp q (keys_of onto o) ≡ found_where (λ r. is_held key_cmp q (onto [] r)) o
  keys_found q None = refl
  keys_found q (Some r) = refl

  after : (q : ℕ × ℕ) (on : OnReleases) (list : List Release) → AreRising id_of list → MayChange on list
      → (is_held key_cmp q (keys_of onto (fresh_of on)) || (not (is_held key_cmp q (keys_of onto (old_of on list))) && list_any (λ r. is_held key_cmp q (onto [] r)) list))
      ≡ list_any (λ r. is_held key_cmp q (onto [] r)) (releases_after on list)
  after q on_releases.Nothing list rising may = refl
  after q (on_releases.File r) list rising may = sym (filed (λ x. is_held key_cmp q (onto [] x)) r list)
  after q (on_releases.Put r) list rising may =
      let h : Release → Bool = λ x. is_held key_cmp q (onto [] x) in
      ap (λ b. h r || (not b && list_any h list)) (keys_found q (release_at r.id list))
      ∙ ap (λ b. h r || b) (sym (gone h q.1 (own q) r.id list (rise id_of list rising)))
      ∙ sym (put_over h r list may.taken)
  after q (on_releases.Remove id) list rising may =
      let h : Release → Bool = λ x. is_held key_cmp q (onto [] x) in
      ap (λ b. not b && list_any h list) (keys_found q (release_at id list)) ∙ sym (gone h q.1 (own q) id list (rise id_of list rising))

  -- an index after a change, by the keys that leave it and come into it
  pub index_after : (on : OnReleases) (list : List Release) (keys fresh leaving coming : List (ℕ × ℕ)) → AreRising id_of list → MayChange on list → IsIndexOf onto keys list
      → leaving ≡ keys_of onto (old_of on list) → coming ≡ keys_of onto (fresh_of on)
      → ((q : ℕ × ℕ) → is_held key_cmp q fresh ≡ (is_held key_cmp q coming || (not (is_held key_cmp q leaving) && is_held key_cmp q keys)))
      → IsIndexOf onto fresh (releases_after on list)
  index_after on list keys fresh leaving coming rising may index out into each q =
      each q
      ∙ ap (λ ks. is_held key_cmp q ks || (not (is_held key_cmp q leaving) && is_held key_cmp q keys)) into
      ∙ ap (λ ks. is_held key_cmp q (keys_of onto (fresh_of on)) || (not (is_held key_cmp q ks) && is_held key_cmp q keys)) out
      ∙ ap (λ b. is_held key_cmp q (keys_of onto (fresh_of on)) || (not (is_held key_cmp q (keys_of onto (old_of on list))) && b)) (index q)
      ∙ after q on list rising may
