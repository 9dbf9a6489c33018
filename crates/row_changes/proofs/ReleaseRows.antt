-- Releases under their ids, where one takes the place of another or goes.
use Rattle.std.proofs.Common.{◌≡◌, ℕ, ◌+◌, ◌<◌, ◌≤◌, Bool, true, false, ◌||◌, cond, eqb, List, [], ◌∷◌, None, Some, refl, ap, sym, ◌∙◌, arith}
use Rattle.std.specs.List.{AllByRecursion, list_any}
use Rattle.std.proofs.lemmas.Bool.{eqb-true}
use Rattle.plan.specs.declared.release.Release.{Release}
use Rattle.desk_state.specs.Events.{put_release, without_release}
use Rattle.desk_state.specs.Sound.{Rise, IsTaken}
use Rattle.row_changes.proofs.Parts.{Body}
use Rattle.row_changes.proofs.Items.{exchanged, twice, not_both, Ascends, found_at, absent, none_later}

abbrev pub id_of : Release → ℕ
id_of r = r.id

pub all_from : (low next : ℕ) (rs : List Release) → Rise low rs next → AllByRecursion (λ r. low ≤ r.id) rs
all_from low next [] rise = tt
all_from low next (r ∷ rs) rise = (rise.0, later (r.id + 1) rs (let one = rise.0 in omega (arith, one)) (all_from (r.id + 1) next rs rise.1))
  where
    later : (high : ℕ) (qs : List Release) → low ≤ high → AllByRecursion (λ q. high ≤ q.id) qs → AllByRecursion (λ q. low ≤ q.id) qs
    later high [] within all = tt
    later high (q ∷ qs) within all = (let one = all.0 in omega (arith, one, within), later high qs within all.1)

-- ids that rise from one to another
pub rise_ascends : (low next : ℕ) (rs : List Release) → Rise low rs next → Ascends id_of rs
rise_ascends low next [] rise = tt
rise_ascends low next (r ∷ rs) rise = (all_above r.id rs (all_from (r.id + 1) next rs rise.1), rise_ascends (r.id + 1) next rs rise.1)
  where
    all_above : (id : ℕ) (qs : List Release) → AllByRecursion (λ q. id + 1 ≤ q.id) qs → AllByRecursion (λ q. id < q.id) qs
    all_above id [] all = tt
    all_above id (q ∷ qs) all = (let one = all.0 in omega (arith, one), all_above id qs all.1)

pub rise_below : (low next : ℕ) (rs : List Release) → Rise low rs next → AllByRecursion (λ r. r.id < next) rs
rise_below low next [] rise = tt
rise_below low next (r ∷ rs) rise = (least r.id rs rise.1, rise_below (r.id + 1) next rs rise.1)
  where
    least : (id : ℕ) (qs : List Release) → Rise (id + 1) qs next → id < next
    least id [] rise = omega (arith, rise)
    least id (q ∷ qs) rise = let one = rise.0 in let two = least q.id qs rise.1 in omega (arith, one, two)

module _ (body : Release → Body) where
  -- a release in the place of one that is held
  pub put_found : (r : Release) (rs : List Release) → IsTaken r.id rs → (q : ℕ)
      → cond (eqb r.id q) (Some (body r)) (found_at id_of body q rs) ≡ found_at id_of body q (put_release r rs)
  put_found r [] taken q = absurd (cc)
  put_found r (x ∷ rs) taken q = by (eqb x.id r.id) refl taken (λ rest. put_found r rs rest q)
    where
      by : (u : Bool) → eqb x.id r.id ≡ u → (u || list_any (λ y. eqb y.id r.id) rs) ≡ true
          → (IsTaken r.id rs → cond (eqb r.id q) (Some (body r)) (found_at id_of body q rs) ≡ found_at id_of body q (put_release r rs))
          → cond (eqb r.id q) (Some (body r)) (cond (eqb x.id q) (Some (body x)) (found_at id_of body q rs)) ≡ found_at id_of body q (cond u (r ∷ rs) (x ∷ put_release r rs))
      by true e held later =
          ap (λ (n : ℕ). cond (eqb r.id q) (Some (body r)) (cond (eqb n q) (Some (body x)) (found_at id_of body q rs))) (eqb-true x.id r.id e)
          ∙ twice (eqb r.id q) (Some (body r)) (Some (body x)) (found_at id_of body q rs)
      by false e held later =
          exchanged (eqb r.id q) (eqb x.id q) (Some (body r)) (Some (body x)) (found_at id_of body q rs) (not_both x.id r.id q e)
          ∙ ap (λ o. cond (eqb x.id q) (Some (body x)) o) (later held)

  -- the release of an id goes
  pub without_found : (id : ℕ) (rs : List Release) → Ascends id_of rs → (q : ℕ)
      → cond (eqb id q) None (found_at id_of body q rs) ≡ found_at id_of body q (without_release id rs)
  without_found id [] rising q = by (eqb id q)
    where
      by : (s : Bool) → cond s None None ≡ found_at id_of body q []
      by true = refl
      by false = refl
  without_found id (x ∷ rs) rising q = by (eqb x.id id) refl (without_found id rs rising.1 q)
    where
      none_left : (s : Bool) → eqb id q ≡ s → eqb x.id q ≡ s → cond s None (cond s (Some (body x)) (found_at id_of body q rs)) ≡ found_at id_of body q rs
      none_left true e same = sym (absent id_of body q rs (none_later id_of body q x.id rs same rising.0))
      none_left false e same = refl

      by : (u : Bool) → eqb x.id id ≡ u → cond (eqb id q) None (found_at id_of body q rs) ≡ found_at id_of body q (without_release id rs)
          → cond (eqb id q) None (cond (eqb x.id q) (Some (body x)) (found_at id_of body q rs)) ≡ found_at id_of body q (cond u rs (x ∷ without_release id rs))
      by true e rest =
          let same = eqb-true x.id id e in
          ap (λ (n : ℕ). cond (eqb id q) None (cond (eqb n q) (Some (body x)) (found_at id_of body q rs))) same
          ∙ none_left (eqb id q) refl (ap (λ (n : ℕ). eqb n q) same)
      by false e rest =
          exchanged (eqb id q) (eqb x.id q) None (Some (body x)) (found_at id_of body q rs) (not_both x.id id q e)
          ∙ ap (λ o. cond (eqb x.id q) (Some (body x)) o) rest
