-- The run of a text's number leads to the releases that it touches.
use Rattle.std.proofs.Common.{inl, inr, ◌⊎◌, ◌≡◌, refl, sym, ap, ◌∙◌, ℕ, zero, suc, ◌+◌, ◌-◌, ◌<◌, ◌≤◌, arith, Bool, true, ◌||◌, List, [], ◌∷◌, length, get_or, filter, All, Some}
use Rattle.std.specs.List.{AllByRecursion, slice_get}
use Rattle.std.specs.List.Sorted.{IsStrictlySortedBy}
use Rattle.std.proofs.lemmas.Bool.{cases_lt}
use Rattle.std.proofs.lemmas.List.Elements.{recursion_from_All}
use Rattle.desk_io.proofs.Each.{each_weaker}
use Rattle.facts.specs.Index.{fingerprint, key_cmp}
use Rattle.plan.specs.declared.release.Release.{Release}
use Rattle.desk_io.specs.ById.{AreRising}
use Rattle.desk_io.specs.Keys.{is_held}
use Rattle.desk_io.specs.Sorted.{within}
use Rattle.desk_io.proofs.ByIdLaws.{rise}
use Rattle.release_index.specs.Chosen.{chosen_onto, leads_where, id_or_none}
use Rattle.release_index.specs.Index.{IsIndexOf}
use Rattle.release_index.specs.Touched.{held_where, is_among}
use Rattle.release_index.proofs.ChangeLaws.{id_of}
use Rattle.release_index.proofs.ChosenLaws.{Leads, chosen_touched, chosen_few}
use Rattle.release_index.proofs.PairLaws.{in_run, of_run}

got : (rs : List Release) (n : ℕ) (x : Release) → n < length rs → slice_get rs n ≡ Some (get_or rs n x)
got [] n x within = absurd (omega (arith, within))
got (r ∷ rs) zero x within = refl
got (r ∷ rs) (suc n) x within = got rs n x (omega (arith, within))

-- no id is above that of the last
pub last_above : (rs : List Release) → AreRising id_of rs → AllByRecursion (λ r. r.id ≤ id_or_none (slice_get rs (length rs - 1))) rs
last_above rs rising = recursion_from_All (λ r. r.id ≤ id_or_none (slice_get rs (length rs - 1))) rs each
  where
    by : (k n : ℕ) (x : Release) → n ≡ length rs - 1 → k < length rs → (k < n) ⊎ (n ≤ k) → (get_or rs k x).id ≤ (get_or rs n x).id
    by k n x is within (inl before) = let less = rising k n x before (omega (arith, is, within)) in omega (arith, less)
    by k n x is within (inr after) = let same : k ≡ n = omega (arith, is, within, after) in rw same (omega arith)

    each : All (λ r. r.id ≤ id_or_none (slice_get rs (length rs - 1))) rs
    each k x within =
        let n = length rs - 1 in
        rw (got rs n x (omega (arith, within))) (by k n x refl within (cases_lt k n))

module _ (text : List ℕ) (onto : List (ℕ × ℕ) → Release → List (ℕ × ℕ)) (t : Release → Bool) (has : (r : Release) → t r ≡ true → is_held key_cmp (fingerprint text, r.id) (onto [] r) ≡ true)
    (number top : ℕ) (is_number : number ≡ fingerprint text) (list : List Release) (rising : AreRising id_of list) (is_top : top ≡ id_or_none (slice_get list (length list - 1))) where
  abbrev run : ℕ × ℕ → Bool
  run = within key_cmp (number, 0) (number, top)

  complete : AllByRecursion (λ r. t r ≡ true → Leads onto run (λ k. t) r) list
  complete =
      each_weaker (λ r. r.id ≤ id_or_none (slice_get list (length list - 1))) (λ r. t r ≡ true → Leads onto run (λ k. t) r)
      (λ r least touched. record {
        key = (number, r.id);
        named = refl;
        within = in_run number top r.id (omega (arith, least, is_top));
        passes = touched;
        held = ap (λ n. is_held key_cmp (n, r.id) (onto [] r)) is_number ∙ has r touched;
      })
      list (last_above list rising)

  once : (r : Release) (a b : ℕ × ℕ) → run a ≡ true → a.1 ≡ r.id → t r ≡ true → run b ≡ true → b.1 ≡ r.id → t r ≡ true → a ≡ b
  once r a b in_a id_a touched in_b id_b again =
      let first : a.0 ≡ b.0 = of_run number top a in_a ∙ sym (of_run number top b in_b) in
      let second : a.1 ≡ b.1 = id_a ∙ sym id_b in
      λ i. (first i, second i)

  module _ (keys some : List (ℕ × ℕ)) (ids fresh : List ℕ) (ran : some ≡ filter run keys) (is : fresh ≡ chosen_onto (leads_where t list) ids some) where
    pub text_touched : IsIndexOf onto keys list → (id : ℕ) → is_among fresh id ≡ (is_among ids id || held_where t id list)
    text_touched index = chosen_touched onto run (λ k. t) t keys list (λ k r in_run touched. touched) index (rise id_of list rising) complete ids fresh some ran is

    pub text_few : IsStrictlySortedBy key_cmp keys → length fresh ≤ length ids + length (filter t list)
    text_few sorted = chosen_few onto run (λ k. t) t keys list (λ k r in_run touched. touched) once sorted ids fresh some ran is
