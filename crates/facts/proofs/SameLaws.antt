-- A report of a text and a moment is found by its key, and the keys are those of the reports as these come and go.
use Rattle.std.proofs.Common.{◌≡◌, refl, sym, ap, ◌∙◌, subst, ℕ, zero, suc, ◌<◌, ◌==◌, Bool, true, false, cond, ◌&&◌, ◌||◌, List, [], ◌∷◌, ◌++◌, filter, map, Option, Some, None, bytes_eq, find, option_map, option_and_then, AllPairs, Result, Ok, Err, IfOk, IfErr}
use Rattle.std.proofs.lemmas.Map.Views.{any-filter_same}
use Rattle.std.proofs.lemmas.List.Folds.{list_any-append}
use Rattle.std.proofs.lemmas.Slice.Eq.{bytes_eq-Decides}
use Rattle.std.specs.Ordering.{is_ge}
use Rattle.std.specs.Option.{option_or}
use Rattle.std.specs.Result.{result_ok}
use Rattle.std.specs.List.{AllByRecursion, list_any, slice_get}
use Rattle.std.specs.List.Sorted.{IsStrictlySortedBy}
use Rattle.std.specs.Map.{keys_of}
use Rattle.std.specs.BTreeMap.{is_at}
use Rattle.desk_io.specs.Keys.{is_held}
use Rattle.desk_io.specs.ById.{AreRising, StandsAt, IsFoundAt, IsGapAt}
use Rattle.desk_io.proofs.ByIdLaws.{same, lower, rise, get_none}
use Rattle.facts.specs.declared.report.Report.{Report}
use Rattle.facts.specs.Same.{minute_of_report, is_same, same_id}
use Rattle.facts.specs.Swept.{stays, swept}
use Rattle.facts.specs.Index.{fingerprint, Key, id_of, key_of, key_order, key_entry, has_number, AreKeysOf, is_under, id_if, first_same, leads_to}
use Rattle.facts.proofs.KeyOrder.{at_key}
use Rattle.facts.proofs.KeyLaws.{any_mapped, has_mark, none_past, passing, each_filter, own, keys_run, leads}

-- ---- the report of a number

stands_there : (id : ℕ) (rs : List Report) (i : ℕ) → StandsAt id_of id rs i → slice_get rs i ≡ find (has_number id) rs
stands_there id [] i at = absurd at
stands_there id (r ∷ rs) zero at = rw (same r.id id at) refl
stands_there id (r ∷ rs) (suc i) at = rw (lower r.id id at.0) (stands_there id rs i at.1)

-- where a search by halves ends there is the report, or there is none
pub place_is : (id : ℕ) (rs : List Report) (r : Result ℕ ℕ) → AreRising id_of rs → IfOk r (IsFoundAt id_of id rs) × IfErr r (IsGapAt id_of id rs)
    → option_and_then (slice_get rs) (result_ok r) ≡ find (has_number id) rs
place_is id rs (Ok i) pairs is = stands_there id rs i is.0.stands
place_is id rs (Err i) pairs is = get_none id_of id rs i pairs is.1

-- ---- where keys lead to

module _ (text : List ℕ) (minute mark : ℕ) where
  -- of the reports that keys lead to the number of the first of the text and the moment
  abbrev first_all : List Report → List Key → Option ℕ
  first_all rs [] = None
  first_all rs (key ∷ keys) = option_or (id_if text minute (find (has_number key.2) rs)) (first_all rs keys)

  to_end : (rs : List Report) (ks : List Key) → IsStrictlySortedBy key_order ks → AllByRecursion (λ k. is_ge (key_order k (minute, mark, 0)) ≡ true) ks
      → first_same text minute mark rs ks ≡ first_all rs (filter (is_under minute mark) ks)
  unfolding IsStrictlySortedBy
  to_end rs [] rising from = refl
  to_end rs (k ∷ ks) rising from = by (is_under minute mark k) refl (to_end rs ks rising.1 from.1)
    where
      by : (b : Bool) → is_under minute mark k ≡ b → first_same text minute mark rs ks ≡ first_all rs (filter (is_under minute mark) ks)
          → cond b (option_or (id_if text minute (find (has_number k.2) rs)) (first_same text minute mark rs ks)) None ≡ first_all rs (cond b (k ∷ filter (is_under minute mark) ks) (filter (is_under minute mark) ks))
      by true e rest = ap (option_or (id_if text minute (find (has_number k.2) rs))) rest
      by false e rest = sym (ap (first_all rs) (none_past minute mark k ks e from.0 rising.0))

  first_of : (rs xs : List Report) → AllByRecursion (λ r. find (has_number r.id) rs ≡ Some r) xs → first_all rs (map key_of xs) ≡ option_map (λ r. r.id) (find (is_same text minute) xs)
  first_of rs [] all = refl
  first_of rs (r ∷ xs) all = ap (λ o. option_or (id_if text minute o) (first_all rs (map key_of xs))) all.0 ∙ by (is_same text minute r) (first_of rs xs all.1)
    where
      by : (b : Bool) → first_all rs (map key_of xs) ≡ option_map (λ r. r.id) (find (is_same text minute) xs)
          → option_or (cond b (Some r.id) None) (first_all rs (map key_of xs)) ≡ option_map (λ r. r.id) (cond b (Some r) (find (is_same text minute) xs))
      by true rest = refl
      by false rest = rest

  found_by : (r : Report) (fs : List Report) (o : Option Report) (b c d : Bool) → bytes_eq r.text text ≡ c → (minute_of_report r == minute) ≡ d → (c ≡ true → b ≡ true) → find (is_same text minute) fs ≡ o
      → find (is_same text minute) (cond (d && b) (r ∷ fs) fs) ≡ cond (c && d) (Some r) o
  found_by r fs o true true true has at is rest = ap (λ x. cond x (Some r) (find (is_same text minute) fs)) (λ i. has i && at i)
  found_by r fs o true false true has at is rest = ap (λ x. cond x (Some r) (find (is_same text minute) fs)) (λ i. has i && at i) ∙ rest
  found_by r fs o true true false has at is rest = rest
  found_by r fs o true false false has at is rest = rest
  found_by r fs o false true d has at is rest = absurd (let e = is refl in cc)
  found_by r fs o false false true has at is rest = rest
  found_by r fs o false false false has at is rest = rest

  found_marked : mark ≡ fingerprint text → (rs : List Report) → find (is_same text minute) (filter (has_mark id_of key_of (λ r. refl) minute mark) rs) ≡ find (is_same text minute) rs
  found_marked marked [] = refl
  found_marked marked (r ∷ rs) =
      found_by r (filter (has_mark id_of key_of (λ r. refl) minute mark) rs) (find (is_same text minute) rs) (fingerprint r.text == mark) (bytes_eq r.text text) (minute_of_report r == minute) refl refl
      (λ alike. same (fingerprint r.text) mark (ap fingerprint ((bytes_eq-Decides r.text text).0 alike) ∙ sym marked)) (found_marked marked rs)

  -- the report that the keys from the least one on lead to
  pub first_is : (rs : List Report) (keys run : List Key) → mark ≡ fingerprint text → AllPairs (λ a b. a.id < b.id) rs → AreKeysOf rs keys
      → run ≡ filter (λ k. is_ge (key_order k (minute, mark, 0))) keys → IsStrictlySortedBy key_order run → first_same text minute mark rs run ≡ same_id rs text minute
  unfolding same_id
  first_is rs keys run marked pairs is view rising =
      let all = rise id_of rs pairs in
      let from = subst (λ ks. AllByRecursion (λ k. is_ge (key_order k (minute, mark, 0)) ≡ true) ks) (sym view) (passing (λ k. is_ge (key_order k (minute, mark, 0))) keys) in
      to_end rs run rising from
      ∙ ap (first_all rs) (keys_run id_of key_of (λ r. refl) minute mark rs keys run all (λ q e. is.each q) view rising)
      ∙ first_of rs (filter (has_mark id_of key_of (λ r. refl) minute mark) rs) (each_filter (λ r. find (has_number r.id) rs ≡ Some r) (has_mark id_of key_of (λ r. refl) minute mark) rs (own id_of rs all))
      ∙ ap (option_map (λ r. r.id)) (found_marked marked rs)

-- ---- the keys once there are reports, once one comes, and once some go

pub none_keyed : (keys : List Key) (rs : List Report) → keys ≡ [] → rs ≡ [] → AreKeysOf rs keys
none_keyed keys rs e f = record { each = λ q. ap (list_any (is_at (key_order q))) e ∙ sym (ap (list_any (λ r. is_at (key_order q) (key_of r))) f) }

entry_keys : (rs : List Report) → keys_of (map key_entry rs) ≡ map key_of rs
entry_keys [] = refl
entry_keys (r ∷ rs) = ap (λ qs. key_of r ∷ qs) (entry_keys rs)

-- all of their keys
pub keys_listed : (rs : List Report) (entries : List (Key × Unit {0})) (keys : List Key) → entries ≡ map key_entry rs → ((q : Key) → is_held key_order q keys ≡ is_held key_order q (keys_of entries))
    → AreKeysOf rs keys
keys_listed rs entries keys listed is = record {
  each = λ q. is q ∙ ap (λ es. list_any (is_at (key_order q)) (keys_of es)) listed ∙ ap (list_any (is_at (key_order q))) (entry_keys rs) ∙ any_mapped id_of key_of (λ r. refl) (is_at (key_order q)) rs;
}

last_first : (a b : Bool) → (a || b) ≡ (b || (a || false))
last_first true true = refl
last_first true false = refl
last_first false true = refl
last_first false false = refl

pub more_keys : (rs : List Report) (r : Report) (key : Key) (before after : List Key) → AreKeysOf rs before → key ≡ key_of r
    → ((q : Key) → is_held key_order q after ≡ (is_at (key_order q) key || is_held key_order q before)) → AreKeysOf (rs ++ r ∷ []) after
more_keys rs r key before after is of_it put = record {
  each = λ q.
      put q ∙ (λ i. is_at (key_order q) (of_it i) || is.each q i)
      ∙ last_first (is_at (key_order q) (key_of r)) (list_any (λ x. is_at (key_order q) (key_of x)) rs)
      ∙ sym (list_any-append (λ x. is_at (key_order q) (key_of x)) rs (r ∷ []));
}

pub keys_swept : (before : ℕ) (keep : List ℕ) (rs left : List Report) (keys after : List Key) → AllPairs (λ a b. a.id < b.id) rs → AreKeysOf rs keys → left ≡ swept before keep rs
    → after ≡ filter (leads_to left) keys → AreKeysOf left after
unfolding swept
keys_swept before keep rs left keys after pairs is same gone = record {
  each = λ q.
      ap (list_any (is_at (key_order q))) gone
      ∙ any-filter_same (is_at (key_order q)) (leads_to left) (leads_to left q) (λ k at. ap (leads_to left) (sym (at_key q k at))) keys
      ∙ ap (λ b. leads_to left q && b) (is.each q)
      ∙ ap (λ xs. list_any (has_number q.2) xs && list_any (λ r. is_at (key_order q) (key_of r)) rs) same
      ∙ leads id_of key_of (λ r. refl) (stays before keep rs) q rs (rise id_of rs pairs)
      ∙ sym (ap (list_any (λ r. is_at (key_order q) (key_of r))) same);
}
