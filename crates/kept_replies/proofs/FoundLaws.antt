-- The keys of one fingerprint and number lead to the first reply to a person under that number.
use Rattle.std.proofs.Common.{◌≡◌, refl, sym, ap, ◌∙◌, subst, ℕ, ◌==◌, Bool, true, false, cond, ◌&&◌, List, [], ◌∷◌, filter, map, Option, Some, None}
use Rattle.std.proofs.lemmas.Slice.Eq.{bytes_eq-Decides}
use Rattle.std.specs.Ordering.{is_ge}
use Rattle.std.specs.Option.{option_or}
use Rattle.std.specs.List.{AllByRecursion, find, list_any}
use Rattle.std.specs.List.Sorted.{IsStrictlySortedBy}
use Rattle.std.specs.BTreeMap.{is_at}
use Rattle.std.specs.Str.{bytes_eq}
use Rattle.desk_io.specs.ById.{AreRising}
use Rattle.desk_io.proofs.ByIdLaws.{same, rise}
use Rattle.facts.specs.Index.{fingerprint}
use Rattle.facts.proofs.KeyOrder.{parts}
use Rattle.facts.proofs.KeyLaws as laws
use Rattle.facts.proofs.KeyLaws.{none_past, passing, each_filter, own, keys_run}
use Rattle.asks.specs.declared.kept.KeptReply.{KeptReply}
use Rattle.kept_replies.specs.Requests.{kept_at}
use Rattle.kept_replies.specs.Index.{Key, id_of, key_of, key_cmp, has_id, AreKeysUnder, is_under, named, first_to}

pub any_mapped : (t : Key → Bool) (ks : List KeptReply) → list_any t (map key_of ks) ≡ list_any (λ k. t (key_of k)) ks
any_mapped t ks = laws.any_mapped id_of key_of (λ k. refl) t ks

module _ (actor : List ℕ) (mark number : ℕ) where
  -- a reply whose key is under the fingerprint and the number
  abbrev has_mark : KeptReply → Bool
  has_mark k = is_under mark number (key_of k)

  -- of the replies that keys lead to the first to a person
  abbrev pub first_all : List KeptReply → List Key → Option KeptReply
  first_all kept [] = None
  first_all kept (key ∷ keys) = option_or (named actor (find (has_id key.2) kept)) (first_all kept keys)

  to_end : (kept : List KeptReply) (ks : List Key) → IsStrictlySortedBy key_cmp ks → AllByRecursion (λ k. is_ge (key_cmp k (mark, number, 0)) ≡ true) ks
      → first_to actor mark number kept ks ≡ first_all kept (filter (is_under mark number) ks)
  unfolding IsStrictlySortedBy
  to_end kept [] rising from = refl
  to_end kept (k ∷ ks) rising from = by (is_under mark number k) refl (to_end kept ks rising.1 from.1)
    where
      by : (b : Bool) → is_under mark number k ≡ b → first_to actor mark number kept ks ≡ first_all kept (filter (is_under mark number) ks)
          → cond b (option_or (named actor (find (has_id k.2) kept)) (first_to actor mark number kept ks)) None ≡ first_all kept (cond b (k ∷ filter (is_under mark number) ks) (filter (is_under mark number) ks))
      by true e rest = ap (option_or (named actor (find (has_id k.2) kept))) rest
      by false e rest = sym (ap (first_all kept) (none_past mark number k ks e from.0 rising.0))

  first_named : (kept ks : List KeptReply) → AllByRecursion (λ k. find (has_id k.id) kept ≡ Some k) ks → first_all kept (map key_of ks) ≡ find (λ k. bytes_eq k.actor actor) ks
  first_named kept [] all = refl
  first_named kept (k ∷ ks) all = ap (λ o. option_or (named actor o) (first_all kept (map key_of ks))) all.0 ∙ by (bytes_eq k.actor actor) (first_named kept ks all.1)
    where
      by : (b : Bool) → first_all kept (map key_of ks) ≡ find (λ k. bytes_eq k.actor actor) ks
          → option_or (cond b (Some k) None) (first_all kept (map key_of ks)) ≡ cond b (Some k) (find (λ k. bytes_eq k.actor actor) ks)
      by true rest = refl
      by false rest = rest

  found_by : (k : KeptReply) (fs : List KeptReply) (o : Option KeptReply) (b c d : Bool) → bytes_eq k.actor actor ≡ c → (c ≡ true → b ≡ true) → find (λ k. bytes_eq k.actor actor) fs ≡ o
      → find (λ k. bytes_eq k.actor actor) (cond (b && d) (k ∷ fs) fs) ≡ cond (d && c) (Some k) o
  found_by k fs o true true true has is rest = ap (λ x. cond x (Some k) (find (λ k. bytes_eq k.actor actor) fs)) has
  found_by k fs o true false true has is rest = ap (λ x. cond x (Some k) (find (λ k. bytes_eq k.actor actor) fs)) has ∙ rest
  found_by k fs o true true false has is rest = rest
  found_by k fs o true false false has is rest = rest
  found_by k fs o false true d has is rest = absurd (let e = is refl in cc)
  found_by k fs o false false true has is rest = rest
  found_by k fs o false false false has is rest = rest

  found_marked : mark ≡ fingerprint actor → (ks : List KeptReply) → find (λ k. bytes_eq k.actor actor) (filter has_mark ks) ≡ kept_at actor number ks
  found_marked marked [] = refl
  found_marked marked (k ∷ ks) =
      found_by k (filter has_mark ks) (kept_at actor number ks) (fingerprint k.actor == mark) (bytes_eq k.actor actor) (k.number == number) refl
      (λ named. same (fingerprint k.actor) mark (ap fingerprint ((bytes_eq-Decides k.actor actor).0 named) ∙ sym marked)) (found_marked marked ks)

  -- the reply that the keys from the least one on lead to
  pub first_is : (kept : List KeptReply) (under : ℕ → List Key) (run : List Key) → mark ≡ fingerprint actor → AreRising id_of kept → AreKeysUnder kept under
      → run ≡ filter (λ k. is_ge (key_cmp k (mark, number, 0))) (under mark) → IsStrictlySortedBy key_cmp run → first_to actor mark number kept run ≡ kept_at actor number kept
  first_is kept under run marked pairs is view rising =
      let all = rise id_of kept pairs in
      let from = subst (λ ks. AllByRecursion (λ k. is_ge (key_cmp k (mark, number, 0)) ≡ true) ks) (sym view) (passing (λ k. is_ge (key_cmp k (mark, number, 0))) (under mark)) in
      to_end kept run rising from
      ∙ ap (first_all kept) (keys_run id_of key_of (λ k. refl) mark number kept (under mark) run all
      (λ q e. ap (λ m. list_any (is_at (key_cmp q)) (under m)) (sym (parts mark number q e).0) ∙ is.each q) view rising)
      ∙ first_named kept (filter has_mark kept) (each_filter (λ k. find (has_id k.id) kept ≡ Some k) has_mark kept (own id_of kept all))
      ∙ found_marked marked kept
