-- What a turn at the door adds to the list of passages.
use Rattle.std.proofs.Common.{◌≡◌, ℕ, Bool, true, false, List, [], ◌∷◌, ◌++◌, Option, None, Some, refl, sym, ap, ◌∙◌, append-nil}
use Rattle.std.specs.Prelude.{IfNone, IfSome}
use mathlib.Core.List.{IsPrefix}
use Rattle.connections.specs.declared.rounds.Visited.{Visited}
use Rattle.turn_lock.proofs.ElementLaws.{elements_of-own, prefix_trans}
use Rattle.turn_lock.specs.Elements.{Continues, elements_of}
use Rattle.workers.specs.Passages.{failure, has_failed, worker_of}
use Rattle.workers.specs.declared.passages.Passage.{Passage}
use Rattle.workers.specs.declared.passages.Passage.TheVariants.{Came, Failed, Went}

module _ {D L : Type 0} (worker : ℕ) where
  -- what a pass has seen after its turn
  pub seen_on : (old taken new last : List (Passage D L)) → IsPrefix old taken → Continues worker_of worker taken new → last ≡ new → IsPrefix old last
  seen_on old taken new last begins more is = prefix_trans old taken last begins (more.0, sym (is ∙ more.1))

  one_more : (old taken new last : List (Passage D L)) (p : Passage D L) → worker_of p ≡ worker → elements_of worker_of worker taken ≡ elements_of worker_of worker old → new ≡ taken ++ p ∷ [] → last ≡ new
      → elements_of worker_of worker last ≡ elements_of worker_of worker old ++ p ∷ []
  one_more old taken new last p bears own grown is =
      ap (elements_of worker_of worker) (is ∙ grown) ∙ (elements_of-own worker_of worker taken p bears ∙ ap (λ (t : List (Passage D L)). t ++ p ∷ []) own)

  pub came_of : (old taken new last : List (Passage D L)) (r : Option L) → elements_of worker_of worker taken ≡ elements_of worker_of worker old → last ≡ new → IfSome r (λ link. new ≡ taken ++ Came worker link ∷ [])
      → IfSome r (λ link. elements_of worker_of worker last ≡ elements_of worker_of worker old ++ Came worker link ∷ [])
  came_of old taken new last (Some link) own is came = one_more old taken new last (Came worker link) refl own came is
  came_of old taken new last None own is came = tt

  failure_of : (old taken new last : List (Passage D L)) (failed : Bool) → elements_of worker_of worker taken ≡ elements_of worker_of worker old → last ≡ new → new ≡ taken ++ failure worker failed
      → elements_of worker_of worker last ≡ elements_of worker_of worker old ++ failure worker failed
  failure_of old taken new last true own is none = one_more old taken new last (Failed worker) refl own none is
  failure_of old taken new last false own is none = ap (elements_of worker_of worker) (is ∙ (none ∙ append-nil taken)) ∙ (own ∙ sym (append-nil (elements_of worker_of worker old)))

  pub none_of : (old taken new last : List (Passage D L)) (r : Option L) → elements_of worker_of worker taken ≡ elements_of worker_of worker old → last ≡ new → IfNone r ((failed : Bool) × (new ≡ taken ++ failure worker failed))
      → IfNone r ((failed : Bool) × (elements_of worker_of worker last ≡ elements_of worker_of worker old ++ failure worker failed))
  none_of old taken new last (Some link) own is none = tt
  none_of old taken new last None own is (failed, none) = (failed, failure_of old taken new last failed own is none)

  pub failed_of : (new last : List (Passage D L)) (r : Option L) → last ≡ new → IfNone r (has_failed new ≡ true) → IfNone r (has_failed last ≡ true)
  failed_of new last (Some link) is failed = tt
  failed_of new last None is failed = ap has_failed is ∙ failed

  pub back_of : (old taken new last : List (Passage D L)) (visited : Visited L) → elements_of worker_of worker taken ≡ elements_of worker_of worker old → last ≡ new → ((back : Bool) × (new ≡ taken ++ Went worker visited back ∷ []))
      → (back : Bool) × (elements_of worker_of worker last ≡ elements_of worker_of worker old ++ Went worker visited back ∷ [])
  back_of old taken new last visited own is (back, went) = (back, one_more old taken new last (Went worker visited back) refl own went is)
