-- Passages, and then others.
use Rattle.std.proofs.Common.{◌≡◌, ◌≢◌, ℕ, ◌<◌, ◌||◌, cond, Bool, true, false, List, [], ◌∷◌, ◌++◌, refl, sym, ap, ◌∙◌, arith, append_assoc, ne_eqb}
use mathlib.Core.List.{IsPrefix}
use Rattle.connections.specs.Doors.{Visit}
use Rattle.turn_lock.specs.Elements.{elements_of}
use Rattle.workers.specs.Passages.{came_in, came_one, failed_one, has_failed, lacks_one, passages_of, passages_one, ran_out, went_in, went_one, worker_of}
use Rattle.workers.specs.declared.passages.Passage.{Passage}
use Rattle.workers.specs.declared.passages.Passage.TheVariants.{Began}

or_assoc : (a b c : Bool) → (a || (b || c)) ≡ ((a || b) || c)
or_assoc true b c = refl
or_assoc false b c = refl

or_first : (a b : Bool) → a ≡ true → (a || b) ≡ true
or_first a b is = ap (λ t. t || b) is

module _ {D L : Type 0} where
  pub came_on : (ps qs : List (Passage D L)) → came_in (ps ++ qs) ≡ came_in ps ++ came_in qs
  came_on [] qs = refl
  came_on (p ∷ ps) qs = ap (λ t. came_one p ++ t) (came_on ps qs) ∙ sym (append_assoc (came_one p) (came_in ps) (came_in qs))

  pub went_on : (ps qs : List (Passage D L)) → went_in (ps ++ qs) ≡ went_in ps ++ went_in qs
  went_on [] qs = refl
  went_on (p ∷ ps) qs = ap (λ t. went_one p ++ t) (went_on ps qs) ∙ sym (append_assoc (went_one p) (went_in ps) (went_in qs))

  pub ran_on : (ps qs : List (Passage D L)) → ran_out (ps ++ qs) ≡ (ran_out ps || ran_out qs)
  ran_on [] qs = refl
  ran_on (p ∷ ps) qs = ap (λ t. lacks_one p || t) (ran_on ps qs) ∙ or_assoc (lacks_one p) (ran_out ps) (ran_out qs)

  pub failed_on : (ps qs : List (Passage D L)) → has_failed (ps ++ qs) ≡ (has_failed ps || has_failed qs)
  failed_on [] qs = refl
  failed_on (p ∷ ps) qs = ap (λ t. failed_one p || t) (failed_on ps qs) ∙ or_assoc (failed_one p) (has_failed ps) (has_failed qs)

  -- a list that goes on has failed too
  pub failed_later : (ps qs : List (Passage D L)) → IsPrefix ps qs → has_failed ps ≡ true → has_failed qs ≡ true
  failed_later ps qs begins failed = ap has_failed (sym begins.1) ∙ (failed_on ps begins.0 ∙ or_first (has_failed ps) (has_failed begins.0) failed)

  pub passages_on : (worker : ℕ) (vs ws : List (Visit L)) → passages_of {D = D} worker (vs ++ ws) ≡ passages_of worker vs ++ passages_of worker ws
  passages_on worker [] ws = refl
  passages_on worker (v ∷ vs) ws = ap (λ (t : List (Passage D L)). passages_one worker v ++ t) (passages_on worker vs ws) ∙ sym (append_assoc (passages_one worker v) (passages_of worker vs) (passages_of worker ws))

  -- the first element is no worker's
  pub after_first : (worker : ℕ) (door : D) (ps : List (Passage D L)) → 0 < worker → elements_of worker_of worker (Began door ∷ ps) ≡ elements_of worker_of worker ps
  after_first worker door ps some =
      let other : 0 ≢ worker = λ is. absurd (omega (arith, is, some)) in
      ap (λ t. cond t (Began door ∷ elements_of worker_of worker ps) (elements_of worker_of worker ps)) (ne_eqb 0 worker other)
