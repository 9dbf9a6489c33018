-- The connections of a worker, one after another.
use Rattle.std.proofs.Common.{◌≡◌, ℕ, Bool, true, false, List, [], ◌∷◌, ◌++◌, Option, None, Some, refl, sym, ap, subst, ◌∙◌, append_assoc, append-nil}
use Rattle.std.specs.Prelude.{IfNone, IfSome}
use mathlib.Core.List.{IsPrefix}
use Rattle.connections.specs.Doors.{Visit}
use Rattle.connections.specs.declared.rounds.Visited.{Visited}
use Rattle.connections.specs.declared.serving.Served.{Served}
use Rattle.turn_lock.proofs.ElementLaws.{prefix_self, prefix_trans}
use Rattle.turn_lock.specs.Elements.{elements_of}
use Rattle.turn_lock.specs.Passes.{pass_seen}
use Rattle.turn_lock.specs.declared.listed.Listed.{Ghosts}
use Rattle.turn_lock.specs.declared.pass.Pass.{Pass}
use Rattle.workers.proofs.PassageLaws.{passages_on}
use Rattle.workers.specs.Passages.{failure, has_failed, passages_of, worker_of}
use Rattle.workers.specs.Work.{Follow, HasServed, HasWorked, IsAtWork, IsLater, Works}
use Rattle.workers.specs.declared.passages.Passage.{Passage}
use Rattle.workers.specs.declared.passages.Passage.TheVariants.{Came, Went}

pub same_pass : {T E : Type 0} {g : Ghosts T E} (pass : Pass T E g) → IsLater pass pass
same_pass pass = record { lock = refl; number = refl; numbers = refl; seen = prefix_self (pass_seen pass) }

pub later_on : {T E : Type 0} {g : Ghosts T E} (old mid new : Pass T E g) → IsLater old mid → IsLater mid new → IsLater old new
later_on old mid new one two = record {
  lock = two.lock ∙ one.lock;
  number = two.number ∙ one.number;
  numbers = two.numbers ∙ one.numbers;
  seen = prefix_trans (pass_seen old) (pass_seen mid) (pass_seen new) one.seen two.seen;
}

follow_on : {L E : Type 0} (says : ℕ → List E → List E → L → L → Served → Type 0) (lane : ℕ) (from mid to : List E) (vs ws : List (Visit L)) → Follow says lane from vs mid → Follow says lane mid ws to → Follow says lane from (vs ++ ws) to
follow_on {E = E} says lane from mid to [] ws one two = subst (λ (l : List E). Follow says lane l ws to) one two
follow_on says lane from mid to (v ∷ vs) ws (seen, begins, said, rest) two = (seen, begins, said, follow_on says lane seen mid to vs ws rest two)

module _ {D L E : Type 0} (says : ℕ → List E → List E → L → L → Served → Type 0) (lane : ℕ) where
  served_on : (from mid to : List E) (old then new : List (Passage D L)) (vs ws : List (Visit L)) (failed : Bool) → HasServed says lane from mid old then vs false → HasServed says lane mid to then new ws failed
      → HasServed says lane from to old new (vs ++ ws) failed
  served_on from mid to old then new vs ws failed one two =
      let X : List (Passage D L) = elements_of worker_of lane old in
      let A : List (Passage D L) = passages_of lane vs in
      let B : List (Passage D L) = passages_of lane ws in
      let F : List (Passage D L) = failure lane failed in
      record {
        follow = follow_on says lane from mid to vs ws one.follow two.follow;
        passed =
            two.passed
            ∙ (ap (λ (t : List (Passage D L)). t ++ (B ++ F)) (one.passed ∙ ap (λ (t : List (Passage D L)). X ++ t) (append-nil A))
            ∙ (append_assoc X A (B ++ F) ∙ ap (λ (t : List (Passage D L)). X ++ t) (sym (append_assoc A B F) ∙ ap (λ (t : List (Passage D L)). t ++ F) (sym (passages_on lane vs ws)))));
      }

  -- none yet
  pub at_work_none : (list : List E) (passages : List (Passage D L)) → IsAtWork says lane list list passages passages
  at_work_none list passages = record { visits = []; has = record { follow = refl; passed = sym (append-nil (elements_of worker_of lane passages)) } }

  -- one more connection
  pub works_one : (from to : List E) (old mid new : List (Passage D L)) (link : L) (visited : Visited L) (back : Bool) → elements_of worker_of lane mid ≡ elements_of worker_of lane old ++ Came lane link ∷ []
      → elements_of worker_of lane new ≡ elements_of worker_of lane mid ++ Went lane visited back ∷ [] → IsPrefix from to → says lane from to link visited.link visited.served → IsAtWork says lane from to old new
  works_one from to old mid new link visited back came went begins said = record {
    visits = (record { came = link; went = visited.link; served = visited.served; back = back }) ∷ [];
    has = record {
      follow = (to, begins, said, refl);
      passed = went ∙ (ap (λ (t : List (Passage D L)). t ++ Went lane visited back ∷ []) came ∙ append_assoc (elements_of worker_of lane old) (Came lane link ∷ []) (Went lane visited back ∷ []));
    };
  }

  -- no connection more
  pub works_none : (list : List E) (old new : List (Passage D L)) (failed : Bool) → elements_of worker_of lane new ≡ elements_of worker_of lane old ++ failure lane failed → has_failed new ≡ true
      → HasWorked says lane list list old new
  works_none list old new failed none ended = record { visits = []; failed = failed; has = record { follow = refl; passed = none }; ended = ended }

  pub at_work_on : (from mid to : List E) (old then new : List (Passage D L)) → IsAtWork says lane from mid old then → IsAtWork says lane mid to then new → IsAtWork says lane from to old new
  at_work_on from mid to old then new one two = record { visits = one.visits ++ two.visits; has = served_on from mid to old then new one.visits two.visits false one.has two.has }

  pub worked_on : (from mid to : List E) (old then new : List (Passage D L)) → IsAtWork says lane from mid old then → HasWorked says lane mid to then new → HasWorked says lane from to old new
  worked_on from mid to old then new one two = record {
    visits = one.visits ++ two.visits;
    failed = two.failed;
    has = served_on from mid to old then new one.visits two.visits two.failed one.has two.has;
    ended = two.ended;
  }

  -- ---- by what the door answered

  pub works_at_none : (list : List E) (old new : List (Passage D L)) (r : Option L) → r ≡ None → IfNone r ((failed : Bool) × (elements_of worker_of lane new ≡ elements_of worker_of lane old ++ failure lane failed)) → IfNone r (has_failed new ≡ true)
      → HasWorked says lane list list old new
  works_at_none list old new None is (failed, none) ended = works_none list old new failed none ended
  works_at_none list old new (Some link) is none ended = absurd (cc is)

  pub works_at_some : (from to : List E) (old mid new : List (Passage D L)) (r : Option L) (link : L) (visited : Visited L) → r ≡ Some link
      → IfSome r (λ link. elements_of worker_of lane mid ≡ elements_of worker_of lane old ++ Came lane link ∷ [])
      → ((back : Bool) × (elements_of worker_of lane new ≡ elements_of worker_of lane mid ++ Went lane visited back ∷ [])) → IsPrefix from to → says lane from to link visited.link visited.served
      → IsAtWork says lane from to old new
  works_at_some from to old mid new None link visited is came went begins said = absurd (cc is)
  works_at_some from to old mid new (Some one) link visited is came (back, went) begins said =
      let same : one ≡ link = cc (is) in
      works_one from to old mid new link visited back (subst (λ (l : L). elements_of worker_of lane mid ≡ elements_of worker_of lane old ++ Came lane l ∷ []) same came) went begins said

  pub worked_if : (from to : List E) (old new : List (Passage D L)) (ended : Bool) → ended ≡ true → Works says lane from to old new ended → HasWorked says lane from to old new
  worked_if from to old new true is works = works
  worked_if from to old new false is works = absurd (cc is)

  pub at_work_if : (from to : List E) (old new : List (Passage D L)) (ended : Bool) → ended ≡ false → Works says lane from to old new ended → IsAtWork says lane from to old new
  at_work_if from to old new false is works = works
  at_work_if from to old new true is works = absurd (cc is)
