-- All workers, and the end.
use Rattle.std.proofs.Common.{◌≡◌, inl, inr, ℕ, ◌+◌, ◌<◌, ◌≤◌, Bool, true, false, List, [], ◌∷◌, ◌++◌, length, Option, None, Some, refl, sym, ap, subst, ◌∙◌, arith, append-nil}
use mathlib.Core.List.{IsPrefix}
use Rattle.connections.specs.Doors.{Visit}
use Rattle.connections.specs.Rounds.{HasNoneFrom, IsLast}
use Rattle.connections.specs.declared.doors.ServeEnd.{ServeEnd}
use Rattle.connections.specs.declared.doors.ServeEnd.TheVariants as ends
use Rattle.connections.specs.declared.serving.Served.{Served}
use Rattle.desk_io.proofs.HealthLaws.{rose_before}
use Rattle.desk_io.specs.Health.{GoesOn, IsSound, RoseOrFull}
use Rattle.desk_net.specs.Doors.{Links, Passed, passed}
use Rattle.desk_net.specs.Seen.{DoorSeen}
use Rattle.turn_lock.proofs.ElementLaws.{prefix_trans}
use Rattle.turn_lock.specs.Elements.{AddsNoneOf, EachBears, HasNoneAbove, IsAmong, elements_of}
use Rattle.workers.proofs.CrewLaws.{beside_later, workers_later}
use Rattle.workers.proofs.PassageLaws.{after_first, failed_later}
use Rattle.workers.specs.Doorways.{AreMoved, AtDoor, GoesOnBy, IsDoorway, at_door}
use Rattle.workers.specs.Passages.{came_in, has_failed, ran_out, went_in, worker_of}
use Rattle.workers.specs.Staying.{EndsStaying, HasStayed, IsAtPort, WorksBeside, end_of, lanes_of}
use Rattle.workers.specs.Work.{HaveWorked, IsBeside, TakesLanes}
use Rattle.workers.specs.declared.passages.Passage.{Passage}
use Rattle.workers.specs.declared.passages.Passage.TheVariants.{Began}

same_first : {D L : Type 0} (door first : D) (ps rest : List (Passage D L)) → (Began door ∷ []) ++ ps ≡ Began first ∷ rest → first ≡ door
same_first door first ps rest is = cc (is)

tail_none : {A : Type 0} (x y : A) (xs : List A) → x ∷ xs ≡ y ∷ [] → xs ≡ []
tail_none x y xs is = cc (is)

at_port : {D L : Type 0} (opened_at : Option ℕ) (port : ℕ) (ps : List (Passage D L)) → opened_at ≡ Some port → IsAtPort opened_at port ps
at_port opened_at port [] is = tt
at_port opened_at port (p ∷ ps) is = is

ends_by : {D L : Type 0} (door : Type 0) (ps : List (Passage D L)) (memory : Bool) → door → memory ≡ ran_out ps → EndsStaying door ps (end_of memory)
ends_by door ps true rose is = inl (rose, sym is)
ends_by door ps false rose is = (rose, sym is)

beside_of : {L E : Type 0} (bears : E → ℕ) (does : ℕ → List E → List E → Type 0) (ws : List (List (Visit L))) (n : ℕ) (list : List E) → length ws ≡ n → 0 < n → IsBeside bears does (1 + n) list → WorksBeside bears does ws list
beside_of bears does [] n list many some beside = tt
beside_of bears does (vs ∷ ws) n list many some beside = subst (λ m. IsBeside bears does (1 + m) list) (sym many) beside

lanes_many : {L : Type 0} (ws : List (List (Visit L))) (n : ℕ) → length ws ≡ n → 0 < n → lanes_of ws ≡ n + 1
lanes_many [] n many some = absurd (omega (arith, many, some))
lanes_many (vs ∷ ws) n many some = omega (arith, many)

-- what is known once all workers have ended, of the list and of the doorway
pub record HaveEnded {D L E : Type 0} (bears : E → ℕ) (says : ℕ → List E → List E → L → L → Served → Type 0) (does : ℕ → List E → List E → Type 0) (n : ℕ) (early mid : List E) (numbers next : List ℕ) (splits last : ℕ) (first : D) (begun at_mid taken : List (Passage D L))
    (at_numbers at_next : List ℕ) (at_splits at_last : ℕ) : Type 0 where
  pub empty : early ≡ []
  pub zero_in : IsAmong 0 numbers
  pub unsplit : splits ≡ 0
  pub takes : TakesLanes bears early mid numbers next splits last 1 (n + 1)
  pub began : begun ≡ Began first ∷ []
  pub at_zero_in : IsAmong 0 at_numbers
  pub at_unsplit : at_splits ≡ 0
  pub at_takes : TakesLanes worker_of begun at_mid at_numbers at_next at_splits at_last 1 n
  pub worked : HaveWorked bears says does 1 n mid at_mid
  pub begins : IsPrefix at_mid taken
  pub adds : AddsNoneOf worker_of at_next at_mid taken
  pub above : HasNoneAbove worker_of at_last taken

-- the door went on from the first one
pub run_goes : {D L E : Type 0} (bears : E → ℕ) (says : ℕ → List E → List E → L → L → Served → Type 0) (does : ℕ → List E → List E → Type 0) (seen : D → DoorSeen L) (n : ℕ) (early mid : List E) (numbers next : List ℕ) (splits last : ℕ)
    (first : D) (begun at_mid taken : List (Passage D L)) (at_numbers at_next : List ℕ) (at_splits at_last : ℕ) (s : AtDoor D L)
    → HaveEnded bears says does n early mid numbers next splits last first begun at_mid taken at_numbers at_next at_splits at_last → s.passages ≡ taken → (is : IsDoorway seen s) → GoesOnBy (seen first) (seen s.door) is.rest
run_goes {D} {L} {E} bears says does seen n early mid numbers next splits last first begun at_mid taken at_numbers at_next at_splits at_last s has same is =
    let whole : taken ≡ Began is.first ∷ is.rest = sym same ∙ is.begins in
    let from_start : IsPrefix (Began first ∷ []) taken = prefix_trans (Began first ∷ []) at_mid taken (subst (λ (l : List (Passage D L)). IsPrefix l at_mid) has.began has.at_takes.begins) has.begins in
    let same_door : is.first ≡ first = same_first first is.first from_start.0 is.rest (from_start.1 ∙ whole) in subst (λ (d : D). GoesOnBy (seen d) (seen s.door) is.rest) same_door is.goes_on

pub run_ends : {D L E : Type 0} (bears : E → ℕ) (says : ℕ → List E → List E → L → L → Served → Type 0) (does : ℕ → List E → List E → Type 0) (seen : D → DoorSeen L) (n port : ℕ) (early mid list : List E) (numbers next : List ℕ) (splits last : ℕ) (first : D)
    (begun at_mid taken : List (Passage D L)) (at_numbers at_next : List ℕ) (at_splits at_last : ℕ) (s : AtDoor D L) (end : ServeEnd) → 0 < n
    → HaveEnded bears says does n early mid numbers next splits last first begun at_mid taken at_numbers at_next at_splits at_last → s.passages ≡ taken → IsDoorway seen s → end ≡ end_of s.memory
    → (seen first).opened_at ≡ Some port → IsLast bears mid next last list → HasStayed D bears says does (record { before = seen first; after = seen s.door }) list port n end
run_ends {D} {L} {E} bears says does seen n port early mid list numbers next splits last first begun at_mid taken at_numbers at_next at_splits at_last s end some has same is how opened_at goes_last =
    let ps : List (Passage D L) = is.rest in
    let whole : taken ≡ Began is.first ∷ ps = sym same ∙ is.begins in
    let goes = run_goes bears says does seen n early mid numbers next splits last first begun at_mid taken at_numbers at_next at_splits at_last s has same is in
    let failed : has_failed ps ≡ true = ap has_failed (sym whole) ∙ failed_later at_mid taken has.begins (has.worked.ended some) in
    let many = has.worked.many in
    let count = has.takes.count in
    let at_count = has.at_takes.count in
    let unsplit = has.unsplit in
    let at_unsplit = has.at_unsplit in
    record {
      workers = has.worked.workers;
      passages = ps;
      are = workers_later bears says does 1 mid list at_mid ps has.worked.workers goes_last.begins (λ k low high. goes_last.adds k (has.takes.lanes k low (omega (arith, high, many))))
          (λ k low high. sym (after_first k is.first ps (omega (arith, low))) ∙ (ap (elements_of worker_of k) (sym whole) ∙ has.adds k (has.at_takes.lanes k low (omega (arith, high, many))))) has.worked.are;
      few = omega (arith, many);
      nothing = goes_last.adds 0 (has.takes.among 0 has.zero_in) ∙ (has.takes.adds 0 has.zero_in ∙ ap (elements_of bears 0) has.empty);
      beside = beside_of bears does has.worked.workers n list many some (beside_later bears does (1 + n) mid list goes_last.begins (goes_last.adds (1 + n) (has.takes.lanes (1 + n) (omega arith) (omega arith))) has.worked.beside);
      above = λ k more. goes_last.above k (let lanes = lanes_many has.worked.workers n many some in omega (arith, more, lanes, count, unsplit));
      no_other =
          tail_none (Began is.first) (Began first) (elements_of worker_of 0 ps)
          (ap (elements_of worker_of 0) (sym whole) ∙ (has.adds 0 (has.at_takes.among 0 has.at_zero_in) ∙ (has.at_takes.adds 0 has.at_zero_in ∙ ap (elements_of worker_of 0) has.began)));
      none_above = λ k more. sym (after_first k is.first ps (omega (arith, more))) ∙ (ap (elements_of worker_of k) (sym whole) ∙ has.above k (omega (arith, more, many, at_count, at_unsplit)));
      links = goes.links;
      passed = goes.passed;
      came_at = at_port (seen s.door).opened_at port ps (goes.port ∙ opened_at);
      ends =
          subst (EndsStaying (RoseOrFull (seen first).health.faults (seen s.door).health.faults) ps) (sym how)
          (ends_by (RoseOrFull (seen first).health.faults (seen s.door).health.faults) ps s.memory (goes.rose failed) is.memory);
      steady = λ fault sound next. goes.none failed sound next;
    }

still : (D : Type 0) {L : Type 0} (links : Option (Links L)) → AreMoved {D = D} links links []
still D None = tt
still D (Some links) = (refl, sym (append-nil links.ended))

still_passed : {L : Type 0} (p : Passed L) → p ≡ passed (p.came ++ []) (p.went ++ [])
still_passed {L} p = ap (λ (t : List L). passed t p.went) (sym (append-nil p.came)) ∙ ap (λ (t : List L). passed (p.came ++ []) t) (sym (append-nil p.went))

-- nobody worked
no_one : {D L E : Type 0} (bears : E → ℕ) (says : ℕ → List E → List E → L → L → Served → Type 0) (does : ℕ → List E → List E → Type 0) (door : DoorSeen L) (new : DoorSeen L) (list : List E) (port most : ℕ) (end : ServeEnd) → HasNoneAbove bears 0 list → elements_of bears 0 list ≡ []
    → new.links ≡ door.links → new.passed ≡ door.passed → EndsStaying {D = D} {L = L} (RoseOrFull door.health.faults new.health.faults) [] end
    → (end ≡ ends.DoorFault → IsSound door.health → ⊥) → HasStayed D bears says does (record { before = door; after = new }) list port most end
no_one {D} {L} {E} bears says does door new list port most end above nothing links same_passed ended steady = record {
  workers = [];
  passages = [];
  are = tt;
  few = omega arith;
  nothing = nothing;
  beside = tt;
  above = above;
  no_other = refl;
  none_above = λ k more. refl;
  links = subst (λ (l : Option (Links L)). AreMoved {D = D} door.links l []) (sym links) (still D door.links);
  passed = same_passed ∙ still_passed door.passed;
  came_at = tt;
  ends = ended;
  steady = λ fault sound next. steady fault sound;
}

-- the list at the end holds nothing, if no pass was given out and nothing was seen
pub none_worked : {D L E : Type 0} (bears : E → ℕ) (says : ℕ → List E → List E → L → L → Served → Type 0) (does : ℕ → List E → List E → Type 0) (door new : DoorSeen L) (seen list : List E) (numbers : List ℕ) (splits port most : ℕ) (end : ServeEnd) → seen ≡ [] → IsAmong 0 numbers → splits ≡ 0
    → new.links ≡ door.links → new.passed ≡ door.passed → EndsStaying {D = D} {L = L} (RoseOrFull door.health.faults new.health.faults) [] end
    → (end ≡ ends.DoorFault → IsSound door.health → ⊥) → IsLast bears seen numbers splits list → HasStayed D bears says does (record { before = door; after = new }) list port most end
none_worked bears says does door new seen list numbers splits port most end empty first unsplit links same_passed ended steady goes_last =
    no_one bears says does door new list port most end (λ k more. goes_last.above k (omega (arith, more, unsplit))) (goes_last.adds 0 first ∙ ap (elements_of bears 0) empty) links same_passed ended steady

-- there was no memory to begin with
pub out_of_memory : {D L E : Type 0} (bears : E → ℕ) (says : ℕ → List E → List E → L → L → Served → Type 0) (does : ℕ → List E → List E → Type 0) (door : DoorSeen L) (list : List E) (port most : ℕ) → list ≡ []
    → HasStayed D bears says does (record { before = door; after = door }) list port most ends.OutOfMemory
out_of_memory bears says does door list port most empty =
    no_one bears says does door door list port most ends.OutOfMemory (λ k more. ap (elements_of bears k) empty) (ap (elements_of bears 0) empty) refl refl (inr refl) (λ is. absurd (cc is))

-- ---- a door that was opened first

ends_before : {D L : Type 0} (ps : List (Passage D L)) (old mid now : ℕ) (end : ServeEnd) → old ≤ mid → EndsStaying (RoseOrFull mid now) ps end → EndsStaying (RoseOrFull old now) ps end
ends_before ps old mid now ends.DoorFault less (rose, had) = (rose_before old mid now less rose, had)
ends_before ps old mid now ends.OutOfMemory less (inl (rose, ran)) = inl (rose_before old mid now less rose, ran)
ends_before ps old mid now ends.OutOfMemory less (inr none) = inr none
ends_before ps old mid now ends.Done less is = absurd is
ends_before ps old mid now ends.ClockFault less is = absurd is

pub after_opening : {D L E : Type 0} (bears : E → ℕ) (says : ℕ → List E → List E → L → L → Served → Type 0) (does : ℕ → List E → List E → Type 0) (old mid new : DoorSeen L) (list : List E) (port most : ℕ) (end : ServeEnd) → mid.links ≡ old.links → mid.passed ≡ old.passed
    → GoesOn old.health mid.health → HasStayed D bears says does (record { before = mid; after = new }) list port most end → HasStayed D bears says does (record { before = old; after = new }) list port most end
after_opening {D} {L} bears says does old mid new list port most end links same_passed goes has = record {
  workers = has.workers;
  passages = has.passages;
  are = has.are;
  few = has.few;
  nothing = has.nothing;
  beside = has.beside;
  above = has.above;
  no_other = has.no_other;
  none_above = has.none_above;
  links = subst (λ (l : Option (Links L)). AreMoved l new.links has.passages) links has.links;
  passed = has.passed ∙ ap (λ (p : Passed L). passed (p.came ++ came_in has.passages) (p.went ++ went_in has.passages)) same_passed;
  came_at = has.came_at;
  ends = ends_before has.passages old.health.faults mid.health.faults new.health.faults end goes.later has.ends;
  steady = λ fault sound next. has.steady fault (goes.sound sound).0 next;
}

-- ---- as doorways are seen

pub passages_same : {D L : Type 0} (s t : AtDoor D L) (list : List (Passage D L)) → s ≡ t → t.passages ≡ list → s.passages ≡ list
passages_same {D} {L} s t list same is = ap (λ (u : AtDoor D L). u.passages) same ∙ is

pub bears_none : {D L : Type 0} (s : AtDoor D L) (door : D) → s ≡ at_door door false false (Began door ∷ []) → EachBears worker_of 0 s.passages
bears_none {D} {L} s door same = subst (λ (u : AtDoor D L). EachBears worker_of 0 u.passages) (sym same) (refl, tt)

pub none_in : {E : Type 0} (bears : E → ℕ) (lane : ℕ) (list : List E) → list ≡ [] → HasNoneFrom bears lane list
unfolding HasNoneFrom
none_in bears lane list is = λ k more. ap (elements_of bears k) is

pub none_at_first : {D L : Type 0} (door : D) (seen : List (Passage D L)) → seen ≡ Began door ∷ [] → HasNoneFrom worker_of 1 seen
unfolding HasNoneFrom
none_at_first door seen is = λ k more. ap (elements_of worker_of k) is ∙ after_first k door [] (omega (arith, more))

pub first_part : {D : Type 0} (p : D × Bool) (door : D) (memory : Bool) → p ≡ (door, memory) → p.0 ≡ door
first_part {D} p door memory same = ap (λ (r : D × Bool). r.0) same

pub end_part : {D : Type 0} (p : D × Bool) (door : D) (memory : Bool) → p ≡ (door, memory) → end_of p.1 ≡ end_of memory
end_part {D} p door memory same = ap (λ (r : D × Bool). end_of r.1) same

pub counts_as : {D L : Type 0} (seen : D → DoorSeen L) (first door other : D) (ps : List (Passage D L)) → other ≡ door → GoesOnBy (seen first) (seen door) ps → (seen first).health.faults ≤ (seen other).health.faults
counts_as {D} seen first door other ps same goes = subst (λ (d : D). (seen first).health.faults ≤ (seen d).health.faults) (sym same) goes.later

pub door_same : {D L : Type 0} (s t : AtDoor D L) (door : D) → s ≡ t → t ≡ at_door door false false (Began door ∷ []) → s.door ≡ door
door_same {D} {L} s t door one two = ap (λ (u : AtDoor D L). u.door) (one ∙ two)

-- the same at another name of the door, or of the end
pub stayed_as : {D L E : Type 0} (bears : E → ℕ) (says : ℕ → List E → List E → L → L → Served → Type 0) (does : ℕ → List E → List E → Type 0) (seen : D → DoorSeen L) (old : DoorSeen L) (door other : D) (list : List E) (port most : ℕ) (end last : ServeEnd)
    → other ≡ door → last ≡ end → HasStayed D bears says does (record { before = old; after = seen door }) list port most end → HasStayed D bears says does (record { before = old; after = seen other }) list port most last
stayed_as {D} bears says does seen old door other list port most end last same ends_so stayed =
    subst (λ (e : ServeEnd). HasStayed D bears says does (record { before = old; after = seen other }) list port most e) (sym ends_so)
    (subst (λ (d : D). HasStayed D bears says does (record { before = old; after = seen d }) list port most end) (sym same) stayed)
