-- A door goes on by what happens at it.
use Rattle.std.proofs.Common.{◌≡◌, ℕ, ◌+◌, ◌-◌, ◌^◌, ◌≤◌, ◌<◌, ◌||◌, Bool, true, false, List, [], ◌∷◌, ◌++◌, length, Option, None, Some, Ok, Err, refl, sym, ap, subst, ◌∙◌, arith, append_assoc, append-nil, length-append}
use Rattle.std.specs.Prelude.{IfNone, IfSome, is_some, min, not}
use Rattle.connections.specs.declared.rounds.Visited.{Visited}
use Rattle.desk_io.proofs.HealthLaws.{rose_before}
use Rattle.desk_io.specs.Health.{GoesOnWhere, HasFailedWhere, Health, RoseOrFull}
use Rattle.desk_io.specs.Over.{Over}
use Rattle.desk_net.specs.Doors.{Accepts, HasNext, LetsOut, Links, Passed, TakesBack, passed}
use Rattle.desk_net.specs.Seen.{DoorSeen}
use Rattle.workers.proofs.PassageLaws.{came_on, failed_on, ran_on, went_on}
use Rattle.workers.specs.Doorways.{AreMoved, AtDoor, GoesOnBy, IsAccepted, IsDoorway, IsGivenBack, at_door}
use Rattle.turn_lock.specs.Elements.{Continues}
use Rattle.workers.specs.Passages.{came_in, failure, has_failed, lacks_memory, ran_out, went_in, worker_of}
use Rattle.workers.specs.declared.passages.Passage.{Passage}
use Rattle.workers.specs.declared.passages.Passage.TheVariants.{Began, Came, Failed, Went}

-- ---- links

moved_on : {D L : Type 0} (old mid new : Option (Links L)) (ps qs : List (Passage D L)) → AreMoved old mid ps → AreMoved mid new qs → AreMoved old new (ps ++ qs)
moved_on None None None ps qs one two = tt
moved_on {L = L} (Some old) (Some mid) (Some new) ps qs one two = (
  one.0 ∙ (ap (λ (t : List L). came_in ps ++ t) two.0 ∙ (sym (append_assoc (came_in ps) (came_in qs) new.coming) ∙ ap (λ (t : List L). t ++ new.coming) (sym (came_on ps qs)))),
  two.1 ∙ (ap (λ (t : List L). t ++ went_in qs) one.1 ∙ (append_assoc old.ended (went_in ps) (went_in qs) ∙ ap (λ (t : List L). old.ended ++ t) (sym (went_on ps qs)))),
)
moved_on None None (Some new) ps qs one two = absurd two
moved_on None (Some mid) new ps qs one two = absurd one
moved_on (Some old) None new ps qs one two = absurd one
moved_on (Some old) (Some mid) None ps qs one two = absurd two

moved_none : (D : Type 0) {L : Type 0} (links : Option (Links L)) → AreMoved {D = D} links links []
moved_none D None = tt
moved_none D (Some links) = (refl, sym (append-nil links.ended))

moved_came : (D E : Type 0) {L : Type 0} (old new : Option (Links L)) (worker : ℕ) (link : L) → Accepts {E = E} old new (Ok link) → AreMoved {D = D} old new (Came worker link ∷ [])
moved_came D E None None worker link is = tt
moved_came D E (Some old) (Some new) worker link is = (is.first, is.ended ∙ sym (append-nil old.ended))
moved_came D E None (Some new) worker link is = absurd is
moved_came D E (Some old) None worker link is = absurd is

moved_failed : (D : Type 0) {L E : Type 0} (old new : Option (Links L)) (worker : ℕ) (e : E) → Accepts old new (Err e) → AreMoved {D = D} old new (Failed worker ∷ [])
moved_failed D None None worker e is = tt
moved_failed D {L} (Some old) (Some new) worker e is =
    (ap (λ (l : Links L). l.coming) (sym is), ap (λ (l : Links L). l.ended) is ∙ sym (append-nil old.ended))
moved_failed D None (Some new) worker e is = absurd is
moved_failed D (Some old) None worker e is = absurd is

moved_back : (D F : Type 0) {L T : Type 0} (old new : Option (Links L)) (worker : ℕ) (visited : Visited L) (x : T) → TakesBack {E = F} old new visited.link (Ok x) → AreMoved {D = D} old new (Went worker visited true ∷ [])
moved_back D F None None worker visited x is = tt
moved_back D F (Some old) (Some new) worker visited x is = (sym is.coming, is.last)
moved_back D F None (Some new) worker visited x is = absurd is
moved_back D F (Some old) None worker visited x is = absurd is

moved_lost : (D T : Type 0) {L F : Type 0} (old new : Option (Links L)) (worker : ℕ) (visited : Visited L) (e : F) → TakesBack {T = T} old new visited.link (Err e) → AreMoved {D = D} old new (Went worker visited false ∷ [])
moved_lost D T None None worker visited e is = tt
moved_lost D T {L} (Some old) (Some new) worker visited e is =
    (ap (λ (l : Links L). l.coming) (sym is), ap (λ (l : Links L). l.ended) is ∙ sym (append-nil old.ended))
moved_lost D T None (Some new) worker visited e is = absurd is
moved_lost D T (Some old) None worker visited e is = absurd is

-- what is still to come was to come before
next_before : {D L : Type 0} (old new : Option (Links L)) (ps : List (Passage D L)) → AreMoved old new ps → HasNext new → HasNext old
next_before None None ps moved has = tt
next_before {L = L} (Some old) (Some new) ps moved has =
    let all = ap (λ (ls : List L). length ls) moved.0 in let both = length-append (came_in ps) new.coming in omega (arith, all, both, has)
next_before None (Some new) ps moved has = absurd moved
next_before (Some old) None ps moved has = absurd moved

next_same : {L E : Type 0} (old new : Option (Links L)) (e : E) → Accepts old new (Err e) → HasNext new → HasNext old
next_same None None e is next = tt
next_same {L} (Some old) (Some new) e is next = subst (λ (l : Links L). 0 < length l.coming) is next
next_same None (Some new) e is next = absurd is
next_same (Some old) None e is next = absurd is

-- ---- answers of tests

or_none : (a : Bool) → a ≡ (a || false)
or_none true = refl
or_none false = refl

or_last : (a : Bool) → (a || true) ≡ true
or_last true = refl
or_last false = refl

is_false : (b : Bool) → true ≡ not b → b ≡ false
is_false true e = absurd (cc e)
is_false false e = refl

is_true : (b : Bool) → false ≡ not b → b ≡ true
is_true true e = refl
is_true false e = absurd (cc e)

-- ---- two parts

rose_later : (before middle after : ℕ) → middle ≤ after → RoseOrFull before middle → RoseOrFull before after
rose_later before middle after more rose = omega (arith, more, rose)

either : (a b : Bool) (P : Type 0) → (a ≡ true → P) → (b ≡ true → P) → (a || b) ≡ true → P
either true b P first second is = first refl
either false b P first second is = second is

module _ {D L : Type 0} where
  pub goes_then : (old mid new : DoorSeen L) (ps qs : List (Passage D L)) → GoesOnBy old mid ps → GoesOnBy mid new qs → GoesOnBy old new (ps ++ qs)
  goes_then old mid new ps qs one two =
      let first = one.later in
      let then = two.later in
      record {
        links = moved_on old.links mid.links new.links ps qs one.links two.links;
        passed =
            two.passed
            ∙ (ap (λ (p : Passed L). passed (p.came ++ came_in qs) (p.went ++ went_in qs)) one.passed
            ∙ (ap (λ (t : List L). passed t ((old.passed.went ++ went_in ps) ++ went_in qs)) (append_assoc old.passed.came (came_in ps) (came_in qs) ∙ ap (λ (t : List L). old.passed.came ++ t) (sym (came_on ps qs)))
            ∙ ap (λ (t : List L). passed (old.passed.came ++ came_in (ps ++ qs)) t) (append_assoc old.passed.went (went_in ps) (went_in qs) ∙ ap (λ (t : List L). old.passed.went ++ t) (sym (went_on ps qs)))));
        port = two.port ∙ one.port;
        later = omega (arith, first, then);
        sound = λ sound. two.sound (one.sound sound);
        rose = λ failed.
            either (has_failed ps) (has_failed qs) (RoseOrFull old.health.faults new.health.faults)
            (λ early. rose_later old.health.faults mid.health.faults new.health.faults then (one.rose early))
            (λ late. rose_before old.health.faults mid.health.faults new.health.faults first (two.rose late)) (sym (failed_on ps qs) ∙ failed);
        none = λ failed sound next.
            either (has_failed ps) (has_failed qs) ⊥ (λ early. one.none early sound (next_before mid.links new.links qs two.links next))
            (λ late. two.none late (one.sound sound) next) (sym (failed_on ps qs) ∙ failed);
      }

  pub goes_still : (door : DoorSeen L) → GoesOnBy {D = D} door door []
  goes_still door = record {
    links = moved_none D door.links;
    passed = ap (λ (t : List L). passed t door.passed.went) (sym (append-nil door.passed.came)) ∙ ap (λ (t : List L). passed (door.passed.came ++ []) t) (sym (append-nil door.passed.went));
    port = refl;
    later = omega arith;
    sound = λ sound. sound;
    rose = λ failed. absurd (cc failed);
    none = λ failed. absurd (cc failed);
  }

  -- ---- one passage

  pub goes_came : (E : Type 0) (old new : DoorSeen L) (worker : ℕ) (link : L) → Accepts {E = E} old.links new.links (Ok link) → new.passed ≡ passed (old.passed.came ++ link ∷ []) old.passed.went → new.opened_at ≡ old.opened_at
      → GoesOnWhere (HasNext old.links) old.health new.health → GoesOnBy {D = D} old new (Came worker link ∷ [])
  goes_came E old new worker link accepts let_in port goes = record {
    links = moved_came D E old.links new.links worker link accepts;
    passed = let_in ∙ ap (λ (t : List L). passed (old.passed.came ++ link ∷ []) t) (sym (append-nil old.passed.went));
    port = port;
    later = goes.later;
    sound = λ sound. (goes.sound sound).0;
    rose = λ failed. absurd (cc failed);
    none = λ failed. absurd (cc failed);
  }

  pub goes_failed : {E : Type 0} (old new : DoorSeen L) (worker : ℕ) (e : E) → Accepts old.links new.links (Err e) → new.passed ≡ old.passed → new.opened_at ≡ old.opened_at
      → GoesOnWhere (HasNext old.links) old.health new.health → HasFailedWhere (HasNext old.links) old.health new.health → GoesOnBy {D = D} old new (Failed worker ∷ [])
  goes_failed old new worker e accepts same port goes failed = record {
    links = moved_failed D old.links new.links worker e accepts;
    passed =
        same ∙ (ap (λ (t : List L). passed t old.passed.went) (sym (append-nil old.passed.came)) ∙ ap (λ (t : List L). passed (old.passed.came ++ []) t) (sym (append-nil old.passed.went)));
    port = port;
    later = goes.later;
    sound = λ sound. (goes.sound sound).0;
    rose = λ is. failed.0;
    none = λ is sound next. failed.1 sound (next_same old.links new.links e accepts next);
  }

  pub goes_back : (F : Type 0) {T : Type 0} (old new : DoorSeen L) (worker : ℕ) (visited : Visited L) (x : T) → TakesBack {E = F} old.links new.links visited.link (Ok x) → LetsOut {E = F} old.passed new.passed visited.link (Ok x)
      → new.opened_at ≡ old.opened_at → new.health ≡ old.health → GoesOnBy {D = D} old new (Went worker visited true ∷ [])
  goes_back F old new worker visited x takes lets port health = record {
    links = moved_back D F old.links new.links worker visited x takes;
    passed = lets ∙ ap (λ (t : List L). passed t (old.passed.went ++ visited.link ∷ [])) (sym (append-nil old.passed.came));
    port = port;
    later = let same = ap (λ (h : Health). h.faults) health in omega (arith, same);
    sound = λ sound. ap (λ (h : Health). h.sound) health ∙ sound;
    rose = λ failed. absurd (cc failed);
    none = λ failed. absurd (cc failed);
  }

  pub goes_lost : (T : Type 0) {F : Type 0} (old new : DoorSeen L) (worker : ℕ) (visited : Visited L) (e : F) → TakesBack {T = T} old.links new.links visited.link (Err e) → LetsOut {T = T} old.passed new.passed visited.link (Err e)
      → new.opened_at ≡ old.opened_at → new.health ≡ old.health → GoesOnBy {D = D} old new (Went worker visited false ∷ [])
  goes_lost T old new worker visited e takes lets port health = record {
    links = moved_lost D T old.links new.links worker visited e takes;
    passed =
        lets ∙ (ap (λ (t : List L). passed t old.passed.went) (sym (append-nil old.passed.came)) ∙ ap (λ (t : List L). passed (old.passed.came ++ []) t) (sym (append-nil old.passed.went)));
    port = port;
    later = let same = ap (λ (h : Health). h.faults) health in omega (arith, same);
    sound = λ sound. ap (λ (h : Health). h.sound) health ∙ sound;
    rose = λ failed. absurd (cc failed);
    none = λ failed. absurd (cc failed);
  }

  -- ---- a doorway

  pub begins : (seen : D → DoorSeen L) (door : D) → IsDoorway seen (at_door door false false (Began door ∷ []))
  begins seen door = record { first = door; rest = []; begins = refl; goes_on = goes_still (seen door); memory = refl; failed = refl }

  -- one that goes on
  pub goes_on : (seen : D → DoorSeen L) (s : AtDoor D L) (door : D) (memory failed : Bool) (all qs : List (Passage D L)) → IsDoorway seen s → all ≡ s.passages ++ qs → GoesOnBy (seen s.door) (seen door) qs
      → memory ≡ (s.memory || ran_out qs) → failed ≡ (s.failed || has_failed qs) → IsDoorway seen (at_door door memory failed all)
  goes_on seen s door memory failed all qs is grown goes lacks fails = record {
    first = is.first;
    rest = is.rest ++ qs;
    begins = grown ∙ ap (λ (t : List (Passage D L)). t ++ qs) is.begins;
    goes_on = goes_then (seen is.first) (seen s.door) (seen door) is.rest qs is.goes_on goes;
    memory = lacks ∙ (ap (λ t. t || ran_out qs) is.memory ∙ sym (ran_on is.rest qs));
    failed = fails ∙ (ap (λ t. t || has_failed qs) is.failed ∙ sym (failed_on is.rest qs));
  }

  -- ---- a doorway after one more passage

  grown : (from to qs : List (Passage D L)) (count after : ℕ) → to ≡ from ++ qs → length qs ≡ 1 → length from ≡ count → length from < 2 ^ 64 - 1 → after ≡ min (count + 1) (2 ^ 64 - 1) → length to ≡ after
  grown from to qs count after is one long room sum =
      let both = length-append from qs in
      let lengths : length to ≡ length (from ++ qs) = ap (λ (t : List (Passage D L)). length t) is in
      omega (arith, one, long, room, sum, both, lengths)

  pub accepted_keeps : (seen : D → DoorSeen L) (s : AtDoor D L) (worker : ℕ) (door : D) (to : List (Passage D L)) (r : Option L) (failed : Bool) → IsDoorway seen s → s.failed ≡ false
      → IsAccepted worker (record { before = seen s.door; after = seen door }) s.passages to r → is_some r ≡ not failed → IsDoorway seen (at_door door s.memory failed to)
  accepted_keeps seen s worker door to (Some link) failed is shut accepted some =
      goes_on seen s door s.memory failed to (Came worker link ∷ []) is accepted.1 accepted.0 (or_none s.memory) (is_false failed some ∙ sym (ap (λ t. t || false) shut))
  accepted_keeps seen s worker door to None failed is shut accepted none =
      goes_on seen s door s.memory failed to (Failed worker ∷ []) is accepted.1 accepted.0 (or_none s.memory) (is_true failed none ∙ sym (ap (λ t. t || true) shut))

  pub accepted_counts : (worker : ℕ) (door : Over (DoorSeen L)) (from to : List (Passage D L)) (count after : ℕ) (r : Option L) → IsAccepted worker door from to r → length from ≡ count → length from < 2 ^ 64 - 1
      → after ≡ min (count + 1) (2 ^ 64 - 1) → length to ≡ after
  accepted_counts worker door from to count after (Some link) accepted long room sum = grown from to (Came worker link ∷ []) count after accepted.1 refl long room sum
  accepted_counts worker door from to count after None accepted long room sum = grown from to (Failed worker ∷ []) count after accepted.1 refl long room sum

  pub accepted_came : (worker : ℕ) (door : Over (DoorSeen L)) (from to : List (Passage D L)) (r : Option L) → IsAccepted worker door from to r → IfSome r (λ link. to ≡ from ++ Came worker link ∷ [])
  accepted_came worker door from to (Some link) accepted = accepted.1
  accepted_came worker door from to None accepted = tt

  pub accepted_none : (worker : ℕ) (door : Over (DoorSeen L)) (from to : List (Passage D L)) (r : Option L) → IsAccepted worker door from to r → IfNone r ((failed : Bool) × (to ≡ from ++ failure worker failed))
  accepted_none worker door from to (Some link) accepted = tt
  accepted_none worker door from to None accepted = (true, accepted.1)

  pub accepted_failed : (worker : ℕ) (door : Over (DoorSeen L)) (from to : List (Passage D L)) (r : Option L) → IsAccepted worker door from to r → IfNone r (has_failed to ≡ true)
  accepted_failed worker door from to (Some link) accepted = tt
  accepted_failed worker door from to None accepted = ap has_failed accepted.1 ∙ (failed_on from (Failed worker ∷ []) ∙ or_last (has_failed from))

  -- one that has failed
  pub failed_is : (seen : D → DoorSeen L) (s : AtDoor D L) → IsDoorway seen s → s.failed ≡ true → has_failed s.passages ≡ true
  failed_is seen s is failed = ap has_failed is.begins ∙ (sym is.failed ∙ failed)

  pub given_keeps : (seen : D → DoorSeen L) (s : AtDoor D L) (worker : ℕ) (visited : Visited L) (door : D) (memory : Bool) (to : List (Passage D L)) (lacks : Bool) → IsDoorway seen s → memory ≡ (s.memory || lacks)
      → IsGivenBack worker visited (record { before = seen s.door; after = seen door }) s.passages to lacks → IsDoorway seen (at_door door memory s.failed to)
  given_keeps seen s worker visited door memory to lacks is sum (back, goes, grows, so) =
      goes_on seen s door memory s.failed to (Went worker visited back ∷ []) is grows goes (sum ∙ ap (λ t. s.memory || t) (so ∙ or_none (lacks_memory visited.served back))) (or_none s.failed)

  pub given_counts : (worker : ℕ) (visited : Visited L) (door : Over (DoorSeen L)) (from to : List (Passage D L)) (count after : ℕ) (lacks : Bool) → IsGivenBack worker visited door from to lacks → length from ≡ count → length from < 2 ^ 64 - 1
      → after ≡ min (count + 1) (2 ^ 64 - 1) → length to ≡ after
  given_counts worker visited door from to count after lacks (back, goes, grows, so) long room sum = grown from to (Went worker visited back ∷ []) count after grows refl long room sum

  -- a new doorway
  pub begins_with : (seen : D → DoorSeen L) (door : D) (list : List (Passage D L)) → list ≡ Began door ∷ [] → (length list ≡ 1) × IsDoorway seen (at_door door false false list)
  begins_with seen door list is = (
    ap (λ (t : List (Passage D L)). length t) is,
    subst (λ (t : List (Passage D L)). IsDoorway seen (at_door door false false t)) (sym is) (begins seen door),
  )

  pub view_begins : (door : D) (list : List (Passage D L)) → list ≡ Began door ∷ [] → at_door door false false list ≡ at_door door false false (Began door ∷ [])
  view_begins door list is = ap (λ (t : List (Passage D L)). at_door door false false t) is

  -- ---- as the fields and as the whole are seen

  pub room_in : (s t : AtDoor D L) → s ≡ t → length t.passages < 2 ^ 64 - 1 → length s.passages < 2 ^ 64 - 1
  room_in s t same room = subst (λ (u : AtDoor D L). length u.passages < 2 ^ 64 - 1) (sym same) room

  pub came_out : (s t : AtDoor D L) (worker : ℕ) (to : List (Passage D L)) (r : Option L) → s ≡ t → IfSome r (λ link. to ≡ s.passages ++ Came worker link ∷ []) → IfSome r (λ link. to ≡ t.passages ++ Came worker link ∷ [])
  came_out s t worker to r same is = subst (λ (u : AtDoor D L). IfSome r (λ link. to ≡ u.passages ++ Came worker link ∷ [])) same is

  pub none_out : (s t : AtDoor D L) (worker : ℕ) (to : List (Passage D L)) (r : Option L) → s ≡ t → IfNone r ((failed : Bool) × (to ≡ s.passages ++ failure worker failed))
      → IfNone r ((failed : Bool) × (to ≡ t.passages ++ failure worker failed))
  none_out s t worker to r same is = subst (λ (u : AtDoor D L). IfNone r ((failed : Bool) × (to ≡ u.passages ++ failure worker failed))) same is

  pub back_out : (s t : AtDoor D L) (worker : ℕ) (visited : Visited L) (door : Over (DoorSeen L)) (to : List (Passage D L)) (lacks : Bool) → s ≡ t → IsGivenBack worker visited door s.passages to lacks
      → (back : Bool) × (to ≡ t.passages ++ Went worker visited back ∷ [])
  back_out s t worker visited door to lacks same (back, goes, grows, so) = (back, subst (λ (u : AtDoor D L). to ≡ u.passages ++ Went worker visited back ∷ []) same grows)

  -- nothing was added, at a door that has failed
  pub none_more : (worker : ℕ) (list : List (Passage D L)) → (failed : Bool) × (list ≡ list ++ failure worker failed)
  none_more worker list = (false, sym (append-nil list))

  pub failed_out : (seen : D → DoorSeen L) (s t : AtDoor D L) → s ≡ t → IsDoorway seen s → s.failed ≡ true → has_failed t.passages ≡ true
  failed_out seen s t same is failed = subst (λ (u : AtDoor D L). has_failed u.passages ≡ true) same (failed_is seen s is failed)

  -- what was given back, recorded as it was seen before
  pub went_as : (worker : ℕ) (old new : List (Passage D L)) (told visited : Visited L) (back : Bool) → told ≡ visited → new ≡ old ++ Went worker told back ∷ [] → new ≡ old ++ Went worker visited back ∷ []
  went_as worker old new told visited back same is = is ∙ ap (λ (v : Visited L). old ++ Went worker v back ∷ []) same

  -- ---- elements of one worker are added

  continues_failure : (worker : ℕ) (failed : Bool) (old new : List (Passage D L)) → new ≡ old ++ failure worker failed → Continues worker_of worker old new
  continues_failure worker true old new is = (Failed worker ∷ [], is, (refl, tt))
  continues_failure worker false old new is = ([], is, tt)

  pub continues_nothing : (worker : ℕ) (old new : List (Passage D L)) → new ≡ old → Continues worker_of worker old new
  continues_nothing worker old new same = ([], same ∙ sym (append-nil old), tt)

  pub continues_same : (worker : ℕ) (list : List (Passage D L)) → Continues worker_of worker list list
  continues_same worker list = ([], sym (append-nil list), tt)

  pub continues_accept : (worker : ℕ) (old new : List (Passage D L)) (r : Option L) → IfSome r (λ link. new ≡ old ++ Came worker link ∷ []) → IfNone r ((failed : Bool) × (new ≡ old ++ failure worker failed)) → Continues worker_of worker old new
  continues_accept worker old new (Some link) came none = (Came worker link ∷ [], came, (refl, tt))
  continues_accept worker old new None came (failed, none) = continues_failure worker failed old new none

  pub continues_back : (worker : ℕ) (old new : List (Passage D L)) (visited : Visited L) → ((back : Bool) × (new ≡ old ++ Went worker visited back ∷ [])) → Continues worker_of worker old new
  continues_back worker old new visited (back, is) = (Went worker visited back ∷ [], is, (refl, tt))

  pub continues_as : (worker number : ℕ) (old taken new : List (Passage D L)) → number ≡ worker → old ≡ taken → Continues worker_of worker old new → Continues worker_of number taken new
  continues_as worker number old taken new same is more = subst (λ n. Continues worker_of n taken new) (sym same) (subst (λ (l : List (Passage D L)). Continues worker_of worker l new) is more)
