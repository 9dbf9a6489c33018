-- Workers of many lanes, and one more.
use Rattle.std.proofs.Common.{◌≡◌, ◌⊎◌, inl, inr, ⊎_elim, ℕ, ◌+◌, ◌<◌, ◌≤◌, nat_lt, Bool, true, false, List, [], ◌∷◌, ◌++◌, length, refl, sym, ap, subst, ◌∙◌, arith, ltb-true, ltb-false}
use mathlib.Core.List.{IsPrefix}
use Rattle.connections.proofs.RoundLaws.{IsJoined, all_more, own_more}
use Rattle.connections.specs.Doors.{Visit}
use Rattle.connections.specs.Rounds.{HasLanes}
use Rattle.connections.specs.declared.serving.Served.{Served}
use Rattle.turn_lock.proofs.ElementLaws.{prefix_self, prefix_trans}
use Rattle.turn_lock.specs.Elements.{IsAmong, elements_of}
use Rattle.workers.proofs.PassageLaws.{failed_later}
use Rattle.workers.specs.Passages.{failure, passages_of, worker_of}
use Rattle.workers.specs.Work.{AreWorkers, HasWorked, HaveWorked, IsBeside, IsWorker, TakesLanes}
use Rattle.workers.specs.declared.passages.Passage.{Passage}

-- ---- numbers

among_left : (n : ℕ) (xs ys : List ℕ) → IsAmong n xs → IsAmong n (xs ++ ys)
among_left n [] ys is = absurd is
among_left n (x ∷ xs) ys is = ⊎_elim inl (λ rest. inr (among_left n xs ys rest)) is

among_right : (n : ℕ) (xs ys : List ℕ) → IsAmong n ys → IsAmong n (xs ++ ys)
among_right n [] ys is = is
among_right n (x ∷ xs) ys is = inr (among_right n xs ys is)

first_or_later : (lane k : ℕ) → lane ≤ k → (k ≡ lane) ⊎ (lane + 1 ≤ k)
first_or_later lane k low = by (nat_lt lane k) refl
  where
    by : (b : Bool) → nat_lt lane k ≡ b → (k ≡ lane) ⊎ (lane + 1 ≤ k)
    by true e = inr (let less = ltb-true lane k e in omega (arith, less))
    by false e = inl (let more = ltb-false lane k e in omega (arith, low, more))

lanes_more : (lane n m : ℕ) (deep own numbers : List ℕ) → n ≡ m + 1 → own ≡ lane ∷ [] → numbers ≡ deep ++ own → HasLanes deep (lane + 1) m → HasLanes numbers lane n
lanes_more lane n m deep own numbers some number is lanes = λ k low high.
    subst (IsAmong k) (sym is)
    (⊎_elim (λ same. among_right k deep own (subst (IsAmong k) (sym number) (inl same))) (λ above. among_left k deep own (lanes k above (omega (arith, some, high)))) (first_or_later lane k low))

-- ---- what a pass gains

pub takes_none : {E : Type 0} (bears : E → ℕ) (list : List E) (numbers : List ℕ) (splits lane n : ℕ) → n ≡ 0 → TakesLanes bears list list numbers numbers splits splits lane n
takes_none bears list numbers splits lane n none = record {
  begins = prefix_self list;
  adds = λ k among. refl;
  among = λ k is. is;
  lanes = λ k low high. absurd (omega (arith, none, low, high));
  count = omega (arith, none);
}

pub takes_more : {E : Type 0} (bears : E → ℕ) (before split own deep new : List E) (numbers split_numbers own_numbers deep_numbers all : List ℕ) (splits split_splits deep_splits last lane n m : ℕ) → n ≡ m + 1 → split ≡ before
    → split_numbers ≡ numbers → split_splits ≡ splits + 1 → last ≡ deep_splits → IsJoined bears lane own deep new own_numbers deep_numbers all
    → TakesLanes bears split deep split_numbers deep_numbers split_splits deep_splits (lane + 1) m → TakesLanes bears before new numbers all splits last lane n
takes_more bears before split own deep new numbers split_numbers own_numbers deep_numbers all splits split_splits deep_splits last lane n m some same same_numbers one_more same_splits joined takes =
    let count = takes.count in
    record {
      begins = prefix_trans before deep new (subst (λ l. IsPrefix l deep) same takes.begins) joined.deep_within;
      adds = own_more bears numbers split_numbers deep_numbers before split deep new same_numbers same takes.among takes.adds joined.deep_adds;
      among = all_more numbers split_numbers deep_numbers own_numbers all same_numbers joined.all_are takes.among;
      lanes = lanes_more lane n m deep_numbers own_numbers all some joined.own_is joined.all_are takes.lanes;
      count = omega (arith, some, count, one_more, same_splits);
    }

-- ---- workers within lists that go on

pub beside_later : {E : Type 0} (bears : E → ℕ) (does : ℕ → List E → List E → Type 0) (lane : ℕ) (list more : List E) → IsPrefix list more → elements_of bears lane more ≡ elements_of bears lane list → IsBeside bears does lane list → IsBeside bears does lane more
beside_later bears does lane list more goes same is = record {
  before = is.before;
  seen = is.seen;
  begins = is.begins;
  done = is.done;
  fresh = is.fresh;
  within = prefix_trans is.seen list more is.within goes;
  own = same ∙ is.own;
}

module _ {D L E : Type 0} (bears : E → ℕ) (says : ℕ → List E → List E → L → L → Served → Type 0) (does : ℕ → List E → List E → Type 0) where
  worker_later : (lane : ℕ) (list more : List E) (ps qs : List (Passage D L)) (vs : List (Visit L)) → IsPrefix list more → elements_of bears lane more ≡ elements_of bears lane list
      → elements_of worker_of lane qs ≡ elements_of worker_of lane ps → IsWorker bears says lane list ps vs → IsWorker bears says lane more qs vs
  worker_later lane list more ps qs vs goes same same_at_door is = record {
    before = is.before;
    seen = is.seen;
    follow = is.follow;
    fresh = is.fresh;
    within = prefix_trans is.seen list more is.within goes;
    own = same ∙ is.own;
    failed = is.failed;
    passed = same_at_door ∙ is.passed;
  }

  pub workers_later : (lane : ℕ) (list more : List E) (ps qs : List (Passage D L)) (ws : List (List (Visit L))) → IsPrefix list more → ((k : ℕ) → lane ≤ k → k < lane + length ws → elements_of bears k more ≡ elements_of bears k list)
      → ((k : ℕ) → lane ≤ k → k < lane + length ws → elements_of worker_of k qs ≡ elements_of worker_of k ps) → AreWorkers bears says lane list ps ws → AreWorkers bears says lane more qs ws
  workers_later lane list more ps qs [] goes same same_at_door are = tt
  workers_later lane list more ps qs (vs ∷ ws) goes same same_at_door are = (
    worker_later lane list more ps qs vs goes (same lane (omega arith) (omega arith)) (same_at_door lane (omega arith) (omega arith)) are.0,
    workers_later (lane + 1) list more ps qs ws goes (λ k low high. same k (omega (arith, low)) (omega (arith, high))) (λ k low high. same_at_door k (omega (arith, low)) (omega (arith, high))) are.1,
  )

  -- the work beside no worker
  pub have_none : (lane n : ℕ) (list : List E) (passages : List (Passage D L)) → n ≡ 0 → IsBeside bears does lane list → HaveWorked bears says does lane n list passages
  have_none lane n list passages none beside = record {
    workers = [];
    are = tt;
    many = sym none;
    beside = subst (λ l. IsBeside bears does l list) (omega (arith, none)) beside;
    ended = λ some. absurd (omega (arith, none, some));
  }

  -- a worker, whose pass was taken in
  worker_in : (lane : ℕ) (before own new : List E) (early at_own at_new : List (Passage D L)) → elements_of bears lane before ≡ [] → elements_of worker_of lane early ≡ [] → (w : HasWorked says lane before own early at_own) → IsPrefix own new
      → elements_of bears lane new ≡ elements_of bears lane own → elements_of worker_of lane at_new ≡ elements_of worker_of lane at_own → IsWorker bears says lane new at_new w.visits
  worker_in lane before own new early at_own at_new fresh none w within same same_at_door = record {
    before = before;
    seen = own;
    follow = w.has.follow;
    fresh = fresh;
    within = within;
    own = same;
    failed = w.failed;
    passed = same_at_door ∙ (w.has.passed ∙ ap (λ (t : List (Passage D L)). t ++ (passages_of lane w.visits ++ failure lane w.failed)) none);
  }

  pub have_more : (lane n m : ℕ) (before own deep new : List E) (early at_own at_deep at_new : List (Passage D L)) (own_numbers deep_numbers numbers at_own_numbers at_deep_numbers at_numbers : List ℕ) → n ≡ m + 1 → elements_of bears lane before ≡ []
      → elements_of worker_of lane early ≡ [] → HasWorked says lane before own early at_own → IsJoined bears lane own deep new own_numbers deep_numbers numbers
      → IsJoined worker_of lane at_own at_deep at_new at_own_numbers at_deep_numbers at_numbers → HasLanes deep_numbers (lane + 1) (m + 1) → HasLanes at_deep_numbers (lane + 1) m
      → HaveWorked bears says does (lane + 1) m deep at_deep → HaveWorked bears says does lane n new at_new
  have_more lane n m before own deep new early at_own at_deep at_new own_numbers deep_numbers numbers at_own_numbers at_deep_numbers at_numbers some fresh none w joined at_joined lanes at_lanes rest =
      let many = rest.many in
      let last : (lane + 1) + m ≡ lane + n = omega (arith, some) in
      record {
        workers = w.visits ∷ rest.workers;
        are = (
          worker_in lane before own new early at_own at_new fresh none w joined.own_within (joined.own_adds lane (subst (IsAmong lane) (sym joined.own_is) (inl refl)))
              (at_joined.own_adds lane (subst (IsAmong lane) (sym at_joined.own_is) (inl refl))),
          workers_later (lane + 1) deep new at_deep at_new rest.workers joined.deep_within (λ k low high. joined.deep_adds k (lanes k low (omega (arith, high, many))))
              (λ k low high. at_joined.deep_adds k (at_lanes k low (omega (arith, high, many)))) rest.are,
        );
        many = omega (arith, some, many);
        beside = subst (λ l. IsBeside bears does l new) last (beside_later bears does ((lane + 1) + m) deep new joined.deep_within (joined.deep_adds ((lane + 1) + m) (lanes ((lane + 1) + m) (omega arith) (omega arith))) rest.beside);
        ended = λ any. failed_later at_own at_new at_joined.own_within w.ended;
      }

-- ---- the work beside the workers, whose pass was taken in

pub beside_in : {E : Type 0} (bears : E → ℕ) (does : ℕ → List E → List E → Type 0) (lane : ℕ) (before own deep new : List E) (own_numbers deep_numbers numbers : List ℕ) → elements_of bears lane before ≡ [] → IsPrefix before own → does lane before own
    → IsJoined bears lane own deep new own_numbers deep_numbers numbers → IsBeside bears does lane new
beside_in bears does lane before own deep new own_numbers deep_numbers numbers fresh begins done joined = record {
  before = before;
  seen = own;
  begins = begins;
  done = done;
  fresh = fresh;
  within = joined.own_within;
  own = joined.own_adds lane (subst (IsAmong lane) (sym joined.own_is) (inl refl));
}
