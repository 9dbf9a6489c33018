-- What an event needs of what is held.
use Rattle.std.proofs.Common.{◌≡◌, subst, sym, ℕ, ◌<◌, Bool, true, false, cond, List, [], ◌∷◌, filter, arith, Option, None, Some, IfSome}
use Rattle.std.specs.List.{AllByRecursion}
use Rattle.std.proofs.lemmas.List.Elements.{All-from_recursion}
use Rattle.asks.specs.declared.kept.KeptReply.{KeptReply}
use Rattle.desk_state.specs.declared.effect.Sweep.{Sweep}
use Rattle.desk_state.specs.Events.{is_since, kept_after}
use Rattle.desk_state.specs.Install.{IsLatest, IsNextReply, IsSmall}
use Rattle.desk_state.specs.Sound.{InBounds, IsReplied}
use Rattle.desk_state.specs.State.{State}

-- ids and counts leave room for one more

pub small_events : (s : State) → InBounds s → IsSmall s.counters.events
small_events s kept = let most = kept.counters.events in omega (arith, most)

pub small_accepted : (s : State) → InBounds s → IsSmall s.counters.next_kept
small_accepted s kept = let one = kept.counters.accepted in let most = kept.counters.events in omega (arith, one, most)

-- the next reply comes after all that a sweep leaves

below : (next id : ℕ) (ks : List KeptReply) → AllByRecursion (IsReplied next) ks → id ≡ next → AllByRecursion (λ (k : KeptReply). k.id < id) ks
below next id [] all is = tt
below next id (k ∷ ks) all is = (let least = all.0.0 in omega (arith, least, is), below next id ks all.1 is)

below_since : (before id : ℕ) (ks : List KeptReply) → AllByRecursion (λ (k : KeptReply). k.id < id) ks → AllByRecursion (λ (k : KeptReply). k.id < id) (filter (is_since before) ks)
below_since before id [] all = tt
below_since before id (k ∷ ks) all = by (is_since before k) (below_since before id ks all.1)
  where
    by : (b : Bool) → AllByRecursion (λ (x : KeptReply). x.id < id) (filter (is_since before) ks)
        → AllByRecursion (λ (x : KeptReply). x.id < id) (cond b (k ∷ filter (is_since before) ks) (filter (is_since before) ks))
    by true rest = (all.0, rest)
    by false rest = rest

below_after : (sweep : Option Sweep) (id : ℕ) (ks : List KeptReply) → AllByRecursion (λ (k : KeptReply). k.id < id) ks → AllByRecursion (λ (k : KeptReply). k.id < id) (kept_after sweep ks)
below_after None id ks all = all
below_after (Some w) id ks all = below_since w.before id ks all

newest_kept : (s : State) (sweep : Option Sweep) (o : Option KeptReply) → InBounds s → IfSome o (IsNextReply s) → IfSome o (λ k. IsLatest k (kept_after sweep s.kept))
newest_kept s sweep None kept is = tt
newest_kept s sweep (Some k) kept is =
    All-from_recursion (λ (other : KeptReply). other.id < k.id) (kept_after sweep s.kept) (below_after sweep k.id s.kept (below s.counters.next_kept k.id s.kept kept.replies is))

pub newest_after : (s : State) (ks : List KeptReply) (sweep : Option Sweep) (o : Option KeptReply) → ks ≡ kept_after sweep s.kept → InBounds s → IfSome o (IsNextReply s) → IfSome o (λ k. IsLatest k ks)
newest_after s ks sweep o left kept is = subst (λ (list : List KeptReply). IfSome o (λ k. IsLatest k list)) (sym left) (newest_kept s sweep o kept is)
