-- A turn under the lock is answered in the state that it found.
use Rattle.std.proofs.Common.{◌≡◌, ℕ, ◌<◌, ◌+◌, Bool, true, false, List, [], ◌∷◌, ◌++◌, length, get_or, set, ap, subst, ◌∙◌, refl, MatchBool}
use Rattle.std.proofs.lemmas.List.{set-get_or}
use Rattle.std.proofs.lemmas.Option.{slice_get_read}
use Rattle.desk_state.specs.declared.lanes.Outcome.{Outcome}
use Rattle.desk.specs.Merge.{TakesTurn}
use Rattle.desk.specs.Round.{IsTaken, RoundShown, round_of}
use Rattle.desk.specs.Run.{LaneShown, lane_with}
use Rattle.desk.specs.Seen.{desk_seen}
use Rattle.desk.specs.declared.settling.Desk.{Desk}
use Rattle.alerts.specs.Seen.{BellSeen}
use Rattle.keeper.specs.Seen.{KeeperSeen}

module _ {K B : Type 0} (seen : K → KeeperSeen) (heard : B → BellSeen) (d d' : Desk K B) (lanes : List LaneShown) (place : ℕ) (lane grown : LaneShown) (ended : Bool) (within : place < length lanes) (at : lane ≡ get_or lanes place lane) where
  -- what is shown after the turn
  abbrev shown_then : RoundShown
  shown_then = round_of d'.board.state (set lanes place grown) ended

  taken_where : (went : Bool) → MatchBool went (TakesTurn (place + 1) lane grown (desk_seen seen heard d) (desk_seen seen heard d')) ((grown ≡ lane) × (d' ≡ d))
      → MatchBool went (IsTaken place (round_of d.board.state lanes ended) shown_then) (set lanes place grown ≡ lanes)
  taken_where true takes = record {
    lane = lane;
    item = takes.item;
    choice = takes.turn.choice;
    found = slice_get_read lanes (length lanes) place lane refl within at;
    next = takes.next;
    state_is = takes.turn.state_is;
    lanes_are = ap (λ (l : LaneShown). set lanes place l) (takes.grows ∙ ap (λ (o : Outcome). lane_with lane.items (lane.outcomes ++ o ∷ [])) takes.turn.outcome_is);
  }
  taken_where false still = ap (λ (l : LaneShown). set lanes place l) (still.0 ∙ at) ∙ set-get_or lanes place lane

  pub taken_by : (old : RoundShown) → round_of d.board.state lanes ended ≡ old → (went : Bool)
      → MatchBool went (TakesTurn (place + 1) lane grown (desk_seen seen heard d) (desk_seen seen heard d')) ((grown ≡ lane) × (d' ≡ d))
      → MatchBool went (IsTaken place old shown_then) (set lanes place grown ≡ old.lanes)
  taken_by old is went came = subst (λ (s : RoundShown). MatchBool went (IsTaken place s shown_then) (set lanes place grown ≡ s.lanes)) is (taken_where went came)
