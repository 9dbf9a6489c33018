-- What contracts state about a lock, its passes and its turns.
use Rattle.std.specs.Prelude.{◌≡◌, ℕ, List, [], ◌∷◌, ◌++◌}
use Rattle.atomic_table.specs.Seated.{TableId}
use Rattle.turn_lock.specs.Elements.{longer_of}
use Rattle.turn_lock.specs.Views.{numbers_of}
use Rattle.turn_lock.specs.declared.listed.Listed.{Ghosts}
use Rattle.turn_lock.specs.declared.lock.TurnLock.{TurnLock}
use Rattle.turn_lock.specs.declared.pass.Pass.{Pass}
use Rattle.turn_lock.specs.declared.pass.Turn.{Turn}

module _ {T E : Type 0} where
  -- the identity of a lock
  abbrev pub lock_id : TurnLock T E → TableId
  lock_id lock = lock.table.shared.table_id

module _ {T E : Type 0} {g : Ghosts T E} where
  -- the lock of a pass
  abbrev pub pass_lock : Pass T E g → TableId
  pass_lock p = p.seat.table_id

  abbrev pub pass_number : Pass T E g → ℕ
  pass_number p = p.seat.me.0.number

  -- the pass's own number, and those of the passes that it has taken in
  abbrev pub pass_numbers : Pass T E g → List ℕ
  pass_numbers p = numbers_of p.seat.me.0

  -- how often the pass was split
  abbrev pub pass_splits : Pass T E g → ℕ
  pass_splits p = p.splits

  -- the prefix of the list that the pass has seen
  abbrev pub pass_seen : Pass T E g → List E
  pass_seen p = p.seat.me.0.seen

  -- the lock, number, numbers and splits of a turn
  abbrev pub turn_lock : Turn T E g → TableId
  turn_lock t = t.place.seat.table_id

  abbrev pub turn_number : Turn T E g → ℕ
  turn_number t = t.place.seat.me.0.number

  abbrev pub turn_numbers : Turn T E g → List ℕ
  turn_numbers t = numbers_of t.place.seat.me.0

  abbrev pub turn_splits : Turn T E g → ℕ
  turn_splits t = t.place.splits

  -- the list that the value represented when the turn began
  abbrev pub turn_taken : Turn T E g → List E
  turn_taken t = t.place.seat.me.0.seen

  -- the lock's value during the turn
  abbrev pub turn_value : Turn T E g → T
  turn_value t = t.value

  abbrev pub with_value : Turn T E g → T → Turn T E g
  with_value t value = record t { value = value }

-- a pass of that lock and number, which has taken in no other, was never split, and has seen that list
pub record IsNewPass {T E : Type 0} {g : Ghosts T E} (id : TableId) (n : ℕ) (list : List E) (p : Pass T E g) : Type 0 where
  pub lock : pass_lock p ≡ id
  pub number : pass_number p ≡ n
  pub numbers : pass_numbers p ≡ n ∷ []
  pub splits : pass_splits p ≡ 0
  pub seen : pass_seen p ≡ list

-- the same pass, which has seen the same list
pub record IsSamePass {T E : Type 0} {g : Ghosts T E} (old new : Pass T E g) : Type 0 where
  pub lock : pass_lock new ≡ pass_lock old
  pub number : pass_number new ≡ pass_number old
  pub numbers : pass_numbers new ≡ pass_numbers old
  pub seen : pass_seen new ≡ pass_seen old

-- the pass has taken in the other
pub record TakesIn {T E : Type 0} {g : Ghosts T E} (old other new : Pass T E g) : Type 0 where
  pub lock : pass_lock new ≡ pass_lock old
  pub number : pass_number new ≡ pass_number old
  pub numbers : pass_numbers new ≡ pass_numbers old ++ pass_numbers other
  pub splits : pass_splits new ≡ pass_splits old
  pub seen : pass_seen new ≡ longer_of (pass_seen old) (pass_seen other)

-- the turn is that of the pass
pub record IsTurnOf {T E : Type 0} {g : Ghosts T E} (p : Pass T E g) (t : Turn T E g) : Type 0 where
  pub lock : turn_lock t ≡ pass_lock p
  pub number : turn_number t ≡ pass_number p
  pub numbers : turn_numbers t ≡ pass_numbers p
  pub splits : turn_splits t ≡ pass_splits p

-- the pass is that of the turn
pub record IsPassOf {T E : Type 0} {g : Ghosts T E} (t : Turn T E g) (p : Pass T E g) : Type 0 where
  pub lock : pass_lock p ≡ turn_lock t
  pub number : pass_number p ≡ turn_number t
  pub numbers : pass_numbers p ≡ turn_numbers t
  pub splits : pass_splits p ≡ turn_splits t
