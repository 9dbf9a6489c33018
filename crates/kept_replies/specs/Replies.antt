-- The kept replies, the floors of persons, and how they change.
use Rattle.std.specs.Prelude.{ℕ, ◌≤◌, Bool, true, false, IsTrue, List, [], ◌∷◌, ◌++◌, filter}
use Rattle.asks.specs.declared.kept.Floor.{Floor}
use Rattle.asks.specs.declared.kept.KeptReply.{KeptReply}
use Rattle.kept_replies.specs.Requests.{FloorsRise, is_since}
use Rattle.kept_replies.specs.ByPerson.{PersonKeys, keys_under}
use Rattle.kept_replies.specs.Index.{AreKeysUnder}

pub record HeldReplies : Type 0 where
  -- the replies in the order of their ids
  pub list : List KeptReply
  -- the floors in byte order of the names
  pub floors : List Floor
  -- whether room for one more reply is reserved
  pub room : Bool

-- these replies and floors, without reserved room
abbrev pub replies_of : List KeptReply → List Floor → HeldReplies
replies_of kept floors = record { list = kept; floors = floors; room = false }

-- with room for one more reply
abbrev pub with_room : HeldReplies → HeldReplies
with_room r = record { list = r.list; floors = r.floors; room = true }

-- with one more reply at the end, and without room
abbrev pub with_reply : KeptReply → HeldReplies → HeldReplies
with_reply reply r = record { list = r.list ++ reply ∷ []; floors = r.floors; room = false }

-- with only the replies to requests accepted at this moment or later, and with these floors
abbrev pub with_swept : ℕ → List Floor → HeldReplies → HeldReplies
with_swept before floors r = record { list = filter (is_since before) r.list; floors = floors; room = r.room }

-- The keys are those of the replies and the floors are in order. If `room` is true, there is room for one more reply.
pub record AreHeld (kept : List KeptReply) (kept_room : ℕ) (keys : PersonKeys) (floors : List Floor) (room : Bool) : Type 0 where
  pub index : AreKeysUnder kept (keys_under keys)
  pub floors_rise : FloorsRise floors
  pub has_room : IsTrue room → (1 ≤ kept_room) × IsTrue keys.room
