-- The models of the keeper, the clock and the door, before and after the program used them.
use Rattle.std.specs.Prelude.{◌≡◌, ◌++◌, Bool, List}
use Rattle.desk_io.specs.Over.{Over, over}
use Rattle.desk_net.specs.Seen.{ClockSeen, DoorSeen, LinkSeen}
use Rattle.keeper.specs.Seen.{KeeperSeen}
use Rattle.scripts.specs.Below.{KeptAt, stored_in}

pub record Lent : Type 1 where
  pub before : KeeperSeen
  pub after : KeeperSeen
  -- the keeper is the same as before, so nothing was asked of it
  pub same : Type 0

-- What the keeper had come to before the work on a desk: its faults of before opening, and its commits up to those of opening.
abbrev pub kept_with : List Bool → Lent → KeptAt
kept_with opened keeper = record { faults = keeper.before.health.faults; stored = stored_in keeper.before.account ++ opened }

abbrev pub lent : {K : Type 0} → (K → KeeperSeen) → K → K → Lent
lent seen old new = record { before = seen old; after = seen new; same = new ≡ old }

pub record Service (L : Type 0) : Type 1 where
  -- the type of the door
  pub door_type : Type 0
  pub clock : Over ClockSeen
  pub door : Over (DoorSeen L)
  pub link : L → LinkSeen
  -- the clock and the door are the same as before, so nothing was asked of them
  pub idle : Type 0

abbrev pub service : {C D L : Type 0} → (C → ClockSeen) → (D → DoorSeen L) → (L → LinkSeen) → C → C → D → D → Service L
service {D = D} clock door link clock_old clock_new door_old door_new = record {
  door_type = D;
  clock = over clock clock_old clock_new;
  door = over door door_old door_new;
  link = link;
  idle = (clock_new ≡ clock_old) × (door_new ≡ door_old);
}
