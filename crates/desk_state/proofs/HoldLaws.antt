-- What holds of what the desk holds.
use Rattle.ops_tables.specs.Named.{AreNamed}
use Rattle.ops_tables.specs.Tables.{TableRows}
use Rattle.std.proofs.Common.{List, [], ◌∷◌}
use Rattle.std.specs.List.{AllByRecursion}
use Rattle.alerts.specs.declared.alert.Alert.{Alert}
use Rattle.plan.specs.declared.release.Release.{Release}
use Rattle.release_index.specs.Below.{Grounds}
use Rattle.desk_state.specs.Formed.{AreFormed}
use Rattle.desk_state.specs.Holds.{Holds}
use Rattle.desk_state.specs.Sound.{InBounds, IsAlerted, IsBoard, IsToldTo, Sound}
use Rattle.desk_state.specs.State.{State, alert_at, grounds_of, start}
use Rattle.desk_state.proofs.Boards.{start_board}
use Rattle.desk_state.proofs.Parts.{judgeable}

told : (g : Grounds) (alerts : List Alert) (rs : List Release) → AllByRecursion (IsAlerted g alerts) rs → AllByRecursion (λ r. IsToldTo r.holder (alert_at r.id alerts)) rs
told g alerts [] all = tt
told g alerts (r ∷ rs) all = (all.0.1, told g alerts rs all.1)

-- what is sound, keeps its bounds and has its forms may be held
pub sound_holds : (s : State) → Sound s → InBounds s → AreFormed s → Holds s
sound_holds s sound kept formed = record {
  bounds = kept;
  judgeable = judgeable s sound;
  told = told (grounds_of s) s.alerts s.releases sound.alerted;
  valid = sound.valid;
  unlike = sound.unlike;
  single = sound.single;
  formed = formed;
}

pub board_holds : (opening s : State) → IsBoard opening s → Holds s
board_holds opening s board = sound_holds s board.sound board.kept board.formed

pub start_holds : (tables : TableRows) → AreNamed tables → Holds (start tables)
start_holds tables names = board_holds (start tables) (start tables) (start_board tables names)

pub start_sound : (tables : TableRows) → AreNamed tables → Sound (start tables)
start_sound tables names = (start_board tables names).sound
