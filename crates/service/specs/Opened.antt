-- A desk and a clock about which nothing is known.
use Rattle.std.specs.Prelude.{[], None, false}
use Rattle.desk_io.specs.Health.{unsound}
use Rattle.desk.specs.Seen.{DeskSeen}
use Rattle.desk_net.specs.Seen.{ClockSeen}
use Rattle.desk_state.specs.State.{start}
use Rattle.ops_tables.specs.Tables.{TableRows}

abbrev pub no_tables : TableRows
no_tables = record {
  settings = record {
    hold_minutes = 0;
    marginal_ceiling = 0;
    single_ceiling = 0;
    double_ceiling = 0;
    marginal_vis16 = 0;
    single_vis16 = 0;
    double_vis16 = 0;
    late_off = 0;
    late_on = 0;
  };
  airports = [];
  approaches = [];
  alternates = [];
  types = [];
  tails = [];
  uses = [];
  distances = [];
  routes = [];
  mel = [];
  pairs = [];
  actors = [];
  hours = [];
}

abbrev pub no_desk : DeskSeen
no_desk = record { opening = start no_tables; state = start no_tables; keeper = record { rows = None; commits = 0; account = []; health = unsound 0 }; bells = []; listed = false }

abbrev pub no_clock : ClockSeen
no_clock = record { dial = None; answers = []; health = unsound 0 }
