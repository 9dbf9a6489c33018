use Rattle.std.proofs.Common.{◌≡◌, ◌++◌, drop}
use Rattle.std.specs.Prelude.{map}
use Rattle.release_text.specs.Weather.{attached_of, latest_of}
use Rattle.release_text.proofs.attached.latest_of.Given as goal

abbrev pub invariant-loop-station : goal.invariant-loop-station
invariant-loop-station l =
    l.list ++ map attached_of (latest_of l.reports.reports (drop l.station-index l.stations)) ≡ map attached_of (latest_of l.reports.reports l.stations)
