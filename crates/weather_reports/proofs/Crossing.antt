-- A forecast may go to another thread.
use denote.Param.Send.{IsSend, sendable}
use Rattle.std.proofs.Crossing.{crosses}
use Rattle.weather_reports.specs.contracts.forecast.Taf.{the_row}

pub Taf_send : IsSend the_row
Taf_send = search (sendable, crosses) depth 60 fits 5000
