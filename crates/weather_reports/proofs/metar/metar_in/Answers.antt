use Rattle.weather_reports.proofs.MetarLaws.{reads_exactly}
use Rattle.weather_reports.proofs.metar.metar_in.Goals as goal

-- a report is read exactly where the groups say it
pub returns-clause-report : goal.returns-clause-report
returns-clause-report c = reads_exactly c.args.groups.now c.args.receipt c.reading_in.result c.reading_in.ensures.value
