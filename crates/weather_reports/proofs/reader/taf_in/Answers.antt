use Rattle.weather_reports.proofs.ForecastLaws.{answer_has}
use Rattle.weather_reports.proofs.TafLaws.{answer_reads, said_is_answered}
use Rattle.weather_reports.proofs.reader.taf_in.Goals as goal

-- a base and changes, or no parts
pub returns-clause-parts : goal.returns-clause-parts
returns-clause-parts c = answer_has c.args.groups.now c.args.receipt c.taf_reading_in.result c.taf_reading_in.ensures.value

-- what the groups say
pub returns-clause-report : goal.returns-clause-report
returns-clause-report c = answer_reads c.args.groups.now c.args.receipt c.taf_reading_in.result c.taf_reading_in.ensures.value

pub returns-clause-read : goal.returns-clause-read
returns-clause-read c = said_is_answered c.args.groups.now c.args.receipt c.taf_reading_in.result c.taf_reading_in.ensures.value
