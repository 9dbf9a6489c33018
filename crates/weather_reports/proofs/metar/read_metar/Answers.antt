use Rattle.codes.specs.Groups.{groups_of}
use Rattle.weather_reports.proofs.MetarLaws.{is_read}
use Rattle.weather_reports.proofs.metar.read_metar.Goals as goal

-- what the groups of a text say is answered
pub returns-in-Ok-clause-read : goal.returns-in-Ok-clause-read
returns-in-Ok-clause-read c = λ short m is.
    let said = is_read (groups_of c.args.text.now) c.args.receipt m is in
    let read = c.in-Ok.ensures.value in
    let same = c.as_slice.ensures in
    let groups = c.in_ok-groups.ensures.groups in
    cc

pub returns-clause-read : goal.returns-clause-read
returns-clause-read c = λ short m is.
    let said = is_read (groups_of c.args.text.now) c.args.receipt m is in
    let read = c.in-Err.ensures.value in
    let same = c.as_slice.ensures in
    let groups = c.in_ok-groups.ensures.groups in
    cc
