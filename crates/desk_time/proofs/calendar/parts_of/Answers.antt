use Rattle.std.proofs.Common.{arith}
use Rattle.std.proofs.lemmas.Int.{ints}
use Rattle.desk_time.proofs.CalendarLaws.{civil_of-law, year_from}
use Rattle.desk_time.proofs.calendar.parts_of.Goals as goal

pub returns-clause-year_in : goal.returns-clause-year_in
returns-clause-year_in c =
    let early = (civil_of-law c.args.day c.requires).early in
    (λ late. let from = year_from c.args.day late c.requires in omega (arith, ints), omega (arith, ints))
