-- What a reader of reports may return.
use Rattle.std.specs.Prelude.{◌≡◌, Result, Ok, Err}
use Rattle.codes.specs.declared.fault.Why.TheVariants.{TooLong}
use Rattle.codes.specs.declared.fault.BadReport.{BadReport}
use Rattle.codes.specs.declared.fault.ReportFault.{ReportFault}
use Rattle.codes.specs.declared.fault.ReportFault.TheVariants.{Bad, OutOfMemory}

-- the fault of a text of more than 2,048 bytes
abbrev pub too_long : BadReport
too_long = record { group = 0; why = TooLong }

-- The reader returns this reading, this fault, or out of memory.
abbrev pub Answers : {T : Type 0} → Result T ReportFault → Result T BadReport → Type 0
Answers (Ok value) r = Ok value ≡ r
Answers (Err (Bad bad)) r = Err bad ≡ r
Answers (Err OutOfMemory) r = Unit {0}
