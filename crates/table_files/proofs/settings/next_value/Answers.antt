use Rattle.std.proofs.Common.{◌∙◌, ap, sym, Some}
use Rattle.csv_text.specs.Records.{GivesNext}
use Rattle.table_files.specs.Settings.{value_of}
use Rattle.table_files.proofs.SettingSteps.{valued}
use Rattle.table_files.proofs.Told.{value_told}
use Rattle.table_files.proofs.settings.next_value.Goals as goal

pub returns-in-Some-clause-value : goal.returns-in-Some-clause-value
returns-in-Some-clause-value c = λ text earlier h.
    let given : GivesNext 3 text earlier (Some c.in-Some.fields) c.next.new.self = rw c.in-Some.is at (c.in_ok-next.ensures.given text earlier h) in
    valued text earlier c.args.setting given.0 c.next.new.self c.value_of.result given.1
    (sym (c.value_of.ensures.value ∙ ap (value_of c.args.setting) (c.as_slice.ensures ∙ given.2) ∙ value_told c.args.setting given.0))
