use Rattle.std.proofs.Common.{◌∙◌, sym, ap, subst, ℕ, List, [], ◌∷◌}
use Rattle.table_files.specs.Reading.{HasHeader}
use Rattle.table_files.specs.Settings.{settings, settings_columns, settings_from, settings_with, values_after, AreWithin}
use Rattle.table_files.proofs.Steps.{with_header}
use Rattle.table_files.proofs.settings.read_settings.Goals as goal

pub returns-in-Ok-clause-value : goal.returns-in-Ok-clause-value
returns-in-Ok-clause-value c =
    let text : List ℕ = c.args.text.now in
    let h : HasHeader text settings_columns c.has_header.new.reader = rw c.if-branch.true at (c.in_ok-has_header.ensures text c.of-reader.ensures) in
    let v = c.in_ok-values.ensures.value text (h.header ∷ []) h.given in
    with_header text settings_columns (λ under. settings_from (values_after [] settings under)) c.has_header.new.reader c.settings_with.result h
    (v.0, v.1, ap settings_from (v.2 ∙ c.in-Ok.is) ∙ sym (c.settings_with.ensures.value ∙ ap settings_with c.as_slice.ensures))

pub returns-in-Ok-clause-fits : goal.returns-in-Ok-clause-fits
returns-in-Ok-clause-fits c =
    let all = rw c.in-Ok.is at c.in_ok-values.ensures.within in
    c.settings_with.ensures.fits (subst (λ (vs : List ℕ). AreWithin vs settings) (sym c.as_slice.ensures) all.0)
