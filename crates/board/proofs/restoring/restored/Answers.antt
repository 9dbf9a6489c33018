use Rattle.std.proofs.Common.{◌∙◌, ap, subst, sym}
use Rattle.row_changes.specs.Upgraded.{opened_changes}
use Rattle.desk_state.specs.Effects.{nothing}
use Rattle.desk_state.specs.Events.{alert_changes}
use Rattle.row_changes.specs.Opening.{MayReopen}
use Rattle.row_changes.proofs.StateLaws.{may_reopen}
use Rattle.board.proofs.Anew.{reopened_sound, rows_kept}
use Rattle.board.proofs.restoring.restored.Goals as goal

pub returns-in-Ok-clause-kept : goal.returns-in-Ok-clause-kept
returns-in-Ok-clause-kept g c =
    rows_kept c.args.tables c.args.records.items c.args.is_old _ c.are_named.ensures c.requires (c.in-Ok.ensures.changes ∙ ap (λ s. opened_changes c.args.is_old s (alert_changes nothing s)) c.in_ok-content.ensures.state)

pub of-requires : goal.of-requires
of-requires g c =
    reopened_sound _ _ (subst MayReopen (sym c.in_ok-content.ensures.state) (may_reopen c.args.tables c.args.records.items c.are_named.ensures c.requires)) c.in-Ok.ensures.state
