use Rattle.std.proofs.Common.{◌∙◌, ap, length}
use Rattle.std.specs.Option.{unwrap_or}
use Rattle.records.proofs.MarkLaws.{no_release_before}
use Rattle.records.proofs.alone.has_release.Goals as goal

pub loop-place-init : goal.loop-place-init
loop-place-init c =
    no_release_before c.args.firsts.now.entries c.args.records.now c.args.id c.unwrap_or-start.result (length c.args.records.now) c.requires
    (c.unwrap_or-start.ensures ∙ ap (λ o. unwrap_or o (length c.args.records.now)) c.place_at.ensures)
