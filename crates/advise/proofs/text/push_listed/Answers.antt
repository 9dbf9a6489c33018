use Rattle.std.proofs.Common.{◌++◌, ap, ◌∙◌}
use Rattle.std.specs.Prelude.{codes}
use Rattle.std.proofs.lemmas.Result.{on_ok_weaker}
use Rattle.advise.specs.Text.{required_text, alternates_text}
use Rattle.advise.proofs.TextLaws.{pieces}
use Rattle.advise.proofs.text.push_listed.Goals as goal

pub returns : goal.returns
returns c =
    let advice = c.args.advice.now in
    let one = c.push_required.new.out.items in
    on_ok_weaker c.push_all.result
    (λ last.
    pieces c.args.out.now.items (required_text c.args.leg advice.required) (alternates_text advice.alternates) (codes "\n") one c.push_alternates.new.out.items c.push_all.new.out.items
    c.in_ok-push_required.ensures (c.in_ok-push_alternates.ensures ∙ ap (λ listed. one ++ alternates_text listed) c.as_slice.ensures) last)
    c.push_all.ensures.ok
