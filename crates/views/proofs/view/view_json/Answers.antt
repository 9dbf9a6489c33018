use Rattle.std.proofs.Common.{◌∙◌, subst, ap}
use Rattle.serde_json.specs.View.{members_view}
use Rattle.serde_json.specs.Written.{compact_text, has_float}
use Rattle.views.proofs.RefusalLaws.{shows_moment}
use Rattle.views.proofs.Whole.{json_is, shown_whole}
use Rattle.views.specs.Views.{Shows, shown}
use Rattle.views.proofs.view.view_json.Goals as goal

pub returns-in_ok-to_vec-in-Ok-clause-json : goal.returns-in_ok-to_vec-in-Ok-clause-json
returns-in_ok-to_vec-in-Ok-clause-json c =
    let state = c.args.content.now.state in
    let shows = subst (Shows (λ all. members_view all.entries) (shown state c.args.view.now)) c.in-Ok.is c.in_ok-members.ensures in
    json_is (λ all. members_view all.entries) (shown state c.args.view.now) c.in-Ok.members c.from_vec.result (shown_whole state c.args.view.now c.holds.ensures.formed.releases) shows
    (λ whole. c.from_vec.ensures ∙ c.in_ok-to_vec-in-Ok.ensures.text (ap has_float c.object_of.ensures ∙ whole) ∙ ap compact_text c.object_of.ensures)

pub returns-in-Err-clause-refusal : goal.returns-in-Err-clause-refusal
returns-in-Err-clause-refusal c =
    let state = c.args.content.now.state in
    shows_moment (λ all. members_view all.entries) state c.args.view.now c.in-Err.refusal (subst (Shows (λ all. members_view all.entries) (shown state c.args.view.now)) c.in-Err.is c.in_ok-members.ensures)
