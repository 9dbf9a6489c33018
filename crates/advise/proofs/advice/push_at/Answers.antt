use Rattle.std.proofs.Common.{◌≡◌, ◌++◌, sym, ap, subst, ◌∙◌, refl, append-nil}
use Rattle.std.specs.Prelude.{OnOk, option_to_list}
use Rattle.std.proofs.lemmas.Option.{slice_get_past, slice_get_read}
use Rattle.advise.proofs.advice.push_at.Goals as goal

pub returns-in-None : goal.returns-in-None
returns-in-None c =
    sym (ap (λ o. c.args.listed.now ++ option_to_list o) (slice_get_past c.args.choices.now c.args.place c.in-None.ensures.lookup.3) ∙ append-nil c.args.listed.now)

pub returns-in-Some : goal.returns-in-Some
returns-in-Some c =
    let at = c.in-Some.ensures.lookup in
    subst (λ o. OnOk c.push.result (c.push.new.self ≡ c.args.listed.now ++ option_to_list o))
    (sym (slice_get_read c.args.choices.now _ c.args.place c.in-Some.it.now refl at.3.0 at.1)) c.push.ensures.ok
