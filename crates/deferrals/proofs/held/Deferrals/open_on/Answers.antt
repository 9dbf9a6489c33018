use Rattle.std.proofs.Common.{◌≡◌, ◌∙◌, ap, subst, map, IfOk, Bor, Vec, Global, List}
use Rattle.std.proofs.lemmas.Result.{IfOk-weaker}
use Rattle.deferrals.specs.declared.items.Deferral.{Deferral}
use Rattle.deferrals.specs.Limits.{open_on}
use Rattle.deferrals.proofs.TailLaws.{open_count}
use Rattle.deferrals.proofs.held.Deferrals.open_on.Goals as goal

pub returns-clause-value : goal.returns-clause-value
returns-clause-value c =
    subst (λ (ds : List Deferral). IfOk c.open_among.result (λ (v : Vec (Bor Deferral) Global). map (λ d. d.now) v.items ≡ open_on c.args.tail.now ds))
    (c.as_slice.ensures.value ∙ ap (λ s. s.list) c.self.view_is) c.open_among.ensures

pub returns-clause-count : goal.returns-clause-count
returns-clause-count c =
    IfOk-weaker c.open_among.result _ _ (λ (v : Vec (Bor Deferral) Global) is. open_count c.args.tail.now v.items c.args.self.now.list is) (returns-clause-value c)
