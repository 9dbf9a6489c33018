use Rattle.std.proofs.lemmas.Result.{IfOk-weaker}
use Rattle.made_items.proofs.FormLaws.{call_formed}
use Rattle.made_items.proofs.MakerLaws.{last_call}
use Rattle.made_items.proofs.maker.Maker.next.Goals as goal

pub returns-clause-forms : goal.returns-clause-forms
returns-clause-forms c =
    IfOk-weaker c.call.result _ _ (λ call is. call_formed c.args.self.now call is c.call.ensures.within c.call.ensures.release c.call.ensures.digest) c.call.ensures.value

pub returns-clause-last : goal.returns-clause-last
returns-clause-last c = IfOk-weaker c.call.result _ _ (λ call is. last_call c.args.self.now call is) c.call.ensures.value
