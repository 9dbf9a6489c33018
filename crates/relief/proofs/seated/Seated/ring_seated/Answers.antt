use Rattle.std.proofs.Common.{OnOk, subst}
use Rattle.std.proofs.lemmas.Result.{on_ok_weaker}
use Rattle.alerts.specs.Ringing.{AreRungFor, due}
use Rattle.relief.specs.Roster.{sitter_at}
use Rattle.relief.proofs.HeardLaws.{due_all, heard_more}
use Rattle.relief.proofs.seated.Seated.ring_seated.Goals as goal

pub returns-clause-ok : goal.returns-clause-ok
returns-clause-ok g c =
    subst (λ notices. OnOk c.ring.result (AreRungFor (due (sitter_at c.args.roster.now) notices) c.args.self.now c.ring.new.self)) c.as_slice.ensures c.ring.ensures.ok

pub returns-clause-since : goal.returns-clause-since
returns-clause-since g c = λ told bells heard.
    on_ok_weaker c.ring.result (heard_more told c.args.roster.now c.args.notices.now bells c.args.self.now c.ring.new.self heard) (returns-clause-ok g c)

pub returns-clause-all : goal.returns-clause-all
returns-clause-all g c = due_all c.args.roster.now c.args.notices.now
