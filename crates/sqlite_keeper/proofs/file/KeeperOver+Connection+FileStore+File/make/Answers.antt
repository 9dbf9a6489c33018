use Rattle.std.proofs.Common.{rules, ◌≡◌, ◌∙◌, Some, Ok, Err, refl, ap}
use Rattle.sqlite_keeper.specs.declared.trouble.Trouble.TheVariants.{OutOfMemory, Refused, Lost}
use Rattle.sqlite_keeper.proofs.LoadLaws.{accounts_over, adds_commit, commits_over}
use Rattle.sqlite_keeper.proofs.file.KeeperOver+Connection+FileStore+File.make.Goals as goal

pub returns-in-Ok-clause-made : goal.returns-in-Ok-clause-made
returns-in-Ok-clause-made c =
    let was : c.args.self.now.conn ≡ Some c.in-Some.conn = search rules in
    let is : c.make_all-made.result ≡ (Ok tt) = search rules in
    commits_over _ c.args.changes.now _ _ c.in-Some.conn c.make_all-made.new.conn c.make_all-made.result (Ok tt) _ was is c.make_all-made.ensures.made c.make_all-made.ensures.crash (c.enter.ensures.conn) (refl)

pub returns-in-Ok-clause-recorded : goal.returns-in-Ok-clause-recorded
returns-in-Ok-clause-recorded c =
    let was : c.args.self.now.conn ≡ Some c.in-Some.conn = search rules in
    let is : c.make_all-made.result ≡ (Ok tt) = search rules in
    accounts_over _ c.args.changes.now _ _ c.in-Some.conn c.make_all-made.new.conn c.make_all-made.result (Ok tt) c.args.self.now.account.list _ c.outcome_of.result was is c.make_all-made.ensures.made (c.enter.ensures.conn) (c.enter.ensures.account) c.outcome_of.ensures

pub returns-in-Ok-clause-account : goal.returns-in-Ok-clause-account
returns-in-Ok-clause-account c =
    let is : c.make_all-made.result ≡ (Ok tt) = search rules in
    adds_commit c.make_all-made.result (Ok tt) c.args.self.now.account.list _ c.args.changes.now c.outcome_of.result _ (c.enter.ensures.account) c.outcome_of.ensures is (refl)

pub returns-in-Err-OutOfMemory-clause-made : goal.returns-in-Err-OutOfMemory-clause-made
returns-in-Err-OutOfMemory-clause-made c =
    let was : c.args.self.now.conn ≡ Some c.in-Some.conn = search rules in
    let is : c.make_all-made.result ≡ (Err OutOfMemory) = search rules in
    commits_over _ c.args.changes.now _ _ c.in-Some.conn c.make_all-made.new.conn c.make_all-made.result (Err OutOfMemory) _ was is c.make_all-made.ensures.made c.make_all-made.ensures.crash (c.enter.ensures.conn) (refl)

pub returns-in-Err-OutOfMemory-clause-recorded : goal.returns-in-Err-OutOfMemory-clause-recorded
returns-in-Err-OutOfMemory-clause-recorded c =
    let was : c.args.self.now.conn ≡ Some c.in-Some.conn = search rules in
    let is : c.make_all-made.result ≡ (Err OutOfMemory) = search rules in
    accounts_over _ c.args.changes.now _ _ c.in-Some.conn c.make_all-made.new.conn c.make_all-made.result (Err OutOfMemory) c.args.self.now.account.list _ c.outcome_of.result was is c.make_all-made.ensures.made (c.enter.ensures.conn) (c.enter.ensures.account) c.outcome_of.ensures

pub returns-in-Err-OutOfMemory-clause-account : goal.returns-in-Err-OutOfMemory-clause-account
returns-in-Err-OutOfMemory-clause-account c =
    let is : c.make_all-made.result ≡ (Err OutOfMemory) = search rules in
    adds_commit c.make_all-made.result (Err OutOfMemory) c.args.self.now.account.list _ c.args.changes.now c.outcome_of.result _ (c.enter.ensures.account) c.outcome_of.ensures is (refl)

pub returns-in-Err-Refused-clause-made : goal.returns-in-Err-Refused-clause-made
returns-in-Err-Refused-clause-made c =
    let was : c.args.self.now.conn ≡ Some c.in-Some.conn = search rules in
    let is : c.make_all-made.result ≡ (Err Refused) = search rules in
    commits_over _ c.args.changes.now _ _ c.in-Some.conn c.make_all-made.new.conn c.make_all-made.result (Err Refused) _ was is c.make_all-made.ensures.made c.make_all-made.ensures.crash (c.fault.ensures.conn ∙ c.enter.ensures.conn) (ap Err c.fault.ensures.failed)

pub returns-in-Err-Refused-clause-recorded : goal.returns-in-Err-Refused-clause-recorded
returns-in-Err-Refused-clause-recorded c =
    let was : c.args.self.now.conn ≡ Some c.in-Some.conn = search rules in
    let is : c.make_all-made.result ≡ (Err Refused) = search rules in
    accounts_over _ c.args.changes.now _ _ c.in-Some.conn c.make_all-made.new.conn c.make_all-made.result (Err Refused) c.args.self.now.account.list _ c.outcome_of.result was is c.make_all-made.ensures.made (c.fault.ensures.conn ∙ c.enter.ensures.conn) (c.fault.ensures.account ∙ c.enter.ensures.account) c.outcome_of.ensures

pub returns-in-Err-Refused-clause-account : goal.returns-in-Err-Refused-clause-account
returns-in-Err-Refused-clause-account c =
    let is : c.make_all-made.result ≡ (Err Refused) = search rules in
    adds_commit c.make_all-made.result (Err Refused) c.args.self.now.account.list _ c.args.changes.now c.outcome_of.result _ (c.fault.ensures.account ∙ c.enter.ensures.account) c.outcome_of.ensures is (ap Err c.fault.ensures.failed)

pub returns-in-Err-Lost-clause-made : goal.returns-in-Err-Lost-clause-made
returns-in-Err-Lost-clause-made c =
    let was : c.args.self.now.conn ≡ Some c.in-Some.conn = search rules in
    let is : c.make_all-made.result ≡ (Err Lost) = search rules in
    commits_over _ c.args.changes.now _ _ c.in-Some.conn c.make_all-made.new.conn c.make_all-made.result (Err Lost) _ was is c.make_all-made.ensures.made c.make_all-made.ensures.crash (c.lose.ensures.let_go) (ap Err c.lose.ensures.failed)

pub returns-in-Err-Lost-clause-recorded : goal.returns-in-Err-Lost-clause-recorded
returns-in-Err-Lost-clause-recorded c =
    let was : c.args.self.now.conn ≡ Some c.in-Some.conn = search rules in
    let is : c.make_all-made.result ≡ (Err Lost) = search rules in
    accounts_over _ c.args.changes.now _ _ c.in-Some.conn c.make_all-made.new.conn c.make_all-made.result (Err Lost) c.args.self.now.account.list _ c.outcome_of.result was is c.make_all-made.ensures.made (c.lose.ensures.let_go) (c.lose.ensures.account ∙ c.enter.ensures.account) c.outcome_of.ensures

pub returns-in-Err-Lost-clause-account : goal.returns-in-Err-Lost-clause-account
returns-in-Err-Lost-clause-account c =
    let is : c.make_all-made.result ≡ (Err Lost) = search rules in
    adds_commit c.make_all-made.result (Err Lost) c.args.self.now.account.list _ c.args.changes.now c.outcome_of.result _ (c.lose.ensures.account ∙ c.enter.ensures.account) c.outcome_of.ensures is (ap Err c.lose.ensures.failed)
