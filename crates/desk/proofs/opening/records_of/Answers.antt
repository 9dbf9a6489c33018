use Rattle.std.proofs.Common.{◌∙◌, ap, subst}
use Rattle.keeper.specs.Order.{rising}
use Rattle.board.specs.Below.{IsChecked}
use Rattle.desk.proofs.Opened.{checked_desk, checked_load, checked_loaded, match_ok}
use Rattle.desk.proofs.opening.records_of.Goals as goal

pub returns-clause-loaded : goal.returns-clause-loaded
returns-clause-loaded g c =
    let same = c.deref.ensures.value in
    let read = c.in_ok-rows.ensures in
    match_ok _ _ _ c.checked.result (λ found is. checked_loaded _ _ found read.rows read.order (subst (λ rows. IsChecked rows found) same is)) c.checked.ensures

pub returns-clause-kept : goal.returns-clause-kept
returns-clause-kept g c =
    let same = c.deref.ensures.value in
    let read = c.in_ok-rows.ensures in
    match_ok _ _ _ c.checked.result (λ found is. checked_loaded _ _ found read.kept read.order (subst (λ rows. IsChecked rows found) same is)) c.checked.ensures

pub returns-clause-entered : goal.returns-clause-entered
returns-clause-entered g c =
    let same = c.deref.ensures.value in
    let read = c.in_ok-rows.ensures in
    match_ok _ _ _ c.checked.result (λ found is. checked_load _ _ _ found read.account (subst (λ rows. IsChecked rows found) same is)) c.checked.ensures

pub returns-clause-desk : goal.returns-clause-desk
returns-clause-desk g c =
    let order = ap rising c.deref.ensures.value ∙ c.in_ok-rows.ensures.order in
    match_ok _ _ _ c.checked.result (λ found is. checked_desk _ found is order) c.checked.ensures
