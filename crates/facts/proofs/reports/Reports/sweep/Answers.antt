use Rattle.std.proofs.Common.{◌∙◌, ◌<◌, sym, ap, subst, length, arith, filter, AllPairs}
use Rattle.facts.specs.Reports.{AreHeld}
use Rattle.facts.specs.Latest.{latest}
use Rattle.facts.specs.Lines.{stations_of}
use Rattle.facts.specs.Index.{IsLatestIndex, leads_to}
use Rattle.facts.proofs.SweepLaws.{latest_swept, stations_swept, held_swept, fewer_swept}
use Rattle.facts.proofs.SameLaws.{keys_swept}
use Rattle.facts.proofs.reports.Reports.sweep.Goals as goal

-- the stations of the index are those of what stays
pub index_latest-requires : goal.index_latest-requires
index_latest-requires c =
    c.self.invariant.2.stations ∙ sym (stations_swept c.args.before c.args.keep.now c.self.inside.held.items) ∙ ap stations_of (sym (c.deref.ensures.value ∙ c.sweep_held.ensures))

-- and their numbers rise
pub keep_leading-requires : goal.keep_leading-requires
keep_leading-requires c =
    subst (λ rs. AllPairs (λ a b. a.id < b.id) rs) (sym (c.deref-2.ensures.value ∙ c.sweep_held.ensures)) (held_swept c.args.before c.args.keep.now c.self.inside.held.items c.self.invariant.1).rising

pub overflow_sub-result : goal.overflow_sub-result
overflow_sub-result c =
    let few = fewer_swept c.args.before c.args.keep.now c.self.inside.held.items in
    let left = ap length c.sweep_held.ensures in
    let all = ap (λ a. length a.reports) c.self.view_is in
    omega arith

pub invariant_of-self : goal.invariant_of-self
invariant_of-self c = (
  λ e. absurd cc,
  subst AreHeld (sym c.sweep_held.ensures) (held_swept c.args.before c.args.keep.now c.self.inside.held.items c.self.invariant.1),
  subst (IsLatestIndex c.index_latest.new.stations.entries) c.deref.ensures.value c.index_latest.ensures,
  keys_swept c.args.before c.args.keep.now c.self.inside.held.items c.sweep_held.new.held.items c.self.inside.keys.keys c.keep_leading.new.keys.keys c.self.invariant.1.rising c.self.invariant.3 c.sweep_held.ensures
      (c.keep_leading.ensures ∙ ap (λ xs. filter (leads_to xs) c.self.inside.keys.keys) c.deref-2.ensures.value),
)

pub returns-clause-count : goal.returns-clause-count
returns-clause-count c =
    let few = fewer_swept c.args.before c.args.keep.now c.self.inside.held.items in
    let left = ap length c.sweep_held.ensures in
    let all = ap (λ a. length a.reports) c.self.view_is in
    omega arith

pub returns-clause-latest : goal.returns-clause-latest
returns-clause-latest c = λ kind station.
    ap (latest kind station) c.sweep_held.ensures ∙ latest_swept c.args.before c.args.keep.now c.self.inside.held.items kind station ∙ ap (λ a. latest kind station a.reports) c.self.view_is
