use Rattle.std.proofs.Common.{subst, sym, ◌∙◌}
use Rattle.facts.specs.Reports.{AreHeld}
use Rattle.facts.specs.Index.{IsLatestIndex, AreKeysOf}
use Rattle.facts.proofs.Admission.{held_with}
use Rattle.facts.proofs.IndexLaws.{latest_admitted}
use Rattle.facts.proofs.SameLaws.{more_keys}
use Rattle.facts.proofs.reports.Reports.admit.Goals as goal

-- the numbers still rise, and index and keys have the report
pub invariant_of-self : goal.invariant_of-self
invariant_of-self c =
    let rs = c.self.inside.held.items in
    let last = rw (← c.self.view_is) at c.len-place.ensures in
    let held = sym c.push_reserved.ensures.items in (
      λ e. absurd cc,
      subst AreHeld held (held_with rs c.args.report c.self.invariant.1 (rw (← c.self.view_is) at c.requires.above) c.requires.read),
      subst (IsLatestIndex c.put_reserved.new.self.entries) held
          (latest_admitted rs c.deref.result.now c.args.report c.self.inside.stations.entries c.put_reserved.new.self.entries c.places_at-before.result c.places_with-places.result c.bytes-station.result c.len-place.result
          c.self.invariant.2 (c.bytes-station.ensures ∙ c.station.ensures) c.deref.ensures.value last c.places_at-before.ensures c.places_with-places.ensures c.put_reserved.ensures.entries c.put_reserved.ensures.each),
      subst (λ xs. AreKeysOf xs c.put_reserved-2.new.self.keys) held
          (more_keys rs c.args.report c.key_of.result c.self.inside.keys.keys c.put_reserved-2.new.self.keys c.self.invariant.3 c.key_of.ensures c.put_reserved-2.ensures.each),
    )
