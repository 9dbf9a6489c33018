use Rattle.std.proofs.Common.{rules, ap}
use Rattle.deferrals.proofs.TailLaws.{keys_pushed, rising_pushed}
use Rattle.deferrals.proofs.held.Deferrals.add.Goals as goal

pub invariant_of-self : goal.invariant_of-self
invariant_of-self c = (
  search rules,
  rising_pushed c.self.inside.held.items c.args.self.now.list c.push_reserved.new.self.items c.args.deferral c.self.invariant.1 (ap (λ s. s.list) c.self.view_is) c.requires.newest c.push_reserved.ensures.items,
  keys_pushed c.self.inside.by_tail.keys c.put_reserved.new.self.keys c.self.inside.held.items c.push_reserved.new.self.items c.args.deferral c.key_of.result
      c.self.invariant.2 c.put_reserved.ensures.each c.key_of.ensures c.push_reserved.ensures.items,
  λ e. absurd cc,
  λ e. absurd cc,
)
