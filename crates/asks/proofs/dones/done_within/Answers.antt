use Rattle.asks.proofs.DoneForms.{formed_of_read}
use Rattle.asks.proofs.dones.done_within.Goals as goal

pub returns-clause-form : goal.returns-clause-form
returns-clause-form g c = formed_of_read c.args.ids c.args.counts (g.V.Json.told c.args.value) c.done_in.result c.done_in.ensures
