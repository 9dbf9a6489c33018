use Rattle.asks.proofs.DigestLaws.{digits_of_read}
use Rattle.asks.proofs.digests.read_digest.Goals as goal

pub returns-clause-written : goal.returns-clause-written
returns-clause-written c = digits_of_read c.args.text.now c.digest_of.result c.digest_of.ensures
