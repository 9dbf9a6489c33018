use Rattle.std.proofs.Common.{◌≡◌, drop}
use Rattle.facts.specs.Index.{fingerprint_from}
use Rattle.facts.proofs.index.fingerprint.Given as goal

abbrev pub invariant-loop-byte : goal.invariant-loop-byte
invariant-loop-byte l = fingerprint_from l.number (drop l.byte-index l.text) ≡ fingerprint_from 1 l.text
