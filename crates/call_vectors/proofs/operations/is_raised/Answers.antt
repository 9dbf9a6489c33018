use Rattle.std.proofs.Common.{◌≤◌, arith}
use Rattle.std.proofs.lemmas.List.Elements.{All-weaker}
use Rattle.desk_io.specs.declared.pair.Pair.{Pair}
use Rattle.call_vectors.proofs.operations.is_raised.Goals as goal

pub raised-requires : goal.raised-requires
raised-requires c =
    All-weaker (λ (p : Pair). (p.ceiling ≤ 20_000) × (p.vis ≤ 16_093_440)) (λ (p : Pair). (p.ceiling ≤ 40_000) × (p.vis ≤ 32_186_880))
    (λ p within. let ceiling = within.0 in let vis = within.1 in (omega (arith, ceiling), omega (arith, vis))) c.args.landing.now c.requires
