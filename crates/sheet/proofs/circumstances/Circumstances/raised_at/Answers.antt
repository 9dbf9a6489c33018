use Rattle.std.proofs.Common.{◌≤◌, arith}
use Rattle.std.proofs.lemmas.List.Elements.{All-weaker}
use Rattle.desk_io.specs.declared.pair.Pair.{Pair}
use Rattle.sheet.proofs.circumstances.Circumstances.raised_at.Goals as goal

pub raised-requires : goal.raised-requires
raised-requires c =
    All-weaker (λ (pair : Pair). (pair.ceiling ≤ 20_000) × (pair.vis ≤ 16_093_440)) (λ (pair : Pair). (pair.ceiling ≤ 40_000) × (pair.vis ≤ 32_186_880))
    (λ p within. let ceiling = within.0 in let vis = within.1 in (omega (arith, ceiling), omega (arith, vis)))
    c.in_ok-landing.landing c.in_ok-landing.ensures.within
