use Rattle.std.proofs.Common.{◌≡◌, ◌∙◌, ap, arith}
use Rattle.std.specs.Option.{unwrap_or}
use Rattle.records.specs.Marks.{place_at}
use Rattle.records.proofs.MarkLaws.{none_before}
use Rattle.records.proofs.pairs.start_for.Goals as goal

pub returns-clause-none : goal.returns-clause-none
returns-clause-none c r its =
    let firsts = c.args.firsts.now.entries in
    let own : c.unwrap_or-own.result ≡ unwrap_or (place_at firsts c.args.marks.own) c.args.place = c.unwrap_or-own.ensures ∙ ap (λ o. unwrap_or o c.args.place) c.place_at.ensures in
    let other : c.unwrap_or-other.result ≡ unwrap_or (place_at firsts c.args.marks.other) c.args.place = c.unwrap_or-other.ensures ∙ ap (λ o. unwrap_or o c.args.place) c.place_at-2.ensures in
    none_before firsts c.args.records.now r c.args.marks c.min-2.result c.args.place c.requires its (omega (arith, own)) (omega (arith, other))
