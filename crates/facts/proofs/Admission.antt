-- A report whose number is above all held joins the list.
use Rattle.std.proofs.Common.{rules, ◌≡◌, sym, subst, ◌<◌, List, [], ◌∷◌, ◌++◌, All}
use Rattle.std.proofs.lemmas.List.Elements.{All-push}
use Rattle.std.proofs.lemmas.List.Quantifiers.{all_pairs_push}
use Rattle.facts.specs.declared.report.Report.{Report}
use Rattle.facts.specs.Reading.{HasMoments, IsRead}
use Rattle.facts.specs.Reports.{AreHeld}

pub held_with : (rs : List Report) (r : Report) → AreHeld rs → All (λ held. held.id < r.id) rs → IsRead r → AreHeld (rs ++ r ∷ [])
held_with rs r held above read = record {
  rising = all_pairs_push (λ a b. a.id < b.id) rs r held.rising above;
  read = All-push IsRead rs r held.read read;
}

-- the moments of reports that were read
pub moments_held : (rs : List Report) → All IsRead rs → All HasMoments rs
moments_held rs all k d within = (all k d within).moments

nothing_held : AreHeld []
nothing_held = search (rules) depth 12

pub none_held : (rs : List Report) → rs ≡ [] → AreHeld rs
none_held rs e = subst AreHeld (sym e) nothing_held
