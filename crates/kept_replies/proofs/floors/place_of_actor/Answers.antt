use Rattle.std.proofs.Common.{rules, ap, ◌∙◌, option_and_then}
use Rattle.std.proofs.lemmas.Fn.{always_returns_same}
use Rattle.std.specs.List.{slice_get}
use Rattle.std.specs.Ordering.{nat_cmp}
use Rattle.std.specs.Cmp.Lexicographic.{slice_cmp}
use Rattle.asks.specs.declared.kept.Floor.{Floor}
use Rattle.kept_replies.proofs.FloorLaws.{place_is}
use Rattle.kept_replies.proofs.floors.place_of_actor.Goals as goal

-- the closure compares a floor's name
pub returns : goal.returns
returns c =
    ap (option_and_then (slice_get c.args.floors.now)) c.ok.ensures.value
    ∙ place_is c.args.actor.now c.args.floors.now c.binary_search_by.result c.requires c.binary_search_by.ensures.bound
    (c.binary_search_by.ensures.position (λ (f : Floor). slice_cmp nat_cmp f.actor c.args.actor.now) (always_returns_same _ _ _ (λ a r f called. search rules)))
