use Rattle.std.proofs.Common.{rules, ap, ◌∙◌, option_and_then}
use Rattle.std.proofs.lemmas.Fn.{always_returns_same}
use Rattle.std.specs.List.{slice_get}
use Rattle.facts.specs.Index.{id_of}
use Rattle.desk_io.proofs.ByIdLaws.{searched}
use Rattle.facts.proofs.SameLaws.{place_is}
use Rattle.facts.proofs.same.place_of_id.Goals as goal

-- the closure gives a report's number
pub returns : goal.returns
returns c pairs =
    ap (option_and_then (slice_get c.args.reports.now)) c.ok.ensures.value
    ∙ place_is c.args.id c.args.reports.now c.binary_search_by_key.result pairs
    (searched id_of c.args.id c.args.reports.now c.binary_search_by_key.result pairs c.binary_search_by_key.ensures.bound
    (c.binary_search_by_key.ensures.position id_of (always_returns_same _ _ _ (λ a r f called. search rules))))
