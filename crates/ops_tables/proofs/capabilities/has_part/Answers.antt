use Rattle.std.proofs.Common.{rules, bytes_eq}
use Rattle.std.proofs.lemmas.Iterator.Search.{any_from_yields_List}
use Rattle.std.proofs.lemmas.Iterator.Splits.{YieldsList-from_slice_split}
use Rattle.ops_tables.specs.Names.{is_blank}
use Rattle.ops_tables.proofs.capabilities.has_part.Goals as goal

pub returns : goal.returns
returns c =
    any_from_yields_List (λ n. bytes_eq n c.args.name.now) _ _ _ c.any.ensures.ran
    (YieldsList-from_slice_split _ is_blank c.args.text.now c.split.ensures.rest c.split.ensures.done c.split.ensures.closure (λ x b q h. search rules))
    (λ x b q h. search rules)
