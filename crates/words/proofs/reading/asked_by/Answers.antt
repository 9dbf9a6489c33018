use Rattle.std.proofs.Common.{◌∙◌, Option, List, ap, sym, codes}
use Rattle.clap.specs.Matches.{found_of}
use Rattle.clap.specs.Walk.{Text}
use Rattle.clap.proofs.WalkLemmas.{raw_values-rows}
use Rattle.words.specs.Names.{asked_in, words_of}
use Rattle.words.specs.Words.{asked_of}
use Rattle.words.proofs.Found.{found_is}
use Rattle.words.proofs.reading.asked_by.Goals as goal

pub returns-in-Some-clause-value : goal.returns-in-Some-clause-value
returns-in-Some-clause-value c =
    let met = c.in_ok-name in
    let found = c.in-Some.ensures ∙ raw_values-rows (found_of met.found.now) (codes "words") in
    c.asked_of.ensures.value ∙ ap (λ (o : Option (List Text)). asked_of met.name.now (words_of o)) found
    ∙ sym (ap asked_in (found_is _ met.name.now _ met.ensures.name met.ensures.rows))

pub returns-in-None-clause-value : goal.returns-in-None-clause-value
returns-in-None-clause-value c =
    let met = c.in_ok-name in
    let none = c.in-None.ensures ∙ raw_values-rows (found_of met.found.now) (codes "words") in
    c.asked_of-in-None.ensures.value ∙ ap (λ (o : Option (List Text)). asked_of met.name.now (words_of o)) none
    ∙ sym (ap asked_in (found_is _ met.name.now _ met.ensures.name met.ensures.rows))
