use Rattle.std.proofs.Common.{◌≡◌, drop, map, string_bytes}
use Rattle.std.specs.List.{list_all}
use Rattle.words.specs.Words.{is_word}
use Rattle.words.proofs.reading.are_words.Given as goal

abbrev pub invariant-loop-word : goal.invariant-loop-word
invariant-loop-word l = list_all is_word (map string_bytes (drop l.word-index l.words)) ≡ list_all is_word (map string_bytes l.words)
