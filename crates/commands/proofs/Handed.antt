-- One more source is handed over.
use Rattle.std.proofs.Common.{List, [], ◌∷◌, ◌++◌, ℕ, refl, subst}
use Rattle.std.specs.Prelude.{Ok}
use Rattle.desk_io.specs.Reads.{ReadsTo}
use Rattle.desk_io.specs.declared.source_read.SourceRead.{SourceRead}
use Rattle.commands.specs.Sources.{AreHanded}

pub handed_more : (old upto new : List SourceRead) (names texts : List (List ℕ)) (name text : List ℕ) → AreHanded old upto names texts → ReadsTo name upto new (Ok text)
    → AreHanded old new (names ++ name ∷ []) (texts ++ text ∷ [])
handed_more old upto new [] [] name text same read = (new, subst (λ (us : List SourceRead). ReadsTo name us new (Ok text)) same read, refl)
handed_more old upto new [] (t ∷ texts) name text all read = absurd all
handed_more old upto new (n ∷ names) [] name text all read = absurd all
handed_more old upto new (n ∷ names) (t ∷ texts) name text all read = (all.0, all.1, handed_more all.0 upto new names texts name text all.2 read)
