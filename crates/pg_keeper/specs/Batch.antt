-- The bytes that ask a server for changes: one transaction, which the Sync at its end commits.
use Rattle.std.specs.Prelude.{ℕ, List, [], ◌∷◌, ◌++◌, map}
use Rattle.std.specs.List.{concat}
use Rattle.std.specs.Int.{w16, w64, to_be_bytes}
use Rattle.desk_io.specs.declared.rows.Change.{Change}
use Rattle.desk_io.specs.declared.rows.Change.TheVariants.{Put, Remove}
use Rattle.pg_wire.specs.Frontend.{bind, execute, sync}

-- the statement `p` stores a row, and `d` removes one
abbrev pub put_bytes : ℕ → ℕ → List ℕ → List ℕ
put_bytes kind key body = bind (112 ∷ []) (to_be_bytes w16 kind ∷ to_be_bytes w64 key ∷ body ∷ []) ++ execute

abbrev pub remove_bytes : ℕ → ℕ → List ℕ
remove_bytes kind key = bind (100 ∷ []) (to_be_bytes w16 kind ∷ to_be_bytes w64 key ∷ []) ++ execute

abbrev pub change_bytes : Change → List ℕ
change_bytes (Put row) = put_bytes row.kind row.key row.body
change_bytes (Remove kind key) = remove_bytes kind key

-- all changes in order, and the end of their transaction
unfoldable pub batch : List Change → List ℕ
batch changes = concat (map change_bytes changes) ++ sync
