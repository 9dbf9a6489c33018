use Rattle.std.proofs.Common.{◌≡◌, ◌∙◌, ap, sym, None, find, is_some, IsTrue, IfSome, bytes_eq}
use Rattle.ops_tables.specs.Shown.{shown}
use Rattle.ops_tables.specs.Tables.{tail_named, has_type}
use Rattle.ops_tables.specs.declared.rows.Tail.{Tail}
use Rattle.ops_tables.proofs.Found.{of_found, some_copied}
use Rattle.ops_tables.proofs.tables.Tables.type_of.Goals as goal

pub returns-in-None-clause-known : goal.returns-in-None-clause-known
returns-in-None-clause-known c = λ some.
    let none : tail_named c.args.self.now c.args.tail.now ≡ None = ap (λ t. tail_named t c.args.tail.now) (sym c.self.view_is) ∙ sym c.in-None.ensures in
    rw none at some

pub returns-in-Some-clause-known : goal.returns-in-Some-clause-known
returns-in-Some-clause-known c = λ some.
    let loaded = c.self.inside.loaded in
    let HasType = λ (r : Tail). IsTrue (has_type (shown loaded) r.kind) in
    let found : IfSome (find (λ (r : Tail). bytes_eq r.tail c.args.tail.now) loaded.tails) HasType = of_found HasType (λ r. bytes_eq r.tail c.args.tail.now) loaded.tails c.self.invariant.0.tails in
    let there : HasType c.in-Some.row.now = rw (← c.in-Some.ensures) at found in
    sym (some_copied c.type_in.result) ∙ ap is_some c.type_in.ensures.value ∙ ap (λ k. has_type (shown loaded) k) c.bytes.ensures ∙ there
