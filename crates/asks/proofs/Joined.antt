-- Members that are put in one after another.
use Rattle.std.proofs.Common.{◌≡◌, ℕ, List, refl, ap, ◌∙◌, Less, Greater, nat_cmp}
use Rattle.std.specs.Ordering.{ordering_reverse}
use Rattle.std.specs.Cmp.Lexicographic.{slice_cmp}
use Rattle.std.proofs.lemmas.Cmp.{nat_list_cmp_total}
use Rattle.serde_json.specs.Data.{Data, Members, no_members, member, put}
use Rattle.asks.specs.Plain.{IsBefore, AreInOrder}

abbrev pub joined : Members → Members → Members
joined no_members more = more
joined (member k d ms) more = member k d (joined ms more)

pub joined_again : (a b c : Members) → joined (joined a b) c ≡ joined a (joined b c)
joined_again no_members b c = refl
joined_again (member k d ms) b c = ap (member k d) (joined_again ms b c)

pub joined_nothing : (ms : Members) → joined ms no_members ≡ ms
joined_nothing no_members = refl
joined_nothing (member k d ms) = ap (member k d) (joined_nothing ms)

before_later : (key : List ℕ) (ms : Members) (k : List ℕ) (d : Data) (more : Members) → IsBefore key (joined ms (member k d more)) → slice_cmp nat_cmp key k ≡ Less
before_later key no_members k d more is = is.0
before_later key (member l e ms) k d more is = before_later key ms k d more is.1

-- a key behind all others is put at the end
pub put_last : (ms : Members) (k : List ℕ) (d : Data) (more : Members) → AreInOrder (joined ms (member k d more)) → put k d ms ≡ joined ms (member k d no_members)
put_last no_members k d more order = refl
put_last (member l e ms) k d more order =
    let behind : slice_cmp nat_cmp k l ≡ Greater = nat_list_cmp_total.antisymm k l ∙ ap ordering_reverse (before_later l ms k d more order.0) in
    rw behind (ap (member l e) (put_last ms k d more order.1))
