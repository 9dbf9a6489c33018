-- Rows and changes of them, kind by kind.
use Rattle.std.proofs.Common.{◌≡◌, ℕ, ◌<◌, ◌≤◌, Bool, true, false, ◌&&◌, cond, eqb, ltb, List, [], ◌∷◌, ◌++◌, Option, None, Some, refl, ap, sym, ◌∙◌, arith}
use Rattle.std.specs.Prelude.{find}
use Rattle.std.specs.Option.{option_map}
use Rattle.std.specs.List.{AllByRecursion}
use Rattle.std.proofs.lemmas.Bool.{ne_eqb, ltb-false, ltb-true}
use Rattle.desk_io.specs.declared.rows.Row.{Row}
use Rattle.desk_io.specs.declared.rows.Change.{Change}
use Rattle.desk_io.specs.declared.rows.Change.TheVariants.{Put, Remove}
use Rattle.desk_io.specs.Rows.{Rows, is_row, rows_of, changed, changed_by}
use Rattle.desk_io.proofs.Each.{each_append, each_weaker}

abbrev pub Body : Type 0
Body = List ℕ

-- what stands under a kind and a key after a change, by what stood there
abbrev pub changed_at : ℕ → ℕ → Change → Option Body → Option Body
changed_at kind key (Put row) o = cond (is_row kind key row) (Some row.body) o
changed_at kind key (Remove k q) o = cond (eqb k kind && eqb q key) None o

-- what stands there after changes, each in its turn
abbrev pub becomes : ℕ → ℕ → List Change → Option Body → Option Body
becomes kind key [] o = o
becomes kind key (c ∷ cs) o = becomes kind key cs (changed_at kind key c o)

one_becomes : (c : Change) (rows : Rows) (kind key : ℕ) → changed c rows kind key ≡ changed_at kind key c (rows kind key)
one_becomes (Put row) rows kind key = refl
one_becomes (Remove k q) rows kind key = refl

pub becomes_is : (cs : List Change) (rows : Rows) (kind key : ℕ) → changed_by cs rows kind key ≡ becomes kind key cs (rows kind key)
becomes_is [] rows kind key = refl
becomes_is (c ∷ cs) rows kind key = becomes_is cs (changed c rows) kind key ∙ ap (λ o. becomes kind key cs o) (one_becomes c rows kind key)

pub becomes_append : (kind key : ℕ) (xs ys : List Change) (o : Option Body) → becomes kind key (xs ++ ys) o ≡ becomes kind key ys (becomes kind key xs o)
becomes_append kind key [] ys o = refl
becomes_append kind key (c ∷ xs) ys o = becomes_append kind key xs ys (changed_at kind key c o)

-- a row of a kind from one number on and below another
abbrev pub IsIn : ℕ → ℕ → Row → Type 0
IsIn low high row = (low ≤ row.kind) × (row.kind < high)

-- a change of such a row
abbrev pub IsTo : ℕ → ℕ → Change → Type 0
IsTo low high (Put row) = IsIn low high row
IsTo low high (Remove k q) = (low ≤ k) × (k < high)

abbrev pub IsOutside : ℕ → ℕ → ℕ → Type 0
IsOutside low high k = (kind : ℕ) → low ≤ kind → kind < high → eqb kind k ≡ false

below_low : (low high k : ℕ) → k < low → IsOutside low high k
below_low low high k less kind from to = ne_eqb kind k (λ e. absurd (omega (arith, e, less, from)))

from_high : (low high k : ℕ) → high ≤ k → IsOutside low high k
from_high low high k more kind from to = ne_eqb kind k (λ e. absurd (omega (arith, e, more, to)))

-- nothing stands under a kind that no row has
none_outside : (low high k q : ℕ) (rows : List Row) → IsOutside low high k → AllByRecursion (IsIn low high) rows → find (is_row k q) rows ≡ None
none_outside low high k q [] out all = refl
none_outside low high k q (row ∷ rows) out all = rw (out row.kind all.0.0 all.0.1) (none_outside low high k q rows out all.1)

pub rows_outside : (low high k q : ℕ) (rows : List Row) → IsOutside low high k → AllByRecursion (IsIn low high) rows → rows_of rows k q ≡ None
rows_outside low high k q rows out all = ap (option_map (λ (row : Row). row.body)) (none_outside low high k q rows out all)

one_alone : (low high k q : ℕ) (c : Change) (o : Option Body) → IsOutside low high k → IsTo low high c → changed_at k q c o ≡ o
one_alone low high k q (Put row) o out is = rw (out row.kind is.0 is.1) refl
one_alone low high k q (Remove kind key) o out is = rw (out kind is.0 is.1) refl

-- changes leave what stands under other kinds
pub left_alone : (low high k q : ℕ) (cs : List Change) (o : Option Body) → IsOutside low high k → AllByRecursion (IsTo low high) cs → becomes k q cs o ≡ o
left_alone low high k q [] o out all = refl
left_alone low high k q (c ∷ cs) o out all =
    ap (λ x. becomes k q cs x) (one_alone low high k q c o out all.0) ∙ left_alone low high k q cs o out all.1

-- changes of rows of some kinds, which lead from some rows of these kinds to others
pub record Leads (low high : ℕ) (xs ys : List Row) (cs : List Change) : Type 0 where
  pub before : AllByRecursion (IsIn low high) xs
  pub after : AllByRecursion (IsIn low high) ys
  pub only : AllByRecursion (IsTo low high) cs
  pub leads : (k q : ℕ) → becomes k q cs (rows_of xs k q) ≡ rows_of ys k q

wider : (a b low high : ℕ) → low ≤ a → b ≤ high → (c : Change) → IsTo a b c → IsTo low high c
wider a b low high from to (Put row) is = (let one = is.0 in omega (arith, one, from), let one = is.1 in omega (arith, one, to))
wider a b low high from to (Remove k q) is = (let one = is.0 in omega (arith, one, from), let one = is.1 in omega (arith, one, to))

wider_row : (a b low high : ℕ) → low ≤ a → b ≤ high → (row : Row) → IsIn a b row → IsIn low high row
wider_row a b low high from to row is = (let one = is.0 in omega (arith, one, from), let one = is.1 in omega (arith, one, to))

found_by : (b : Bool) (x : Row) (o p : Option Row) → o ≡ p → cond b (Some x) o ≡ cond b (Some x) p
found_by b x o p e = ap (λ r. cond b (Some x) r) e

found_first : (p : Row → Bool) (xs ys : List Row) → find p ys ≡ None → find p (xs ++ ys) ≡ find p xs
found_first p [] ys none = none
found_first p (x ∷ xs) ys none = found_by (p x) x _ _ (found_first p xs ys none)

pass : (b : Bool) (x : Row) (o later all : Option Row) → cond b (Some x) o ≡ None → (o ≡ None → all ≡ later) → cond b (Some x) all ≡ later
pass true x o later all none rest = absurd (cc)
pass false x o later all none rest = rest none

found_last : (p : Row → Bool) (xs ys : List Row) → find p xs ≡ None → find p (xs ++ ys) ≡ find p ys
found_last p [] ys none = refl
found_last p (x ∷ xs) ys none = pass (p x) x (find p xs) (find p ys) (find p (xs ++ ys)) none (found_last p xs ys)

module _ (a b c : ℕ) (low : a ≤ b) (high : b ≤ c) (xs ys more others : List Row) (cs ds : List Change) (one : Leads a b xs ys cs) (two : Leads b c more others ds) where
  joined_rows : (us vs : List Row) → AllByRecursion (IsIn a b) us → AllByRecursion (IsIn b c) vs → AllByRecursion (IsIn a c) (us ++ vs)
  joined_rows us vs here there =
      each_append (IsIn a c) us vs (each_weaker (IsIn a b) (IsIn a c) (wider_row a b a c (omega arith) high) us here)
      (each_weaker (IsIn b c) (IsIn a c) (wider_row b c a c low (omega arith)) vs there)

  rows_first : (k q : ℕ) (us vs : List Row) → k < b → AllByRecursion (IsIn b c) vs → rows_of (us ++ vs) k q ≡ rows_of us k q
  rows_first k q us vs less there = ap (option_map (λ (row : Row). row.body)) (found_first (is_row k q) us vs (none_outside b c k q vs (below_low b c k less) there))

  rows_last : (k q : ℕ) (us vs : List Row) → b ≤ k → AllByRecursion (IsIn a b) us → rows_of (us ++ vs) k q ≡ rows_of vs k q
  rows_last k q us vs more here = ap (option_map (λ (row : Row). row.body)) (found_last (is_row k q) us vs (none_outside a b k q us (from_high a b k more) here))

  in_first : (k q : ℕ) → k < b → becomes k q (cs ++ ds) (rows_of (xs ++ more) k q) ≡ rows_of (ys ++ others) k q
  in_first k q less =
      becomes_append k q cs ds (rows_of (xs ++ more) k q)
      ∙ left_alone b c k q ds (becomes k q cs (rows_of (xs ++ more) k q)) (below_low b c k less) two.only
      ∙ ap (λ o. becomes k q cs o) (rows_first k q xs more less two.before)
      ∙ one.leads k q
      ∙ sym (rows_first k q ys others less two.after)

  in_last : (k q : ℕ) → b ≤ k → becomes k q (cs ++ ds) (rows_of (xs ++ more) k q) ≡ rows_of (ys ++ others) k q
  in_last k q from =
      becomes_append k q cs ds (rows_of (xs ++ more) k q)
      ∙ ap (λ o. becomes k q ds o) (left_alone a b k q cs (rows_of (xs ++ more) k q) (from_high a b k from) one.only)
      ∙ ap (λ o. becomes k q ds o) (rows_last k q xs more from one.before)
      ∙ two.leads k q
      ∙ sym (rows_last k q ys others from one.after)

  joined_by : (k q : ℕ) (t : Bool) → ltb k b ≡ t → becomes k q (cs ++ ds) (rows_of (xs ++ more) k q) ≡ rows_of (ys ++ others) k q
  joined_by k q true e = in_first k q (ltb-true k b e)
  joined_by k q false e = in_last k q (ltb-false k b e)

  -- rows of some kinds, and rows of the kinds above
  pub joined : Leads a c (xs ++ more) (ys ++ others) (cs ++ ds)
  joined = record {
    before = joined_rows xs more one.before two.before;
    after = joined_rows ys others one.after two.after;
    only = each_append (IsTo a c) cs ds (each_weaker (IsTo a b) (IsTo a c) (wider a b a c (omega arith) high) cs one.only)
        (each_weaker (IsTo b c) (IsTo a c) (wider b c a c low (omega arith)) ds two.only);
    leads = λ k q. joined_by k q _ refl;
  }
