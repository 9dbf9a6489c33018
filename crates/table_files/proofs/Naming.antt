-- The names and hours of tables that were read have their forms: each row is that of a record whose fields were tested.
use Rattle.std.proofs.Common.{◌≡◌, ◌≤◌, nat_le, ℕ, ◌&&◌, Bool, true, List, [], ◌∷◌, map, Option, None, Some, IfSome, Ok, refl, sym, subst}
use Rattle.std.specs.List.{AllByRecursion}
use Rattle.std.proofs.lemmas.Bool.{and_parts}
use Rattle.desk_time.specs.Digits.{◌>>=◌}
use Rattle.desk_time.specs.Numbers.{number_in}
use Rattle.desk_time.proofs.Chains.{bind_any, bind_if, under}
use Rattle.desk_time.proofs.NumberLaws.{number_within as number_limited}
use Rattle.desk_io.specs.declared.source_read.SourceRead.{SourceRead}
use Rattle.ops_tables.specs.Forms.{is_name, is_tail, is_item, is_person, is_key, is_name_or_none, are_item_names}
use Rattle.ops_tables.specs.Keys.{is_same_airport, is_same_approach, is_same_alternate, is_same_type, is_same_tail, is_same_use, is_same_distance, is_same_route, is_same_item, is_same_pair, is_same_actor, is_same_hours}
use Rattle.ops_tables.specs.Named.{AreNamed}
use Rattle.ops_tables.specs.Tables.{TableRows}
use Rattle.ops_tables.specs.Rows.{Actor, CaptainHours}
use Rattle.ops_tables.specs.declared.rows.MelRow.{MelRow}
use Rattle.ops_tables.specs.declared.rows.Role.{Role}
use Rattle.ops_tables.specs.declared.rows.Tail.{Tail}
use Rattle.table_files.specs.Fields.{number_within, role_of}
use Rattle.table_files.specs.Files.{no_rows, files, airports, approaches, alternates, types, tails, uses, distances, routes, mel, pairs, actors, hours}
use Rattle.table_files.specs.Good.{SaysSettings, SaysTable}
use Rattle.table_files.specs.Reading.{Table}
use Rattle.table_files.specs.Records.{actor_row, hours_row, item_row, item_terms, named_item, tail_row}
use Rattle.table_files.specs.Whole.{FilesGive, Told}

-- ---- rows

abbrev IsTailRow : Tail → Type 0
IsTailRow r = is_tail r.tail ≡ true

abbrev IsItemRow : MelRow → Type 0
IsItemRow r = is_item r.item ≡ true

abbrev IsPersonRow : Actor → Type 0
IsPersonRow a = is_person a.name ≡ true

abbrev IsInLimit : ℕ → Type 0
IsInLimit hours = hours ≤ 100_000

abbrev IsHoursRow : CaptainHours → Type 0
IsHoursRow h = IsInLimit h.hours

tail_formed : (fields : List (List ℕ)) → IfSome (tail_row fields) IsTailRow
tail_formed [] = tt
tail_formed (tail ∷ []) = tt
tail_formed (tail ∷ kind ∷ []) = under (is_tail tail && is_name kind) (Some (record { tail = tail; kind = kind })) IsTailRow (λ passed. (and_parts (is_tail tail) (is_name kind) passed).0)
tail_formed (tail ∷ kind ∷ more ∷ rest) = tt

item_of_names : (kind item capability : List ℕ) → are_item_names kind item capability ≡ true → is_item item ≡ true
unfolding are_item_names
item_of_names kind item capability passed =
    let first = and_parts (is_name kind && is_item item) (is_name_or_none capability) passed in (and_parts (is_name kind) (is_item item) first.0).1

either_formed : {T R : Type 0} (P : R → Type 0) (f : Option T → Option R) (o : Option T) → IfSome (f None) P → ((x : T) → IfSome (f (Some x)) P) → IfSome (f o) P
either_formed P f None none some = none
either_formed P f (Some x) none some = some x

item_formed : (fields : List (List ℕ)) → IfSome (item_row fields) IsItemRow
item_formed [] = tt
item_formed (a ∷ []) = tt
item_formed (a ∷ b ∷ []) = tt
item_formed (a ∷ b ∷ c ∷ []) = tt
item_formed (a ∷ b ∷ c ∷ d ∷ []) = tt
item_formed (a ∷ b ∷ c ∷ d ∷ e ∷ []) = tt
item_formed (a ∷ b ∷ c ∷ d ∷ e ∷ f ∷ []) = tt
item_formed (a ∷ b ∷ c ∷ d ∷ e ∷ f ∷ g ∷ []) = tt
item_formed (kind ∷ item ∷ category ∷ days ∷ capability ∷ extra_fuel ∷ flag_ok ∷ max_minutes ∷ []) =
    under (are_item_names kind item capability) (named_item kind item capability (item_terms category days extra_fuel flag_ok max_minutes)) IsItemRow
    (λ passed. either_formed IsItemRow (λ o. named_item kind item capability o) (item_terms category days extra_fuel flag_ok max_minutes) tt
    (λ terms. item_of_names kind item capability passed))
item_formed (a ∷ b ∷ c ∷ d ∷ e ∷ f ∷ g ∷ h ∷ i ∷ more) = tt

person_formed : (fields : List (List ℕ)) → IfSome (actor_row fields) IsPersonRow
person_formed [] = tt
person_formed (name ∷ []) = tt
person_formed (name ∷ key ∷ []) = tt
person_formed (name ∷ key ∷ role ∷ []) =
    let next = λ (does : Role). Some (record { name = name; key = key; role = does }) in
    under (is_person name && is_key key) (role_of role >>= next) IsPersonRow
    (λ passed. bind_any (role_of role) next IsPersonRow (λ does. (and_parts (is_person name) (is_key key) passed).0))
person_formed (name ∷ key ∷ role ∷ more ∷ rest) = tt

hours_within : (field : List ℕ) → IfSome (number_within 0 100000 field) IsInLimit
hours_within field =
    bind_if (number_in 100000 field) _ IsInLimit IsInLimit (number_limited 100000 field) (λ n within. under (nat_le 0 n) (Some n) IsInLimit (λ passed. within))

hours_formed : (fields : List (List ℕ)) → IfSome (hours_row fields) IsHoursRow
hours_formed [] = tt
hours_formed (captain ∷ []) = tt
hours_formed (captain ∷ kind ∷ []) = tt
hours_formed (captain ∷ kind ∷ field ∷ []) =
    let next = λ (count : ℕ). Some (record { captain = captain; kind = kind; hours = count }) in
    under (is_person captain && is_name kind) (number_within 0 100000 field >>= next) IsHoursRow
    (λ passed. bind_if (number_within 0 100000 field) next IsInLimit IsHoursRow (hours_within field) (λ count within. within))
hours_formed (captain ∷ kind ∷ field ∷ more ∷ rest) = tt

-- what holds of the row of each record holds of all rows
rows_formed : {R : Type 0} (P : R → Type 0) (row_of : List (List ℕ) → Option R) → ((fields : List (List ℕ)) → IfSome (row_of fields) P)
    → (records : List (List (List ℕ))) (rows : List R) → map row_of records ≡ map Some rows → AllByRecursion P rows
rows_formed P row_of is [] [] given = tt
rows_formed P row_of is [] (row ∷ rows) given = absurd (cc)
rows_formed P row_of is (fields ∷ records) [] given = absurd (cc)
rows_formed P row_of is (fields ∷ records) (row ∷ rows) given =
    let first : row_of fields ≡ Some row = cc in
    let rest : map row_of records ≡ map Some rows = cc in
    (subst (λ o. IfSome o P) first (is fields), rows_formed P row_of is records rows rest)

any_row : {R : Type 0} (o : Option R) → IfSome o (λ row. Unit {0})
any_row None = tt
any_row (Some row) = tt

-- ---- files

-- one more table keeps the forms, where its rows do
table_keeps : {R : Type 0} (P : R → Type 0) (is_same_key : R → R → Bool) (limit : ℕ) (table : Table R) (before after : TableRows) (records : List (List (List ℕ)))
    → ((fields : List (List ℕ)) → IfSome (table.row_of fields) P) → ((rows : List R) → AllByRecursion P rows → AreNamed (table.with_rows before rows))
    → SaysTable is_same_key limit table before records (Ok after) → AreNamed after
table_keeps P is_same_key limit table before after records row keeps says =
    let good = (says.good after).1 refl in
    subst AreNamed good.2 (keeps good.0 (rows_formed P table.row_of row good.1.below good.0 good.1.holds.given))

settings_keep : (before after : TableRows) (records : List (List (List ℕ))) → AreNamed before → SaysSettings before records (Ok after) → AreNamed after
settings_keep before after records names says =
    let good = (says.good after).1 refl in
    subst AreNamed good.2 (record { tails = names.tails; items = names.items; people = names.people; hours = names.hours })

-- tables with rows in a table that isn't one of the four
abbrev LeavesNames : {R : Type 0} → Table R → Type 0
LeavesNames {R} table =
    (before : TableRows) (rows : List R)
    → ((table.with_rows before rows).tails ≡ before.tails) × ((table.with_rows before rows).mel ≡ before.mel) × ((table.with_rows before rows).actors ≡ before.actors) × ((table.with_rows before rows).hours ≡ before.hours)

other_keeps : {R : Type 0} (is_same_key : R → R → Bool) (limit : ℕ) (table : Table R) (before after : TableRows) (records : List (List (List ℕ)))
    → LeavesNames table → AreNamed before → SaysTable is_same_key limit table before records (Ok after) → AreNamed after
other_keeps is_same_key limit table before after records leaves names says =
    table_keeps (λ row. Unit {0}) is_same_key limit table before after records (λ fields. any_row (table.row_of fields))
    (λ rows any. same_names before (table.with_rows before rows) names (leaves before rows)) says
  where
    same_names : (before after : TableRows) → AreNamed before → (after.tails ≡ before.tails) × (after.mel ≡ before.mel) × (after.actors ≡ before.actors) × (after.hours ≡ before.hours) → AreNamed after
    same_names before after names same = record {
      tails = subst (AllByRecursion IsTailRow) (sym same.0) names.tails;
      items = subst (AllByRecursion IsItemRow) (sym same.1) names.items;
      people = subst (AllByRecursion IsPersonRow) (sym same.2) names.people;
      hours = subst (AllByRecursion IsHoursRow) (sym same.3) names.hours;
    }

-- The names of tables that were read have their forms: file by file, in the order in which they are read.
pub names_formed : (told : Told) (old new : List SourceRead) (t : TableRows) → FilesGive told old new no_rows files t → AreNamed t
names_formed told old new t one =
    let after_settings = settings_keep no_rows one.0 one.2.gives.records (record { tails = tt; items = tt; people = tt; hours = tt }) one.2.says in
    let two = one.3 in
    let after_airports = other_keeps is_same_airport 5000 airports one.0 two.0 two.2.gives.records (λ before rows. (refl, refl, refl, refl)) after_settings two.2.says in
    let three = two.3 in
    let after_approaches = other_keeps is_same_approach 50000 approaches two.0 three.0 three.2.gives.records (λ before rows. (refl, refl, refl, refl)) after_airports three.2.says in
    let four = three.3 in
    let after_alternates = other_keeps is_same_alternate 20000 alternates three.0 four.0 four.2.gives.records (λ before rows. (refl, refl, refl, refl)) after_approaches four.2.says in
    let five = four.3 in
    let after_types = other_keeps is_same_type 200 types four.0 five.0 five.2.gives.records (λ before rows. (refl, refl, refl, refl)) after_alternates five.2.says in
    let six = five.3 in
    let after_tails = table_keeps IsTailRow is_same_tail 5000 tails five.0 six.0 six.2.gives.records tail_formed
    (λ rows are. record { tails = are; items = after_types.items; people = after_types.people; hours = after_types.hours }) six.2.says in
    let seven = six.3 in
    let after_uses = other_keeps is_same_use 200000 uses six.0 seven.0 seven.2.gives.records (λ before rows. (refl, refl, refl, refl)) after_tails seven.2.says in
    let eight = seven.3 in
    let after_distances = other_keeps is_same_distance 200000 distances seven.0 eight.0 eight.2.gives.records (λ before rows. (refl, refl, refl, refl)) after_uses eight.2.says in
    let nine = eight.3 in
    let after_routes = other_keeps is_same_route 50000 routes eight.0 nine.0 nine.2.gives.records (λ before rows. (refl, refl, refl, refl)) after_distances nine.2.says in
    let ten = nine.3 in
    let after_items = table_keeps IsItemRow is_same_item 50000 mel nine.0 ten.0 ten.2.gives.records item_formed
    (λ rows are. record { tails = after_routes.tails; items = are; people = after_routes.people; hours = after_routes.hours }) ten.2.says in
    let eleven = ten.3 in
    let after_pairs = other_keeps is_same_pair 50000 pairs ten.0 eleven.0 eleven.2.gives.records (λ before rows. (refl, refl, refl, refl)) after_items eleven.2.says in
    let twelve = eleven.3 in
    let after_actors = table_keeps IsPersonRow is_same_actor 5000 actors eleven.0 twelve.0 twelve.2.gives.records person_formed
    (λ rows are. record { tails = after_pairs.tails; items = after_pairs.items; people = are; hours = after_pairs.hours }) twelve.2.says in
    let thirteen = twelve.3 in
    let after_hours = table_keeps IsHoursRow is_same_hours 20000 hours twelve.0 thirteen.0 thirteen.2.gives.records hours_formed
    (λ rows are. record { tails = after_actors.tails; items = after_actors.items; people = after_actors.people; hours = are }) thirteen.2.says in
    subst AreNamed thirteen.3.0 after_hours
