-- What holds of each record, and of each two, where records fit together and rise.
use Rattle.std.proofs.Common.{◌≡◌, ℕ, ◌+◌, ◌<◌, ◌≤◌, arith, Bool, true, false, ◌&&◌, ◌||◌, cond, List, [], ◌∷◌, ◌++◌, append-nil, length, Option, None, Some, Result, Ok, Err, refl, sym, ap, ◌∙◌, subst}
use Rattle.std.specs.Prelude.{◌==◌, nat_lt}
use Rattle.std.specs.List.{AllByRecursion, position_from, count_by}
use Rattle.std.specs.Option.{option_map}
use Rattle.std.proofs.lemmas.Bool.{and_parts, leb-false}
use Rattle.std.proofs.lemmas.Bool.Decides.{nat_tests}
use Rattle.std.proofs.lemmas.List.{append_assoc}
use Rattle.std.proofs.lemmas.List.Elements.{recursion_from_All}
use Rattle.std.proofs.lemmas.List.Sums.{sum_by-append}
use Rattle.records.specs.Faults.{fit, has_meta, within_limits, have_releases, agree, are_counted, place_of, first_after, pair_or, pair_after, is_over, is_orphan, is_bad_pair, is_ahead, meta_from, lacks_meta, beside, ahead_of, bad, pair, ◌>>◌}
use Rattle.records.specs.Kinds.{kind_of, key_of, is_kind}
use Rattle.records.specs.Valid.{IsRecord}
use Rattle.records.specs.declared.faults.RowWhy.{RowWhy}
use Rattle.records.specs.declared.record.Meta.{Meta as MetaOf}
use Rattle.records.specs.declared.record.Record.{Record}
use Rattle.records.specs.declared.record.Record.TheVariants.{Meta, Report, Deferral, Release, Kept, Alert}
use Rattle.row_changes.specs.Held.{AreOfDesk, comes_before, rises_from, rising, meta_in}
use Rattle.row_changes.proofs.Lists.{Pairs, both, both_pairs}
use Rattle.desk_io.proofs.Each.{each_weaker}

-- ---- tests that are passed

-- two tests, of which the second is made where the first is passed
record Chains {E : Type 0} (chain : Result (Unit {0}) E → Result (Unit {0}) E → Result (Unit {0}) E) : Type 0 where
  pub goes_on : (two : Result (Unit {0}) E) → chain (Ok tt) two ≡ two
  pub stops : (fault : E) (two : Result (Unit {0}) E) → chain (Err fault) two ≡ Err fault

both_of : {E : Type 0} (chain : Result (Unit {0}) E → Result (Unit {0}) E → Result (Unit {0}) E) → Chains chain → (one two : Result (Unit {0}) E) → chain one two ≡ Ok tt → (one ≡ Ok tt) × (two ≡ Ok tt)
both_of chain is (Ok done) two passed = (refl, sym (is.goes_on two) ∙ passed)
both_of chain is (Err fault) two passed = absurd (let stops = is.stops fault two in cc)

none_bad : (why : RowWhy) (o : Option ℕ) → bad why o ≡ Ok tt → o ≡ None
none_bad why None passed = refl
none_bad why (Some place) passed = absurd (cc)

no_pair : (o : Option (ℕ × ℕ)) → pair o ≡ Ok tt → o ≡ None
no_pair None passed = refl
no_pair (Some places) passed = absurd (cc)

-- the tests that records pass which fit
record Passes (rs : List Record) : Type 0 where
  pub meta : lacks_meta rs ≡ None
  pub limits : first_after is_over [] rs ≡ None
  pub orphans : place_of (is_orphan rs) rs ≡ None
  pub pairs : pair_after is_bad_pair [] rs ≡ None
  pub ahead : ahead_of rs (meta_from 0 rs) ≡ None

passes : (rs : List Record) → fit rs ≡ Ok tt → Passes rs
unfolding fit
passes rs passed =
    let is : Chains ◌>>◌ = record { goes_on = λ two. refl; stops = λ fault two. refl } in
    let one = both_of ◌>>◌ is (has_meta rs) (within_limits rs >> (have_releases rs >> (agree rs >> are_counted rs))) passed in
    let two = both_of ◌>>◌ is (within_limits rs) (have_releases rs >> (agree rs >> are_counted rs)) one.1 in
    let three = both_of ◌>>◌ is (have_releases rs) (agree rs >> are_counted rs) two.1 in
    let four = both_of ◌>>◌ is (agree rs) (are_counted rs) three.1 in
    record {
      meta = none_bad _ _ one.0;
      limits = none_bad _ _ two.0;
      orphans = none_bad _ _ three.0;
      pairs = no_pair _ four.0;
      ahead = no_pair _ four.1;
    }

-- records that fit have a meta record, where there are any
pub has_one : (rs : List Record) → fit rs ≡ Ok tt → lacks_meta rs ≡ None
has_one rs passed = (passes rs passed).meta

-- ---- each record

none_here : (p : Record → Bool) (r : Record) (b : Bool) (i : ℕ) (later : Option ℕ) → p r ≡ b → cond b (Some i) later ≡ None → (p r ≡ false) × (later ≡ None)
none_here p r true i later is none = absurd (cc)
none_here p r false i later is none = (is, none)

-- where none has a place, none meets the test
none_from : (p : Record → Bool) (i : ℕ) (rs : List Record) → position_from p i rs ≡ None → AllByRecursion (λ r. p r ≡ false) rs
none_from p i [] none = tt
none_from p i (r ∷ rs) none = let parts = none_here p r (p r) i (position_from p (i + 1) rs) refl none in (parts.0, none_from p (i + 1) rs parts.1)

no_place : (o : Option ℕ) (place : ℕ) → beside o place ≡ None → o ≡ None
no_place None place none = refl
no_place (Some one) place none = absurd (cc)

none_ahead : (rs : List Record) (found : Option (ℕ × MetaOf)) (m : MetaOf) → option_map (λ f. f.1) found ≡ Some m → ahead_of rs found ≡ None → place_of (is_ahead m.counters) rs ≡ None
none_ahead rs None m is none = absurd (cc)
none_ahead rs (Some (place, other)) m is none =
    let same : other ≡ m = cc in
    subst (λ (n : MetaOf). place_of (is_ahead n.counters) rs ≡ None) same (no_place (place_of (is_ahead other.counters) rs) place none)

-- there is room for it after some records
abbrev pub HasRoom : Record → Type 0
HasRoom r = (earlier : List Record) × (is_over earlier r ≡ false)

not_over : (p : List Record → Record → Bool) (earlier : List Record) (r : Record) (b : Bool) (later : Option ℕ) → p earlier r ≡ b → cond b (Some (length earlier)) later ≡ None → (p earlier r ≡ false) × (later ≡ None)
not_over p earlier r true later is none = absurd (cc)
not_over p earlier r false later is none = (is, none)

all_room : (earlier rs : List Record) → first_after is_over earlier rs ≡ None → AllByRecursion HasRoom rs
all_room earlier [] none = tt
all_room earlier (r ∷ rs) none =
    let parts = not_over is_over earlier r (is_over earlier r) (first_after is_over (earlier ++ r ∷ []) rs) refl none in
    ((earlier, parts.0), all_room (earlier ++ r ∷ []) rs parts.1)

-- what holds of each record of some that fit, where they have that meta record
pub record IsAmong (rs : List Record) (m : MetaOf) (r : Record) : Type 0 where
  pub valid : IsRecord r
  pub ahead : is_ahead m.counters r ≡ false
  pub orphan : is_orphan rs r ≡ false
  pub room : HasRoom r

is_among : (rs : List Record) (m : MetaOf) (r : Record) → (IsRecord r × (is_ahead m.counters r ≡ false)) × ((is_orphan rs r ≡ false) × HasRoom r) → IsAmong rs m r
is_among rs m r is = record { valid = is.0.0; ahead = is.0.1; orphan = is.1.0; room = is.1.1 }

pub each_among : (rs : List Record) (m : MetaOf) → AreOfDesk rs → meta_in rs ≡ Some m → AllByRecursion (IsAmong rs m) rs
each_among rs m are is =
    let passed = passes rs are.fit in
    each_weaker (λ r. (IsRecord r × (is_ahead m.counters r ≡ false)) × ((is_orphan rs r ≡ false) × HasRoom r)) (IsAmong rs m) (is_among rs m) rs
    (both (λ r. IsRecord r × (is_ahead m.counters r ≡ false)) (λ r. (is_orphan rs r ≡ false) × HasRoom r) rs
    (both IsRecord (λ r. is_ahead m.counters r ≡ false) rs (recursion_from_All IsRecord rs are.valid) (none_from (is_ahead m.counters) 0 rs (none_ahead rs (meta_from 0 rs) m is passed.ahead)))
    (both (λ r. is_orphan rs r ≡ false) HasRoom rs (none_from (is_orphan rs) 0 rs passed.orphans) (all_room [] rs passed.limits)))

-- what holds of each holds of the first meta record
meta_has : (P : Record → Type 0) (place : ℕ) (rs : List Record) (m : MetaOf) → option_map (λ f. f.1) (meta_from place rs) ≡ Some m → AllByRecursion P rs → P (Meta m)
meta_has P place [] m is all = absurd (cc)
meta_has P place (Meta n ∷ rs) m is all = let same : n ≡ m = cc in subst (λ x. P (Meta x)) same all.0
meta_has P place (Report r ∷ rs) m is all = meta_has P (place + 1) rs m is all.1
meta_has P place (Deferral d ∷ rs) m is all = meta_has P (place + 1) rs m is all.1
meta_has P place (Release r ∷ rs) m is all = meta_has P (place + 1) rs m is all.1
meta_has P place (Kept k ∷ rs) m is all = meta_has P (place + 1) rs m is all.1
meta_has P place (Alert a ∷ rs) m is all = meta_has P (place + 1) rs m is all.1

pub meta_among : (rs : List Record) (m : MetaOf) → AreOfDesk rs → meta_in rs ≡ Some m → IsAmong rs m (Meta m)
meta_among rs m are is = meta_has (IsAmong rs m) 0 rs m is (each_among rs m are is)

-- ---- each two

none_or : (o : Option ℕ) (one : ℕ) (later : Option (ℕ × ℕ)) → pair_or o one later ≡ None → (o ≡ None) × (later ≡ None)
none_or None one later none = (refl, none)
none_or (Some two) one later none = absurd (cc)

parted : {A : Type 0} (P : A → Type 0) (xs : List A) (x : A) → AllByRecursion P (xs ++ x ∷ []) → AllByRecursion P xs × P x
parted P [] x all = (tt, all.0)
parted P (y ∷ ys) x all = let rest = parted P ys x all.1 in ((all.0, rest.0), rest.1)

-- none is at odds with one before it
none_after : (p : Record → Record → Bool) (earlier rs : List Record) → pair_after p earlier rs ≡ None
    → AllByRecursion (λ r. AllByRecursion (λ e. p r e ≡ false) earlier) rs × Pairs (λ a b. p b a ≡ false) rs
none_after p earlier [] none = (tt, tt)
none_after p earlier (r ∷ rs) none =
    let parts = none_or (place_of (p r) earlier) (length earlier) (pair_after p (earlier ++ r ∷ []) rs) none in
    let more = none_after p (earlier ++ r ∷ []) rs parts.1 in (
      (none_from (p r) 0 earlier parts.0, each_weaker (λ q. AllByRecursion (λ e. p q e ≡ false) (earlier ++ r ∷ [])) (λ q. AllByRecursion (λ e. p q e ≡ false) earlier) (λ q all. (parted (λ e. p q e ≡ false) earlier r all).0) rs more.0),
      (each_weaker (λ q. AllByRecursion (λ e. p q e ≡ false) (earlier ++ r ∷ [])) (λ q. p q r ≡ false) (λ q all. (parted (λ e. p q e ≡ false) earlier r all).1) rs more.0, more.1),
    )

before_trans : (a b c d e f : ℕ) → (nat_lt a c || ((a == c) && nat_lt b d)) ≡ true → (nat_lt c e || ((c == e) && nat_lt d f)) ≡ true → (nat_lt a e || ((a == e) && nat_lt b f)) ≡ true
before_trans a b c d e f one two = grind (arith, nat_tests, one, two)

abbrev Before : Record → Record → Type 0
Before a b = comes_before a b ≡ true

-- each comes before all later ones
all_later : (r : Record) (rs : List Record) → rises_from r rs ≡ true → AllByRecursion (Before r) rs × Pairs Before rs
all_later r [] up = (tt, tt)
all_later r (q ∷ qs) up =
    let parts = and_parts (comes_before r q) (rises_from q qs) up in
    let more = all_later q qs parts.1 in
    ((parts.0, each_weaker (Before q) (Before r) (λ x later. before_trans (kind_of r) (key_of r) (kind_of q) (key_of q) (kind_of x) (key_of x) parts.0 later) qs more.0), more)

in_order : (rs : List Record) → rising rs ≡ true → Pairs Before rs
in_order [] up = tt
in_order (r ∷ rs) up = all_later r rs up

-- one comes before the other, and they aren't at odds
abbrev pub Agree : Record → Record → Type 0
Agree a b = (comes_before a b ≡ true) × (is_bad_pair b a ≡ false)

pub all_agree : (rs : List Record) → AreOfDesk rs → Pairs Agree rs
all_agree rs are = both_pairs Before (λ a b. is_bad_pair b a ≡ false) rs (in_order rs are.order) (none_after is_bad_pair [] rs (passes rs are.fit).pairs).1

-- ---- how many there are of a kind

one_more : (p : Record → Bool) (earlier : List Record) (r : Record) (b : Bool) (most : ℕ) → p r ≡ b → (p r ≡ true → count_by p earlier < most) → count_by p earlier ≤ most → count_by p (earlier ++ r ∷ []) ≤ most
one_more p earlier r true most is room few =
    let less = room is in
    let sum : count_by p (earlier ++ r ∷ []) ≡ count_by p earlier + (0 + 1) = sum_by-append (λ x. cond (p x) 1 0) earlier (r ∷ []) ∙ ap (λ b. count_by p earlier + (0 + cond b 1 0)) is in
    omega (arith, less, sum)
one_more p earlier r false most is room few =
    let sum : count_by p (earlier ++ r ∷ []) ≡ count_by p earlier + (0 + 0) = sum_by-append (λ x. cond (p x) 1 0) earlier (r ∷ []) ∙ ap (λ b. count_by p earlier + (0 + cond b 1 0)) is in
    omega (arith, few, sum)

-- where one of a kind has room only after fewer than so many, there are no more than so many
few_of : (kind most : ℕ) → ((e : List Record) (r : Record) → is_over e r ≡ false → is_kind kind r ≡ true → count_by (is_kind kind) e < most) → (earlier rs : List Record) → first_after is_over earlier rs ≡ None
    → count_by (is_kind kind) earlier ≤ most → count_by (is_kind kind) (earlier ++ rs) ≤ most
few_of kind most room earlier [] none few = subst (λ xs. count_by (is_kind kind) xs ≤ most) (sym (append-nil earlier)) few
few_of kind most room earlier (r ∷ rs) none few =
    let parts = not_over is_over earlier r (is_over earlier r) (first_after is_over (earlier ++ r ∷ []) rs) refl none in
    subst (λ xs. count_by (is_kind kind) xs ≤ most) (append_assoc earlier (r ∷ []) rs)
    (few_of kind most room (earlier ++ r ∷ []) rs parts.1 (one_more (is_kind kind) earlier r (is_kind kind r) most refl (room earlier r parts.0) few))

report_room : (e : List Record) (r : Record) → is_over e r ≡ false → is_kind 1 r ≡ true → count_by (is_kind 1) e < 200_000
report_room e (Report r) room is = leb-false 200_000 (count_by (is_kind 1) e) room
report_room e (Meta m) room is = absurd (cc)
report_room e (Deferral d) room is = absurd (cc)
report_room e (Release r) room is = absurd (cc)
report_room e (Kept k) room is = absurd (cc)
report_room e (Alert a) room is = absurd (cc)

deferral_room : (e : List Record) (r : Record) → is_over e r ≡ false → is_kind 2 r ≡ true → count_by (is_kind 2) e < 50_000
deferral_room e (Deferral d) room is = leb-false 50_000 (count_by (is_kind 2) e) room
deferral_room e (Meta m) room is = absurd (cc)
deferral_room e (Report r) room is = absurd (cc)
deferral_room e (Release r) room is = absurd (cc)
deferral_room e (Kept k) room is = absurd (cc)
deferral_room e (Alert a) room is = absurd (cc)

release_room : (e : List Record) (r : Record) → is_over e r ≡ false → is_kind 3 r ≡ true → count_by (is_kind 3) e < 20_000
release_room e (Release r) room is = leb-false 20_000 (count_by (is_kind 3) e) room
release_room e (Meta m) room is = absurd (cc)
release_room e (Report r) room is = absurd (cc)
release_room e (Deferral d) room is = absurd (cc)
release_room e (Kept k) room is = absurd (cc)
release_room e (Alert a) room is = absurd (cc)

reply_room : (e : List Record) (r : Record) → is_over e r ≡ false → is_kind 4 r ≡ true → count_by (is_kind 4) e < 800_000
reply_room e (Kept k) room is = leb-false 800_000 (count_by (is_kind 4) e) room
reply_room e (Meta m) room is = absurd (cc)
reply_room e (Report r) room is = absurd (cc)
reply_room e (Deferral d) room is = absurd (cc)
reply_room e (Release r) room is = absurd (cc)
reply_room e (Alert a) room is = absurd (cc)

-- how many there are of each kind that has a limit
pub record AreFew (rs : List Record) : Type 0 where
  pub reports : count_by (is_kind 1) rs ≤ 200_000
  pub deferrals : count_by (is_kind 2) rs ≤ 50_000
  pub releases : count_by (is_kind 3) rs ≤ 20_000
  pub replies : count_by (is_kind 4) rs ≤ 800_000

pub are_few : (rs : List Record) → AreOfDesk rs → AreFew rs
are_few rs are =
    let none = (passes rs are.fit).limits in
    record {
      reports = few_of 1 200_000 report_room [] rs none (omega arith);
      deferrals = few_of 2 50_000 deferral_room [] rs none (omega arith);
      releases = few_of 3 20_000 release_room [] rs none (omega arith);
      replies = few_of 4 800_000 reply_room [] rs none (omega arith);
    }
