-- Records that make a bad pair share a mark, and an index that is made mark by mark.
use Rattle.std.proofs.Common.{◌≡◌, refl, sym, ap, ◌∙◌, subst, ℕ, zero, suc, ◌+◌, ◌<◌, ◌≤◌, Bool, true, false, not, ◌||◌, cond, List, [], ◌∷◌, ◌++◌, length, take, get_or, map, Some, arith}
use Rattle.std.specs.Prelude.{◌==◌}
use Rattle.std.specs.Ordering.{is_eq}
use Rattle.std.specs.Cmp.{IsTotalOrder}
use Rattle.std.specs.Str.{bytes_eq}
use Rattle.std.specs.List.{list_any, position_from}
use Rattle.std.specs.Option.{unwrap_or}
use Rattle.std.specs.BTreeMap.{is_at}
use Rattle.std.proofs.lemmas.Bool.{and_parts, eqb-true, not-true, or_left, or_right}
use Rattle.std.proofs.lemmas.List.{take_more, length-take-le}
use Rattle.std.proofs.lemmas.Cmp.{nat_cmp_total, on_total, then_total, tied_itself}
use Rattle.std.proofs.lemmas.Slice.Eq.{bytes_eq-Decides}
use Rattle.plan.specs.Phases.{is_active}
use Rattle.records.specs.Kinds.{kind_of, key_of}
use Rattle.records.specs.Faults.{minute_of, is_same_row, are_at_odds, is_bad_pair, is_release_of}
use Rattle.facts.specs.Index.{fingerprint}
use Rattle.records.specs.Marks.{own_mark, other_mark, marks_of, mark_cmp, is_marked, place_at, IsIndex}
use Rattle.records.specs.declared.marks.Marks.{Marks}
use Rattle.records.specs.declared.record.Record.{Record}
use Rattle.records.specs.declared.record.Record.TheVariants.{Report, Release, Kept, Alert}
use Rattle.records.proofs.Places.{place_through, clear_before, neither, place_push}

mark_total : IsTotalOrder mark_cmp
mark_total = then_total (on_total (λ (p : ℕ × ℕ). p.0) nat_cmp_total) (on_total (λ (p : ℕ × ℕ). p.1) nat_cmp_total)

itself : (m : ℕ × ℕ) → is_at (mark_cmp m) m ≡ true
itself m = ap is_eq (tied_itself mark_total m)

same_mark : (m k : ℕ × ℕ) → m ≡ k → is_at (mark_cmp m) k ≡ true
same_mark m k e = subst (λ x. is_at (mark_cmp m) x ≡ true) e (itself m)

-- what two say that are at odds has one mark
odds : (r e : Record) → are_at_odds r e ≡ true → other_mark e ≡ other_mark r
odds (Report a) (Report b) h =
    let both = and_parts (bytes_eq a.text b.text) (minute_of a == minute_of b) h in
    let text : b.text ≡ a.text = sym ((bytes_eq-Decides a.text b.text).0 both.0) in
    let minute : minute_of b ≡ minute_of a = sym (eqb-true (minute_of a) (minute_of b) both.1) in
    λ i. (minute i, fingerprint (text i))
odds (Kept a) (Kept b) h =
    let both = and_parts (bytes_eq a.actor b.actor) (a.number == b.number) h in
    let actor : b.actor ≡ a.actor = sym ((bytes_eq-Decides a.actor b.actor).0 both.0) in
    let number : b.number ≡ a.number = sym (eqb-true a.number b.number both.1) in
    λ i. (fingerprint (actor i), number i)
odds (Release r) (Alert a) h =
    let both = and_parts (r.id == a.release) (not (is_active r.phase)) h in
    let id : a.release ≡ r.id = sym (eqb-true r.id a.release both.0) in
    rw (not-true (is_active r.phase) both.1) (λ i. (6, id i))
odds (Alert a) (Release r) h =
    let both = and_parts (r.id == a.release) (not (is_active r.phase)) h in
    let id : r.id ≡ a.release = eqb-true r.id a.release both.0 in
    rw (not-true (is_active r.phase) both.1) (λ i. (6, id i))
odds _ _ h = absurd cc

same_row : (r e : Record) → is_same_row r e ≡ true → own_mark e ≡ own_mark r
same_row r e h =
    let both = and_parts (kind_of r == kind_of e) (key_of r == key_of e) h in
    let kind : kind_of e ≡ kind_of r = sym (eqb-true (kind_of r) (kind_of e) both.0) in
    let key : key_of e ≡ key_of r = sym (eqb-true (key_of r) (key_of e) both.1) in
    λ i. (kind i, key i)

-- two records that make a bad pair share a mark
shared : (r e : Record) → is_bad_pair r e ≡ true → is_marked (own_mark r) (marks_of e) || is_marked (other_mark r) (marks_of e) ≡ true
shared r e h = by (is_same_row r e) refl h
  where
    by : (b : Bool) → is_same_row r e ≡ b → b || are_at_odds r e ≡ true → is_marked (own_mark r) (marks_of e) || is_marked (other_mark r) (marks_of e) ≡ true
    by true same h = or_left _ _ (or_left _ _ (same_mark (own_mark e) (own_mark r) (same_row r e same)))
    by false same h = or_right (is_marked (own_mark r) (marks_of e)) _ (or_right (is_at (mark_cmp (own_mark e)) (other_mark r)) _ (same_mark (other_mark e) (other_mark r) (odds r e h)))

-- no record has a mark before the place that an index gives
clear_mark : (mark : ℕ × ℕ) (entries : List ((ℕ × ℕ) × ℕ)) (rs : List Record) (p place : ℕ) → IsIndex entries (map marks_of rs) → p ≤ unwrap_or (place_at entries mark) place
    → list_any (λ r. is_marked mark (marks_of r)) (take p rs) ≡ false
clear_mark mark entries rs p place index few =
    clear_before (λ r. is_marked mark (marks_of r)) 0 p rs (λ at is.
    let there : place_at entries mark ≡ Some at = index mark ∙ place_through (is_marked mark) marks_of 0 rs ∙ is in
    let least : p ≤ at = subst (λ o. p ≤ unwrap_or o place) there few in
    omega arith)

-- no record makes a bad pair before both places that an index gives
pub none_before : (entries : List ((ℕ × ℕ) × ℕ)) (rs : List Record) (r : Record) (m : Marks) (start place : ℕ) → IsIndex entries (map marks_of rs) → m ≡ marks_of r
    → start ≤ unwrap_or (place_at entries m.own) place → start ≤ unwrap_or (place_at entries m.other) place → list_any (is_bad_pair r) (take start rs) ≡ false
none_before entries rs r m start place index its own other =
    neither (λ e. is_marked (own_mark r) (marks_of e)) (λ e. is_marked (other_mark r) (marks_of e)) (is_bad_pair r) (take start rs) (shared r)
    (clear_mark (own_mark r) entries rs start place index (subst (λ x. start ≤ unwrap_or (place_at entries x.own) place) its own))
    (clear_mark (other_mark r) entries rs start place index (subst (λ x. start ≤ unwrap_or (place_at entries x.other) place) its other))

release_marked : (id : ℕ) (r : Record) → is_release_of id r ≡ true → is_marked (3, id) (marks_of r) || is_marked (3, id) (marks_of r) ≡ true
release_marked id r h =
    let both = and_parts (kind_of r == 3) (key_of r == id) h in
    let kind : kind_of r ≡ 3 = eqb-true (kind_of r) 3 both.0 in
    let key : key_of r ≡ id = eqb-true (key_of r) id both.1 in
    or_left _ _ (or_left _ _ (same_mark (own_mark r) (3, id) (λ i. (kind i, key i))))

-- no release of an id stands before the place that an index gives
pub no_release_before : (entries : List ((ℕ × ℕ) × ℕ)) (rs : List Record) (id start place : ℕ) → IsIndex entries (map marks_of rs) → start ≡ unwrap_or (place_at entries (3, id)) place
    → list_any (is_release_of id) (take start rs) ≡ false
no_release_before entries rs id start place index is =
    let few : start ≤ unwrap_or (place_at entries (3, id)) place = omega (arith, is) in
    let clear = clear_mark (3, id) entries rs start place index few in
    neither (λ e. is_marked (3, id) (marks_of e)) (λ e. is_marked (3, id) (marks_of e)) (is_release_of id) (take start rs) (release_marked id) clear clear

-- ---- an index is made

-- one more record's marks
pub indexed : (before after : List ((ℕ × ℕ) × ℕ)) (ms : List Marks) (m : Marks) (place : ℕ) → IsIndex before ms → place ≡ length ms
    → ((q : ℕ × ℕ) → place_at after q ≡ cond (is_marked q m) (Some (unwrap_or (place_at before q) place)) (place_at before q)) → IsIndex after (ms ++ m ∷ [])
indexed before after ms m place index last each q =
    each q ∙ ap (λ o. cond (is_marked q m) (Some (unwrap_or o place)) o) (index q)
    ∙ ap (λ n. cond (is_marked q m) (Some (unwrap_or (position_from (is_marked q) 0 ms) n)) (position_from (is_marked q) 0 ms)) (let e : place ≡ 0 + length ms = omega (arith, last) in e)
    ∙ sym (place_push (is_marked q) 0 ms m)

-- an element that is there is the same by any other
pub get_again : (ms : List Marks) (place : ℕ) (d : Marks) → place < length ms → get_or ms place d ≡ get_or ms place (get_or ms place d)
get_again [] place d within = absurd (omega arith)
get_again (m ∷ ms) zero d within = refl
get_again (m ∷ ms) (suc place) d within = get_again ms place d (omega arith)

-- the marks of one more of some records
pub indexed_more : (before after : List ((ℕ × ℕ) × ℕ)) (ms : List Marks) (m : Marks) (place : ℕ) → IsIndex before (take place ms) → place < length ms → m ≡ get_or ms place m
    → ((q : ℕ × ℕ) → place_at after q ≡ cond (is_marked q m) (Some (unwrap_or (place_at before q) place)) (place_at before q)) → IsIndex after (take (place + 1) ms)
indexed_more before after ms m place index within there each =
    subst (IsIndex after) (sym (take_more ms place m within ∙ ap (λ x. take place ms ++ x ∷ []) (sym there)))
    (indexed before after (take place ms) m place index (sym (length-take-le place ms (omega arith))) each)
