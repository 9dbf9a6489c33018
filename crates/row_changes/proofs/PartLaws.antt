-- The reports, deferrals and replies of records that fit together.
use Rattle.std.proofs.Common.{◌≡◌, ℕ, ◌+◌, ◌<◌, ◌≤◌, arith, Bool, true, false, ◌&&◌, ◌||◌, cond, eqb, List, ◌∷◌, length, Option, Some, IfSome, Result, Ok, Err, refl, sym, ap, ◌∙◌, eq-eqb}
use Rattle.std.specs.Prelude.{◌==◌, nat_lt}
use Rattle.std.specs.Str.{bytes_eq}
use Rattle.std.specs.List.{AllByRecursion, AllPairs, filter_map, count_by}
use Rattle.std.proofs.lemmas.Bool.{eqb-true, ltb-true, leb-false, or_parts}
use Rattle.std.proofs.lemmas.Bool.Decides.{Decides-like, same_from_decides}
use Rattle.std.proofs.lemmas.List.Recursion.{is_count_by}
use Rattle.std.proofs.lemmas.Slice.Eq.{bytes_eq-Decides}
use Rattle.codes.specs.declared.fault.BadReport.{BadReport}
use Rattle.asks.specs.declared.kept.KeptReply.{KeptReply}
use Rattle.deferrals.specs.declared.items.Deferral.{Deferral as DeferralOf}
use Rattle.facts.specs.Reading.{read_of}
use Rattle.facts.specs.Same.{is_same, minute_of_report}
use Rattle.facts.specs.declared.report.Read.{Read}
use Rattle.facts.specs.declared.report.Report.{Report as ReportOf}
use Rattle.desk_state.specs.Requests.{is_request}
use Rattle.desk_state.specs.Sound.{AreOpen, AreSingle, AreUnlike, IsNumbered, IsOpen, IsReplied}
use Rattle.records.specs.Faults.{is_same_report, is_same_request, minute_in, minute_of}
use Rattle.records.specs.Kinds.{is_kind}
use Rattle.records.specs.Valid.{IsRecord, IsReport}
use Rattle.records.specs.declared.record.KeptReport.{KeptReport}
use Rattle.records.specs.declared.record.Meta.{Meta as MetaOf}
use Rattle.records.specs.declared.record.Record.{Record}
use Rattle.records.specs.declared.record.Record.TheVariants.{Meta, Report, Deferral, Release, Kept, Alert}
use Rattle.row_changes.specs.Held.{AreOfDesk, deferral_in, meta_in, reply_in, report_if, report_in, report_of}
use Rattle.row_changes.proofs.Lists.{Pairs, all_pairs, each_mapped, no_longer, pairs_mapped, weaker_pairs}
use Rattle.row_changes.proofs.Fitting.{Agree, IsAmong, all_agree, are_few, each_among}

-- ---- tests

same_bytes : (s t : List ℕ) → bytes_eq s t ≡ bytes_eq t s
same_bytes s t = same_from_decides (bytes_eq s t) (bytes_eq t s) (bytes_eq-Decides s t) (Decides-like (bytes_eq t s) (λ e. sym e) (λ e. sym e) (bytes_eq-Decides t s))

same_number : (m n : ℕ) → eqb m n ≡ eqb n m
same_number m n = same_from_decides (eqb m n) (eqb n m) (eqb-true m n, eq-eqb m n) ((λ e. sym (eqb-true n m e)), (λ e. eq-eqb n m (sym e)))

pub turned : (s t : List ℕ) (m n : ℕ) → (bytes_eq t s && (n == m)) ≡ false → (bytes_eq s t && (m == n)) ≡ false
turned s t m n other = ap (λ b. b && (m == n)) (same_bytes s t) ∙ ap (λ b. bytes_eq t s && b) (same_number m n) ∙ other

pub swapped : (a b : Bool) → (a && b) ≡ (b && a)
swapped true true = refl
swapped true false = refl
swapped false true = refl
swapped false false = refl

-- ---- how many there are

abbrev pub Counted : {B : Type 0} → ℕ → (Record → Option B) → Type 0
Counted kind f = (r : Record) (rs : List Record) → length (filter_map f (r ∷ rs)) ≡ cond (is_kind kind r) (1 + length (filter_map f rs)) (length (filter_map f rs))

as_many : {B : Type 0} (kind : ℕ) (f : Record → Option B) → Counted kind f → (rs : List Record) → length (filter_map f rs) ≡ count_by (is_kind kind) rs
as_many kind f counted rs = is_count_by (λ xs. length (filter_map f xs)) (is_kind kind) refl counted rs

pub at_most : {B : Type 0} (kind : ℕ) (f : Record → Option B) → Counted kind f → (rs : List Record) (most : ℕ) → count_by (is_kind kind) rs ≤ most → length (filter_map f rs) ≤ most
at_most kind f counted rs most few = let same = as_many kind f counted rs in omega (arith, same, few)

count_report : Counted 1 report_in
count_report (Meta m) rs = refl
count_report (Report r) rs = omega arith
count_report (Deferral d) rs = refl
count_report (Release r) rs = refl
count_report (Kept k) rs = refl
count_report (Alert a) rs = refl

count_deferral : Counted 2 deferral_in
count_deferral (Meta m) rs = refl
count_deferral (Report r) rs = refl
count_deferral (Deferral d) rs = omega arith
count_deferral (Release r) rs = refl
count_deferral (Kept k) rs = refl
count_deferral (Alert a) rs = refl

count_reply : Counted 4 reply_in
count_reply (Meta m) rs = refl
count_reply (Report r) rs = refl
count_reply (Deferral d) rs = refl
count_reply (Release r) rs = refl
count_reply (Kept k) rs = omega arith
count_reply (Alert a) rs = refl

-- ---- reports

-- a valid report whose id is below a number
pub record IsKeptReport (next : ℕ) (r : KeptReport) : Type 0 where
  pub valid : IsReport r
  pub below : r.id < next

report_among : (rs : List Record) (m : MetaOf) (x : Record) → IsAmong rs m x → IfSome (report_in x) (IsKeptReport m.counters.next_report)
unfolding IsRecord
report_among rs m (Report r) is = record { valid = is.valid; below = leb-false m.counters.next_report r.id is.ahead }
report_among rs m (Meta n) is = tt
report_among rs m (Deferral d) is = tt
report_among rs m (Release r) is = tt
report_among rs m (Kept k) is = tt
report_among rs m (Alert a) is = tt

pub kept_reports : (rs : List Record) (m : MetaOf) → AreOfDesk rs → meta_in rs ≡ Some m → AllByRecursion (IsKeptReport m.counters.next_report) (filter_map report_in rs)
kept_reports rs m are is = each_mapped (IsAmong rs m) (IsKeptReport m.counters.next_report) report_in (report_among rs m) rs (each_among rs m are is)

-- the ids rise, and they aren't the same
abbrev pub AreApart : KeptReport → KeptReport → Type 0
AreApart a b = (a.id < b.id) × (is_same_report b a ≡ false)

-- what holds of two of one kind that agree
below_by : (a b : ℕ) (odds : Bool) → (nat_lt a b ≡ true) × (((b == a) || odds) ≡ false) → (a < b) × (odds ≡ false)
below_by a b odds agree = (ltb-true a b agree.0, (or_parts (b == a) odds agree.1).1)

reports_apart : (x y : Record) → Agree x y → IfSome (report_in x) (λ a. IfSome (report_in y) (AreApart a))
reports_apart (Report a) (Report b) agree = below_by a.id b.id (is_same_report b a) agree
reports_apart (Report a) (Meta m) agree = tt
reports_apart (Report a) (Deferral d) agree = tt
reports_apart (Report a) (Release r) agree = tt
reports_apart (Report a) (Kept k) agree = tt
reports_apart (Report a) (Alert b) agree = tt
reports_apart (Meta m) y agree = tt
reports_apart (Deferral d) y agree = tt
reports_apart (Release r) y agree = tt
reports_apart (Kept k) y agree = tt
reports_apart (Alert a) y agree = tt

pub kept_apart : (rs : List Record) → AreOfDesk rs → Pairs AreApart (filter_map report_in rs)
kept_apart rs are = pairs_mapped Agree AreApart report_in reports_apart rs (all_agree rs are)

again_below : (next : ℕ) (r : KeptReport) (read : Result Read BadReport) → r.id < next → IfSome (report_if r read) (IsNumbered next)
again_below next r (Ok read) below = below
again_below next r (Err bad) below = tt

again_numbered : (next : ℕ) (r : KeptReport) → IsKeptReport next r → IfSome (report_of r) (IsNumbered next)
unfolding report_of
again_numbered next r is = again_below next r (read_of r.text r.received) is.below

-- ids rise, and no two reports are the same
abbrev pub Unlike : ReportOf → ReportOf → Type 0
Unlike a b = (a.id < b.id) × (is_same b.text (minute_of_report b) a ≡ false)

again_unlike_by : (a b : KeptReport) (one two : Result Read BadReport) → (a.id < b.id) × ((bytes_eq b.text a.text && (minute_in two == minute_in one)) ≡ false)
    → IfSome (report_if a one) (λ x. IfSome (report_if b two) (Unlike x))
again_unlike_by a b (Ok one) (Ok two) apart = (apart.0, turned a.text b.text (minute_in (Ok one)) (minute_in (Ok two)) apart.1)
again_unlike_by a b (Ok one) (Err bad) apart = tt
again_unlike_by a b (Err bad) two apart = tt

again_unlike : (a b : KeptReport) → AreApart a b → IfSome (report_of a) (λ x. IfSome (report_of b) (Unlike x))
unfolding report_of minute_of
again_unlike a b apart = again_unlike_by a b (read_of a.text a.received) (read_of b.text b.received) apart

-- the reports of records
abbrev pub reports_in : List Record → List ReportOf
reports_in rs = filter_map report_of (filter_map report_in rs)

unlike_pairs : (rs : List Record) → AreOfDesk rs → Pairs Unlike (reports_in rs)
unlike_pairs rs are = pairs_mapped AreApart Unlike report_of again_unlike (filter_map report_in rs) (kept_apart rs are)

pub reports_numbered : (rs : List Record) (m : MetaOf) → AreOfDesk rs → meta_in rs ≡ Some m → AllByRecursion (IsNumbered m.counters.next_report) (reports_in rs)
reports_numbered rs m are is = each_mapped (IsKeptReport m.counters.next_report) (IsNumbered m.counters.next_report) report_of (again_numbered m.counters.next_report) (filter_map report_in rs) (kept_reports rs m are is)

pub reports_rise : (rs : List Record) → AreOfDesk rs → AllPairs (λ a b. a.id < b.id) (reports_in rs)
reports_rise rs are = all_pairs (λ a b. a.id < b.id) (reports_in rs) (weaker_pairs Unlike (λ a b. a.id < b.id) (λ a b is. is.0) (reports_in rs) (unlike_pairs rs are))

pub reports_unlike : (rs : List Record) → AreOfDesk rs → AreUnlike (reports_in rs)
reports_unlike rs are =
    all_pairs (λ a b. is_same b.text (minute_of_report b) a ≡ false) (reports_in rs)
    (weaker_pairs Unlike (λ a b. is_same b.text (minute_of_report b) a ≡ false) (λ a b is. is.1) (reports_in rs) (unlike_pairs rs are))

pub reports_few : (rs : List Record) → AreOfDesk rs → length (reports_in rs) ≤ 200_000
reports_few rs are =
    let fewer = no_longer report_of (filter_map report_in rs) in
    let few = at_most 1 report_in count_report rs 200_000 (are_few rs are).reports in
    omega (arith, fewer, few)

-- ---- deferrals

deferral_among : (rs : List Record) (m : MetaOf) (x : Record) → IsAmong rs m x → IfSome (deferral_in x) (IsOpen m.counters.next_deferral)
unfolding IsRecord
deferral_among rs m (Deferral d) is = (leb-false m.counters.next_deferral d.id is.ahead, is.valid.found)
deferral_among rs m (Meta n) is = tt
deferral_among rs m (Report r) is = tt
deferral_among rs m (Release r) is = tt
deferral_among rs m (Kept k) is = tt
deferral_among rs m (Alert a) is = tt

abbrev Rises : DeferralOf → DeferralOf → Type 0
Rises a b = a.id < b.id

deferrals_apart : (x y : Record) → Agree x y → IfSome (deferral_in x) (λ a. IfSome (deferral_in y) (Rises a))
deferrals_apart (Deferral a) (Deferral b) agree = ltb-true a.id b.id agree.0
deferrals_apart (Deferral a) (Meta m) agree = tt
deferrals_apart (Deferral a) (Report r) agree = tt
deferrals_apart (Deferral a) (Release r) agree = tt
deferrals_apart (Deferral a) (Kept k) agree = tt
deferrals_apart (Deferral a) (Alert b) agree = tt
deferrals_apart (Meta m) y agree = tt
deferrals_apart (Report r) y agree = tt
deferrals_apart (Release r) y agree = tt
deferrals_apart (Kept k) y agree = tt
deferrals_apart (Alert a) y agree = tt

pub deferral_pairs : (rs : List Record) → AreOfDesk rs → Pairs (λ a b. a.id < b.id) (filter_map deferral_in rs)
deferral_pairs rs are = pairs_mapped Agree Rises deferral_in deferrals_apart rs (all_agree rs are)

pub deferrals_few : (rs : List Record) → AreOfDesk rs → length (filter_map deferral_in rs) ≤ 50_000
deferrals_few rs are = at_most 2 deferral_in count_deferral rs 50_000 (are_few rs are).deferrals

pub deferrals_open : (rs : List Record) (m : MetaOf) → AreOfDesk rs → meta_in rs ≡ Some m → AreOpen m.counters.next_deferral (filter_map deferral_in rs)
deferrals_open rs m are is = record {
  each = each_mapped (IsAmong rs m) (IsOpen m.counters.next_deferral) deferral_in (deferral_among rs m) rs (each_among rs m are is);
  rising = all_pairs (λ a b. a.id < b.id) (filter_map deferral_in rs) (deferral_pairs rs are);
  few = deferrals_few rs are;
}

-- ---- replies

reply_among : (rs : List Record) (m : MetaOf) (x : Record) → IsAmong rs m x → IfSome (reply_in x) (IsReplied m.counters.next_kept)
unfolding IsRecord
reply_among rs m (Kept k) is = (leb-false m.counters.next_kept k.id is.ahead, is.valid.at)
reply_among rs m (Meta n) is = tt
reply_among rs m (Report r) is = tt
reply_among rs m (Deferral d) is = tt
reply_among rs m (Release r) is = tt
reply_among rs m (Alert a) is = tt

abbrev pub Other : KeptReply → KeptReply → Type 0
Other a b = (a.id < b.id) × (is_request b.actor b.number a ≡ false)

request_turned : (s t : List ℕ) (m n : ℕ) → (bytes_eq t s && (n == m)) ≡ false → ((m == n) && bytes_eq s t) ≡ false
request_turned s t m n other = swapped (m == n) (bytes_eq s t) ∙ turned s t m n other

replies_apart : (x y : Record) → Agree x y → IfSome (reply_in x) (λ a. IfSome (reply_in y) (Other a))
replies_apart (Kept a) (Kept b) agree = let both = below_by a.id b.id (is_same_request b a) agree in (both.0, request_turned a.actor b.actor a.number b.number both.1)
replies_apart (Kept a) (Meta m) agree = tt
replies_apart (Kept a) (Report r) agree = tt
replies_apart (Kept a) (Deferral d) agree = tt
replies_apart (Kept a) (Release r) agree = tt
replies_apart (Kept a) (Alert b) agree = tt
replies_apart (Meta m) y agree = tt
replies_apart (Report r) y agree = tt
replies_apart (Deferral d) y agree = tt
replies_apart (Release r) y agree = tt
replies_apart (Alert a) y agree = tt

other_pairs : (rs : List Record) → AreOfDesk rs → Pairs Other (filter_map reply_in rs)
other_pairs rs are = pairs_mapped Agree Other reply_in replies_apart rs (all_agree rs are)

pub replies_numbered : (rs : List Record) (m : MetaOf) → AreOfDesk rs → meta_in rs ≡ Some m → AllByRecursion (IsReplied m.counters.next_kept) (filter_map reply_in rs)
replies_numbered rs m are is = each_mapped (IsAmong rs m) (IsReplied m.counters.next_kept) reply_in (reply_among rs m) rs (each_among rs m are is)

pub replies_rise : (rs : List Record) → AreOfDesk rs → AllPairs (λ a b. a.id < b.id) (filter_map reply_in rs)
replies_rise rs are = all_pairs (λ a b. a.id < b.id) (filter_map reply_in rs) (weaker_pairs Other (λ a b. a.id < b.id) (λ a b is. is.0) (filter_map reply_in rs) (other_pairs rs are))

pub replies_single : (rs : List Record) → AreOfDesk rs → AreSingle (filter_map reply_in rs)
replies_single rs are =
    all_pairs (λ a b. is_request b.actor b.number a ≡ false) (filter_map reply_in rs)
    (weaker_pairs Other (λ a b. is_request b.actor b.number a ≡ false) (λ a b is. is.1) (filter_map reply_in rs) (other_pairs rs are))

pub replies_few : (rs : List Record) → AreOfDesk rs → length (filter_map reply_in rs) ≤ 800_000
replies_few rs are = at_most 4 reply_in count_reply rs 800_000 (are_few rs are).replies
