-- Records in order are the records of the state that they stand for.
use Rattle.std.proofs.Common.{◌≡◌, ℕ, ◌+◌, ◌≤◌, arith, Bool, true, false, ◌&&◌, ◌||◌, cond, eqb, List, [], ◌∷◌, ◌++◌, map, length, Option, None, Some, IfSome, Result, Ok, Err, refl, sym, ap, ◌∙◌}
use Rattle.std.specs.Prelude.{◌==◌, nat_lt, is_some, IsOk}
use Rattle.std.specs.List.{AllByRecursion, filter_map, cons_option, list_any}
use Rattle.std.specs.Option.{option_map}
use Rattle.std.proofs.lemmas.Bool.{and_parts, eqb-true, ltb-true, not-false}
use Rattle.codes.specs.declared.fault.BadReport.{BadReport}
use Rattle.asks.specs.declared.kept.KeptReply.{KeptReply}
use Rattle.deferrals.specs.declared.items.Deferral.{Deferral as DeferralOf}
use Rattle.facts.specs.Reading.{read_of}
use Rattle.facts.specs.declared.report.Read.{Read}
use Rattle.plan.specs.declared.release.Release.{Release as ReleaseOf}
use Rattle.desk_state.specs.State.{release_at}
use Rattle.records.specs.Faults.{agree, meta_from, is_release_of}
use Rattle.records.specs.Kinds.{kind_of, key_of, is_kind}
use Rattle.records.specs.declared.record.KeptAlert.{KeptAlert}
use Rattle.records.specs.declared.record.KeptReport.{KeptReport}
use Rattle.records.specs.declared.record.Meta.{Meta as MetaOf}
use Rattle.records.specs.declared.record.Record.{Record}
use Rattle.records.specs.declared.record.Record.TheVariants.{Meta, Report, Deferral, Release, Kept, Alert}
use Rattle.row_changes.specs.Held.{AreOfDesk, alert_in, alert_of, alert_with, deferral_in, meta_in, release_in, reply_in, report_if, report_in, report_of}
use Rattle.row_changes.specs.Rows.{alert_kept, report_kept}
use Rattle.row_changes.proofs.Lists.{Pairs, each_mapped}
use Rattle.row_changes.proofs.Fitting.{Agree, IsAmong, all_agree, each_among, has_one}
use Rattle.row_changes.proofs.PartLaws.{IsKeptReport, kept_reports, reports_in}
use Rattle.row_changes.proofs.AlertLaws.{alerts_in}
use Rattle.row_changes.proofs.SavedLaws.{listed}
use Rattle.desk_io.proofs.Each.{each_weaker}

-- ---- records in order, kind after kind

not_after : (a b c d : ℕ) (t : Bool) → nat_lt a c ≡ t → (t || ((a == c) && nat_lt b d)) ≡ true → a ≤ c
not_after a b c d true less before = let is = ltb-true a c less in omega (arith, is)
not_after a b c d false less before = let same = eqb-true a c (and_parts (a == c) (nat_lt b d) before).0 in omega (arith, same)

-- the kinds don't fall
kinds_rise : (r x : Record) → Agree r x → kind_of r ≤ kind_of x
kinds_rise r x agree = not_after (kind_of r) (key_of r) (kind_of x) (key_of x) (nat_lt (kind_of r) (kind_of x)) refl agree.0

abbrev From : ℕ → List Record → Type 0
From kind rs = AllByRecursion (λ x. kind ≤ kind_of x) rs

-- there is no record of a kind below
none_below : {B : Type 0} (kind : ℕ) (f : Record → Option B) → ((x : Record) → kind ≤ kind_of x → f x ≡ None) → (rs : List Record) → From kind rs → filter_map f rs ≡ []
none_below kind f is [] all = refl
none_below kind f is (x ∷ xs) all = ap (λ o. cons_option o (filter_map f xs)) (is x all.0) ∙ none_below kind f is xs all.1

no_report : (x : Record) → 2 ≤ kind_of x → report_in x ≡ None
no_report (Report r) less = absurd (omega (arith, less))
no_report (Meta m) less = refl
no_report (Deferral d) less = refl
no_report (Release r) less = refl
no_report (Kept k) less = refl
no_report (Alert a) less = refl

no_deferral : (x : Record) → 3 ≤ kind_of x → deferral_in x ≡ None
no_deferral (Deferral d) less = absurd (omega (arith, less))
no_deferral (Meta m) less = refl
no_deferral (Report r) less = refl
no_deferral (Release r) less = refl
no_deferral (Kept k) less = refl
no_deferral (Alert a) less = refl

no_release : (x : Record) → 4 ≤ kind_of x → release_in x ≡ None
no_release (Release r) less = absurd (omega (arith, less))
no_release (Meta m) less = refl
no_release (Report r) less = refl
no_release (Deferral d) less = refl
no_release (Kept k) less = refl
no_release (Alert a) less = refl

no_reply : (x : Record) → 5 ≤ kind_of x → reply_in x ≡ None
no_reply (Kept k) less = absurd (omega (arith, less))
no_reply (Meta m) less = refl
no_reply (Report r) less = refl
no_reply (Deferral d) less = refl
no_reply (Release r) less = refl
no_reply (Alert a) less = refl

-- records of each kind, one kind after another
abbrev parts : List KeptReport → List DeferralOf → List ReleaseOf → List KeptReply → List KeptAlert → List Record
parts reports deferrals releases replies alerts = map Report reports ++ map Deferral deferrals ++ map Release releases ++ map Kept replies ++ map Alert alerts

abbrev parts_of : List Record → List Record
parts_of rs = parts (filter_map report_in rs) (filter_map deferral_in rs) (filter_map release_in rs) (filter_map reply_in rs) (filter_map alert_in rs)

module _ (rs : List Record) where
  abbrev reports : List KeptReport
  reports = filter_map report_in rs

  abbrev deferrals : List DeferralOf
  deferrals = filter_map deferral_in rs

  abbrev releases : List ReleaseOf
  releases = filter_map release_in rs

  abbrev replies : List KeptReply
  replies = filter_map reply_in rs

  abbrev alerts : List KeptAlert
  alerts = filter_map alert_in rs

  first_deferral : (d : DeferralOf) → From 2 rs → rs ≡ parts_of rs → Deferral d ∷ rs ≡ parts_of (Deferral d ∷ rs)
  first_deferral d from is =
      let no = none_below 2 report_in no_report rs from in
      ap (λ xs. Deferral d ∷ xs) (is ∙ ap (λ xs. parts xs deferrals releases replies alerts) no)
      ∙ sym (ap (λ xs. parts xs (d ∷ deferrals) releases replies alerts) no)

  first_release : (r : ReleaseOf) → From 3 rs → rs ≡ parts_of rs → Release r ∷ rs ≡ parts_of (Release r ∷ rs)
  first_release r from is =
      let no = none_below 2 report_in no_report rs (each_weaker (λ x. 3 ≤ kind_of x) (λ x. 2 ≤ kind_of x) (λ x more. omega (arith, more)) rs from) in
      let none = none_below 3 deferral_in no_deferral rs from in
      ap (λ xs. Release r ∷ xs) (is ∙ ap (λ xs. parts xs deferrals releases replies alerts) no ∙ ap (λ xs. parts [] xs releases replies alerts) none)
      ∙ sym (ap (λ xs. parts xs deferrals (r ∷ releases) replies alerts) no ∙ ap (λ xs. parts [] xs (r ∷ releases) replies alerts) none)

  first_reply : (k : KeptReply) → From 4 rs → rs ≡ parts_of rs → Kept k ∷ rs ≡ parts_of (Kept k ∷ rs)
  first_reply k from is =
      let no = none_below 2 report_in no_report rs (each_weaker (λ x. 4 ≤ kind_of x) (λ x. 2 ≤ kind_of x) (λ x more. omega (arith, more)) rs from) in
      let none = none_below 3 deferral_in no_deferral rs (each_weaker (λ x. 4 ≤ kind_of x) (λ x. 3 ≤ kind_of x) (λ x more. omega (arith, more)) rs from) in
      let nil = none_below 4 release_in no_release rs from in
      ap (λ xs. Kept k ∷ xs)
      (is ∙ ap (λ xs. parts xs deferrals releases replies alerts) no ∙ ap (λ xs. parts [] xs releases replies alerts) none ∙ ap (λ xs. parts [] [] xs replies alerts) nil)
      ∙ sym (ap (λ xs. parts xs deferrals releases (k ∷ replies) alerts) no ∙ ap (λ xs. parts [] xs releases (k ∷ replies) alerts) none ∙ ap (λ xs. parts [] [] xs (k ∷ replies) alerts) nil)

  first_alert : (a : KeptAlert) → From 5 rs → rs ≡ parts_of rs → Alert a ∷ rs ≡ parts_of (Alert a ∷ rs)
  first_alert a from is =
      let no = none_below 2 report_in no_report rs (each_weaker (λ x. 5 ≤ kind_of x) (λ x. 2 ≤ kind_of x) (λ x more. omega (arith, more)) rs from) in
      let none = none_below 3 deferral_in no_deferral rs (each_weaker (λ x. 5 ≤ kind_of x) (λ x. 3 ≤ kind_of x) (λ x more. omega (arith, more)) rs from) in
      let nil = none_below 4 release_in no_release rs (each_weaker (λ x. 5 ≤ kind_of x) (λ x. 4 ≤ kind_of x) (λ x more. omega (arith, more)) rs from) in
      let nought = none_below 5 reply_in no_reply rs from in
      ap (λ xs. Alert a ∷ xs)
      (is ∙ ap (λ xs. parts xs deferrals releases replies alerts) no ∙ ap (λ xs. parts [] xs releases replies alerts) none ∙ ap (λ xs. parts [] [] xs replies alerts) nil
      ∙ ap (λ xs. parts [] [] [] xs alerts) nought)
      ∙ sym (ap (λ xs. parts xs deferrals releases replies (a ∷ alerts)) no ∙ ap (λ xs. parts [] xs releases replies (a ∷ alerts)) none
      ∙ ap (λ xs. parts [] [] xs replies (a ∷ alerts)) nil ∙ ap (λ xs. parts [] [] [] xs (a ∷ alerts)) nought)

-- records in order that have no meta record
all_parts : (rs : List Record) → Pairs Agree rs → From 1 rs → rs ≡ parts_of rs
all_parts [] pairs from = refl
all_parts (Meta m ∷ rs) pairs from = absurd (let no = from.0 in omega (arith, no))
all_parts (Report r ∷ rs) pairs from = ap (λ xs. Report r ∷ xs) (all_parts rs pairs.1 from.1)
all_parts (Deferral d ∷ rs) pairs from = first_deferral rs d (each_weaker (Agree (Deferral d)) (λ x. 2 ≤ kind_of x) (kinds_rise (Deferral d)) rs pairs.0) (all_parts rs pairs.1 from.1)
all_parts (Release r ∷ rs) pairs from = first_release rs r (each_weaker (Agree (Release r)) (λ x. 3 ≤ kind_of x) (kinds_rise (Release r)) rs pairs.0) (all_parts rs pairs.1 from.1)
all_parts (Kept k ∷ rs) pairs from = first_reply rs k (each_weaker (Agree (Kept k)) (λ x. 4 ≤ kind_of x) (kinds_rise (Kept k)) rs pairs.0) (all_parts rs pairs.1 from.1)
all_parts (Alert a ∷ rs) pairs from = first_alert rs a (each_weaker (Agree (Alert a)) (λ x. 5 ≤ kind_of x) (kinds_rise (Alert a)) rs pairs.0) (all_parts rs pairs.1 from.1)

-- ---- the meta record is the first

above_meta : (m : MetaOf) (x : Record) → Agree (Meta m) x → 1 ≤ kind_of x
above_meta m (Meta n) agree = absurd (let no = agree.0 in cc)
above_meta m (Report r) agree = omega arith
above_meta m (Deferral d) agree = omega arith
above_meta m (Release r) agree = omega arith
above_meta m (Kept k) agree = omega arith
above_meta m (Alert a) agree = omega arith

none_found : (place : ℕ) (rs : List Record) → From 1 rs → meta_from place rs ≡ None
none_found place [] from = refl
none_found place (Meta m ∷ rs) from = absurd (let no = from.0 in omega (arith, no))
none_found place (Report r ∷ rs) from = none_found (place + 1) rs from.1
none_found place (Deferral d ∷ rs) from = none_found (place + 1) rs from.1
none_found place (Release r ∷ rs) from = none_found (place + 1) rs from.1
none_found place (Kept k ∷ rs) from = none_found (place + 1) rs from.1
none_found place (Alert a ∷ rs) from = none_found (place + 1) rs from.1

-- where another record is the first, there is none
none_first : (r : Record) (rs : List Record) → 1 ≤ kind_of r → Pairs Agree (r ∷ rs) → From 1 (r ∷ rs)
none_first r rs least pairs = (least, each_weaker (Agree r) (λ x. 1 ≤ kind_of x) (λ x agree. let more = kinds_rise r x agree in omega (arith, least, more)) rs pairs.0)

not_found : (m : MetaOf) (o : Option (ℕ × MetaOf)) → o ≡ None → option_map (λ found. found.1) o ≡ Some m → ⊥
not_found m None none is = absurd (cc)
not_found m (Some found) none is = absurd (cc)

meta_first : (rs : List Record) (m : MetaOf) → Pairs Agree rs → meta_in rs ≡ Some m → rs ≡ Meta m ∷ parts_of rs
meta_first [] m pairs is = absurd (cc)
meta_first (Meta n ∷ rs) m pairs is =
    let same : n ≡ m = cc in
    ap (λ (x : MetaOf). Meta x ∷ rs) same ∙ ap (λ xs. Meta m ∷ xs) (all_parts rs pairs.1 (each_weaker (Agree (Meta n)) (λ x. 1 ≤ kind_of x) (above_meta n) rs pairs.0))
meta_first (Report r ∷ rs) m pairs is = absurd (not_found m (meta_from 0 (Report r ∷ rs)) (none_found 0 (Report r ∷ rs) (none_first (Report r) rs (omega arith) pairs)) is)
meta_first (Deferral d ∷ rs) m pairs is = absurd (not_found m (meta_from 0 (Deferral d ∷ rs)) (none_found 0 (Deferral d ∷ rs) (none_first (Deferral d) rs (omega arith) pairs)) is)
meta_first (Release r ∷ rs) m pairs is = absurd (not_found m (meta_from 0 (Release r ∷ rs)) (none_found 0 (Release r ∷ rs) (none_first (Release r) rs (omega arith) pairs)) is)
meta_first (Kept k ∷ rs) m pairs is = absurd (not_found m (meta_from 0 (Kept k ∷ rs)) (none_found 0 (Kept k ∷ rs) (none_first (Kept k) rs (omega arith) pairs)) is)
meta_first (Alert a ∷ rs) m pairs is = absurd (not_found m (meta_from 0 (Alert a ∷ rs)) (none_found 0 (Alert a ∷ rs) (none_first (Alert a) rs (omega arith) pairs)) is)

-- ---- what is made of a record, back again

back_by : {A B : Type 0} (f : A → Option B) (g : B → A) (x : A) (xs : List A) (o : Option B) → option_map g o ≡ Some x → map g (filter_map f xs) ≡ xs → map g (cons_option o (filter_map f xs)) ≡ x ∷ xs
back_by f g x xs None is rest = absurd (cc)
back_by f g x xs (Some y) is rest = let same : g y ≡ x = cc in ap (λ z. z ∷ map g (filter_map f xs)) same ∙ ap (λ more. x ∷ more) rest

all_back : {A B : Type 0} (f : A → Option B) (g : B → A) (xs : List A) → AllByRecursion (λ x. option_map g (f x) ≡ Some x) xs → map g (filter_map f xs) ≡ xs
all_back f g [] all = refl
all_back f g (x ∷ xs) all = back_by f g x xs (f x) all.0 (all_back f g xs all.1)

read_back : (r : KeptReport) (o : Result Read BadReport) → IsOk o → option_map report_kept (report_if r o) ≡ Some r
read_back r (Ok read) is = refl
read_back r (Err bad) is = absurd (cc)

report_back : (r : KeptReport) → IsOk (read_of r.text r.received) → option_map report_kept (report_of r) ≡ Some r
unfolding report_of
report_back r is = read_back r (read_of r.text r.received) is

reports_back : (rs : List Record) (m : MetaOf) → AreOfDesk rs → meta_in rs ≡ Some m → map report_kept (reports_in rs) ≡ filter_map report_in rs
reports_back rs m are is =
    all_back report_of report_kept (filter_map report_in rs)
    (each_weaker (IsKeptReport m.counters.next_report) (λ r. option_map report_kept (report_of r) ≡ Some r) (λ r kept. report_back r kept.valid.read) (filter_map report_in rs) (kept_reports rs m are is))

-- the release of an id is there
there_by : (r : ReleaseOf) (later : Option ReleaseOf) (b any : Bool) → (b || any) ≡ true → (any ≡ true → is_some later ≡ true) → is_some (cond b (Some r) later) ≡ true
there_by r later true any is rest = refl
there_by r later false any is rest = rest is

is_there : (id : ℕ) (rs : List Record) → list_any (is_release_of id) rs ≡ true → is_some (release_at id (filter_map release_in rs)) ≡ true
is_there id [] any = absurd (cc)
is_there id (Release r ∷ rs) any = there_by r (release_at id (filter_map release_in rs)) (eqb r.id id) (list_any (is_release_of id) rs) any (is_there id rs)
is_there id (Meta m ∷ rs) any = is_there id rs any
is_there id (Report r ∷ rs) any = is_there id rs any
is_there id (Deferral d ∷ rs) any = is_there id rs any
is_there id (Kept k ∷ rs) any = is_there id rs any
is_there id (Alert a ∷ rs) any = is_there id rs any

alert_there : (rs : List Record) (m : MetaOf) (x : Record) → IsAmong rs m x → IfSome (alert_in x) (λ a. is_some (release_at a.release (filter_map release_in rs)) ≡ true)
alert_there rs m (Alert a) is = is_there a.release rs (not-false (list_any (is_release_of a.release) rs) is.orphan)
alert_there rs m (Meta n) is = tt
alert_there rs m (Report r) is = tt
alert_there rs m (Deferral d) is = tt
alert_there rs m (Release r) is = tt
alert_there rs m (Kept k) is = tt

alert_back : (a : KeptAlert) (o : Option ReleaseOf) → is_some o ≡ true → option_map alert_kept (option_map (λ r. alert_with a r.holder) o) ≡ Some a
alert_back a None is = absurd (cc)
alert_back a (Some r) is = refl

alerts_back : (rs : List Record) (m : MetaOf) → AreOfDesk rs → meta_in rs ≡ Some m → map alert_kept (alerts_in rs) ≡ filter_map alert_in rs
alerts_back rs m are is =
    let releases = filter_map release_in rs in
    all_back (alert_of releases) alert_kept (filter_map alert_in rs)
    (each_weaker (λ a. is_some (release_at a.release releases) ≡ true) (λ a. option_map alert_kept (alert_of releases a) ≡ Some a)
    (λ a there. alert_back a (release_at a.release releases) there) (filter_map alert_in rs)
    (each_mapped (IsAmong rs m) (λ a. is_some (release_at a.release releases) ≡ true) alert_in (alert_there rs m) rs (each_among rs m are is)))

-- the records of the state that records stand for are these
pub records_again : (rs : List Record) (m : MetaOf) → AreOfDesk rs → meta_in rs ≡ Some m
    → listed m (map report_kept (reports_in rs)) (filter_map deferral_in rs) (filter_map release_in rs) (filter_map reply_in rs) (map alert_kept (alerts_in rs)) ≡ rs
records_again rs m are is =
    ap (λ xs. listed m xs (filter_map deferral_in rs) (filter_map release_in rs) (filter_map reply_in rs) (map alert_kept (alerts_in rs))) (reports_back rs m are is)
    ∙ ap (λ xs. listed m (filter_map report_in rs) (filter_map deferral_in rs) (filter_map release_in rs) (filter_map reply_in rs) xs) (alerts_back rs m are is)
    ∙ sym (meta_first rs m (all_agree rs are) is)

-- ---- there are none without a meta record

lacking : (b : Bool) → (cond {A = Option ℕ} b None (Some 0)) ≡ None → b ≡ true
lacking true none = refl
lacking false none = absurd (cc)

none_meta : (place : ℕ) (rs : List Record) → option_map (λ found. found.1) (meta_from place rs) ≡ None → list_any (is_kind 0) rs ≡ false
none_meta place [] none = refl
none_meta place (Meta m ∷ rs) none = absurd (cc)
none_meta place (Report r ∷ rs) none = none_meta (place + 1) rs none
none_meta place (Deferral d ∷ rs) none = none_meta (place + 1) rs none
none_meta place (Release r ∷ rs) none = none_meta (place + 1) rs none
none_meta place (Kept k ∷ rs) none = none_meta (place + 1) rs none
none_meta place (Alert a ∷ rs) none = none_meta (place + 1) rs none

none_by : (r : Record) (rs : List Record) (b any : Bool) → (length (r ∷ rs) == 0) ≡ b → (b || any) ≡ true → any ≡ false → ⊥
none_by r rs true any is either not_any = absurd (let zero = eqb-true (length (r ∷ rs)) 0 is in omega (arith, zero))
none_by r rs false any is either not_any = absurd (cc)

pub no_records : (rs : List Record) → AreOfDesk rs → meta_in rs ≡ None → rs ≡ []
no_records [] are none = refl
no_records (r ∷ rs) are none =
    absurd (none_by r rs (length (r ∷ rs) == 0) (list_any (is_kind 0) (r ∷ rs)) refl (lacking ((length (r ∷ rs) == 0) || list_any (is_kind 0) (r ∷ rs)) (has_one (r ∷ rs) are.fit)) (none_meta 0 (r ∷ rs) none))
