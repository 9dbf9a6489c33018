-- A text that is read is the shown text of its moment.
use Rattle.std.proofs.Common.{◌≡◌, ℕ, ◌+◌, ◌-◌, ◌*◌, ◌/◌, ◌%◌, ◌<◌, ◌≤◌, ◌&&◌, nat_le, nat_lt, Bool, true, false, cond, pos, ◌==◌, Option, Some, None, List, [], ◌∷◌, refl, sym, ◌∙◌, ap, subst, arith}
use Rattle.std.proofs.lemmas.Bool.{leb-true, ltb-true, eqb-true, and_parts}
use Rattle.jiff_core.proofs.SignedLemmas.{signed_arith}
use Rattle.jiff_core.specs.Calendar.{days_in_month}
use Rattle.jiff_core.specs.declared.civil.date.Date.{Date}
use Rattle.desk_time.specs.Calendar.{civil_of, day_number, day_at, is_date}
use Rattle.desk_time.specs.Digits.{digit, pair, ◌>>=◌}
use Rattle.desk_time.specs.Moments.{shown, date_at, time_at, time_of, written, up_to, minute_of, shown_of}
use Rattle.desk_time.proofs.CalendarLaws.{day_number-count, days_are, date_is}

abbrev Missing : Option ℕ → Type 0
Missing None = Unit {0}
Missing (Some x) = ⊥

none_is_some : (m : ℕ) → None ≡ Some m → ⊥
none_is_some m e = subst Missing e tt

abbrev the : Option ℕ → ℕ
the None = 0
the (Some x) = x

-- a chain that found something found it at each step
found : (o : Option ℕ) (f : ℕ → Option ℕ) (m : ℕ) → (o >>= f) ≡ Some m → (x : ℕ) × (o ≡ Some x) × (f x ≡ Some m)
found None f m e = absurd (none_is_some m e)
found (Some x) f m e = (x, refl, e)

tested : (b : Bool) (x m : ℕ) → cond b (Some x) None ≡ Some m → (b ≡ true) × (x ≡ m)
tested true x m e = (refl, ap the e)
tested false x m e = absurd (none_is_some m e)

digit_is : (a x : ℕ) → digit a ≡ Some x → (a ≡ 48 + x) × (x ≤ 9)
digit_is a x e =
    let t = tested (nat_le 48 a && nat_le a 57) (a - 48) x e in
    let s = and_parts (nat_le 48 a) (nat_le a 57) t.0 in
    let l = leb-true 48 a s.0 in
    let h = leb-true a 57 s.1 in
    let x_is = t.1 in
    (omega (arith, l, x_is), omega (arith, h, x_is))

pair_is : (a b n : ℕ) → pair a b ≡ Some n → (a ≡ 48 + n / 10) × (b ≡ 48 + n % 10) × (n ≤ 99)
pair_is a b n e =
    let tens = found (digit a) (λ t. digit b >>= (λ o. Some (10 * t + o))) n e in
    let ones = found (digit b) (λ o. Some (10 * tens.0 + o)) n tens.2 in
    let t = digit_is a tens.0 tens.1 in
    let o = digit_is b ones.0 ones.1 in
    let is : 10 * tens.0 + ones.0 ≡ n = ap the ones.2 in
    (omega (arith, is, t.0, t.1, o.1), omega (arith, is, o.0, o.1, t.1), omega (arith, is, t.1, o.1))

-- the date that a day has, where the day is that date's
day_is : (y m d day : ℕ) → day_at y m d ≡ Some day → day ≤ 60_000
    → ((civil_of day).year ≡ y) × ((civil_of day).month ≡ m) × ((civil_of day).day ≡ d)
unfolding day_at
day_is y m d day e small =
    let t = tested (is_date y m d) (day_number y m d) day e in
    let s1 = and_parts (nat_le 2000 y && nat_le y 9999 && nat_le 1 m && nat_le m 12 && nat_le 1 d) (nat_le d (days_in_month (pos y) m)) t.0 in
    let s2 = and_parts (nat_le 2000 y && nat_le y 9999 && nat_le 1 m && nat_le m 12) (nat_le 1 d) s1.0 in
    let s3 = and_parts (nat_le 2000 y && nat_le y 9999 && nat_le 1 m) (nat_le m 12) s2.0 in
    let s4 = and_parts (nat_le 2000 y && nat_le y 9999) (nat_le 1 m) s3.0 in
    let s5 = and_parts (nat_le 2000 y) (nat_le y 9999) s4.0 in
    let yl = leb-true 2000 y s5.0 in
    let yh = leb-true y 9999 s5.1 in
    let ml = leb-true 1 m s4.1 in
    let mh = leb-true m 12 s3.1 in
    let dl = leb-true 1 d s2.1 in
    let dh = leb-true d (days_in_month (pos y) m) s1.1 in
    let number = t.1 in
    let counted = day_number-count y m d (omega (arith, yl)) dl in
    let date : Date = record { year = pos y; month = m; day = d; year_in = (omega (arith, signed_arith, yl), omega (arith, signed_arith, yh)); month_in = (ml, mh); day_in = (dl, dh) } in
    let same = date_is date day small (days_are (pos y) m d day (omega (arith, counted, number))) in
    let y_is = same.0 in
    (omega (arith, signed_arith, y_is), sym same.1, sym same.2)

pub record IsDateText (day a b c d e f g h : ℕ) : Type 0 where
  pub a_is : a ≡ 48 + (civil_of day).year / 100 / 10
  pub b_is : b ≡ 48 + (civil_of day).year / 100 % 10
  pub c_is : c ≡ 48 + (civil_of day).year % 100 / 10
  pub d_is : d ≡ 48 + (civil_of day).year % 100 % 10
  pub e_is : e ≡ 48 + (civil_of day).month / 10
  pub f_is : f ≡ 48 + (civil_of day).month % 10
  pub g_is : g ≡ 48 + (civil_of day).day / 10
  pub h_is : h ≡ 48 + (civil_of day).day % 10

date_text_is : (a b c d e f g h day : ℕ) → date_at (a ∷ b ∷ c ∷ d ∷ e ∷ f ∷ g ∷ h ∷ []) ≡ Some day → day ≤ 60_000 → IsDateText day a b c d e f g h
date_text_is a b c d e f g h day is small =
    let century = found (pair a b) (λ n. pair c d >>= (λ y. pair e f >>= (λ m. pair g h >>= (λ k. day_at (100 * n + y) m k)))) day is in
    let year = found (pair c d) (λ y. pair e f >>= (λ m. pair g h >>= (λ k. day_at (100 * century.0 + y) m k))) day century.2 in
    let month = found (pair e f) (λ m. pair g h >>= (λ k. day_at (100 * century.0 + year.0) m k)) day year.2 in
    let date = found (pair g h) (λ k. day_at (100 * century.0 + year.0) month.0 k) day month.2 in
    let p = pair_is a b century.0 century.1 in
    let q = pair_is c d year.0 year.1 in
    let r = pair_is e f month.0 month.1 in
    let s = pair_is g h date.0 date.1 in
    let civil = day_is (100 * century.0 + year.0) month.0 date.0 day date.2 small in
    let y = civil.0 in
    record {
      a_is = omega (arith, p.0, q.2, y);
      b_is = omega (arith, p.1, q.2, y);
      c_is = omega (arith, q.0, q.2, y);
      d_is = omega (arith, q.1, q.2, y);
      e_is = rw civil.1 r.0;
      f_is = rw civil.1 r.1;
      g_is = rw civil.2 s.0;
      h_is = rw civil.2 s.1;
    }

time_of_is : (hour minute time : ℕ) → time_of hour minute ≡ Some time → (hour < 24) × (minute < 60) × (time ≡ 60 * hour + minute)
time_of_is hour minute time e =
    let t = tested (nat_lt hour 24 && nat_lt minute 60) (60 * hour + minute) time e in
    let s = and_parts (nat_lt hour 24) (nat_lt minute 60) t.0 in
    (ltb-true hour 24 s.0, ltb-true minute 60 s.1, sym t.1)

pub record IsTimeText (time i j k l : ℕ) : Type 0 where
  pub i_is : i ≡ 48 + time / 60 / 10
  pub j_is : j ≡ 48 + time / 60 % 10
  pub k_is : k ≡ 48 + time % 60 / 10
  pub l_is : l ≡ 48 + time % 60 % 10
  pub within : time < 1440

time_text_is : (i j k l time : ℕ) → time_at (i ∷ j ∷ k ∷ l ∷ []) ≡ Some time → IsTimeText time i j k l
time_text_is i j k l time is =
    let hour = found (pair i j) (λ n. pair k l >>= (λ m. time_of n m)) time is in
    let minute = found (pair k l) (λ m. time_of hour.0 m) time hour.2 in
    let p = pair_is i j hour.0 hour.1 in
    let q = pair_is k l minute.0 minute.1 in
    let t = time_of_is hour.0 minute.0 time minute.2 in
    record {
      i_is = omega (arith, p.0, t.0, t.1, t.2);
      j_is = omega (arith, p.1, t.0, t.1, t.2);
      k_is = omega (arith, q.0, t.0, t.1, t.2);
      l_is = omega (arith, q.1, t.0, t.1, t.2);
      within = omega (arith, t.0, t.1, t.2);
    }

text_is_shown : (a b c d e f g h i j k l day time m : ℕ) → date_at (a ∷ b ∷ c ∷ d ∷ e ∷ f ∷ g ∷ h ∷ []) ≡ Some day → time_at (i ∷ j ∷ k ∷ l ∷ []) ≡ Some time → day ≤ 60_000 → 1440 * day + time ≡ m
    → (a ∷ b ∷ c ∷ d ∷ 45 ∷ e ∷ f ∷ 45 ∷ g ∷ h ∷ 84 ∷ i ∷ j ∷ 58 ∷ k ∷ l ∷ 90 ∷ []) ≡ shown m
text_is_shown a b c d e f g h i j k l day time m is at small sum =
    let date = date_text_is a b c d e f g h day is small in
    let clock = time_text_is i j k l time at in
    let day_is_again : m / 1440 ≡ day = omega (arith, clock.within, sum) in
    let time_is_again : m % 1440 ≡ time = omega (arith, clock.within, sum) in
    rw (day_is_again, time_is_again, date.a_is, date.b_is, date.c_is, date.d_is, date.e_is, date.f_is, date.g_is, date.h_is, clock.i_is, clock.j_is, clock.k_is, clock.l_is) refl

chosen : (b : Bool) (o : Option ℕ) (m : ℕ) → cond b o None ≡ Some m → (b ≡ true) × (o ≡ Some m)
chosen true o m e = (refl, e)
chosen false o m e = absurd (none_is_some m e)

-- the signs between the numbers of a text
pub record AreSigns (m1 m2 m3 m4 m5 : ℕ) : Type 0 where
  pub first : m1 ≡ 45
  pub second : m2 ≡ 45
  pub third : m3 ≡ 84
  pub fourth : m4 ≡ 58
  pub fifth : m5 ≡ 90

signs_are : (m1 m2 m3 m4 m5 : ℕ) → ((m1 == 45) && (m2 == 45) && (m3 == 84) && (m4 == 58) && (m5 == 90)) ≡ true → AreSigns m1 m2 m3 m4 m5
signs_are m1 m2 m3 m4 m5 e =
    let s1 = and_parts ((m1 == 45) && (m2 == 45) && (m3 == 84) && (m4 == 58)) (m5 == 90) e in
    let s2 = and_parts ((m1 == 45) && (m2 == 45) && (m3 == 84)) (m4 == 58) s1.0 in
    let s3 = and_parts ((m1 == 45) && (m2 == 45)) (m3 == 84) s2.0 in
    let s4 = and_parts (m1 == 45) (m2 == 45) s3.0 in
    record {
      first = eqb-true m1 45 s4.0;
      second = eqb-true m2 45 s4.1;
      third = eqb-true m3 84 s3.1;
      fourth = eqb-true m4 58 s2.1;
      fifth = eqb-true m5 90 s1.1;
    }

-- a text that is read is what is shown of its moment
written_is_shown : (text : List ℕ) (m : ℕ) → written text ≡ Some m → m ≤ 69_000_000 → text ≡ shown m
unfolding written
written_is_shown [] m is small = absurd (none_is_some m is)
written_is_shown (a ∷ []) m is small = absurd (none_is_some m is)
written_is_shown (a ∷ b ∷ []) m is small = absurd (none_is_some m is)
written_is_shown (a ∷ b ∷ c ∷ []) m is small = absurd (none_is_some m is)
written_is_shown (a ∷ b ∷ c ∷ d ∷ []) m is small = absurd (none_is_some m is)
written_is_shown (a ∷ b ∷ c ∷ d ∷ m1 ∷ []) m is small = absurd (none_is_some m is)
written_is_shown (a ∷ b ∷ c ∷ d ∷ m1 ∷ e ∷ []) m is small = absurd (none_is_some m is)
written_is_shown (a ∷ b ∷ c ∷ d ∷ m1 ∷ e ∷ f ∷ []) m is small = absurd (none_is_some m is)
written_is_shown (a ∷ b ∷ c ∷ d ∷ m1 ∷ e ∷ f ∷ m2 ∷ []) m is small = absurd (none_is_some m is)
written_is_shown (a ∷ b ∷ c ∷ d ∷ m1 ∷ e ∷ f ∷ m2 ∷ g ∷ []) m is small = absurd (none_is_some m is)
written_is_shown (a ∷ b ∷ c ∷ d ∷ m1 ∷ e ∷ f ∷ m2 ∷ g ∷ h ∷ []) m is small = absurd (none_is_some m is)
written_is_shown (a ∷ b ∷ c ∷ d ∷ m1 ∷ e ∷ f ∷ m2 ∷ g ∷ h ∷ m3 ∷ []) m is small = absurd (none_is_some m is)
written_is_shown (a ∷ b ∷ c ∷ d ∷ m1 ∷ e ∷ f ∷ m2 ∷ g ∷ h ∷ m3 ∷ i ∷ []) m is small = absurd (none_is_some m is)
written_is_shown (a ∷ b ∷ c ∷ d ∷ m1 ∷ e ∷ f ∷ m2 ∷ g ∷ h ∷ m3 ∷ i ∷ j ∷ []) m is small = absurd (none_is_some m is)
written_is_shown (a ∷ b ∷ c ∷ d ∷ m1 ∷ e ∷ f ∷ m2 ∷ g ∷ h ∷ m3 ∷ i ∷ j ∷ m4 ∷ []) m is small = absurd (none_is_some m is)
written_is_shown (a ∷ b ∷ c ∷ d ∷ m1 ∷ e ∷ f ∷ m2 ∷ g ∷ h ∷ m3 ∷ i ∷ j ∷ m4 ∷ k ∷ []) m is small = absurd (none_is_some m is)
written_is_shown (a ∷ b ∷ c ∷ d ∷ m1 ∷ e ∷ f ∷ m2 ∷ g ∷ h ∷ m3 ∷ i ∷ j ∷ m4 ∷ k ∷ l ∷ []) m is small = absurd (none_is_some m is)
written_is_shown (a ∷ b ∷ c ∷ d ∷ m1 ∷ e ∷ f ∷ m2 ∷ g ∷ h ∷ m3 ∷ i ∷ j ∷ m4 ∷ k ∷ l ∷ m5 ∷ []) m is small =
    let at_signs = chosen ((m1 == 45) && (m2 == 45) && (m3 == 84) && (m4 == 58) && (m5 == 90)) (date_at (a ∷ b ∷ c ∷ d ∷ e ∷ f ∷ g ∷ h ∷ []) >>= (λ day. time_at (i ∷ j ∷ k ∷ l ∷ []) >>= (λ time. Some (1440 * day + time)))) m is in
    let day = found (date_at (a ∷ b ∷ c ∷ d ∷ e ∷ f ∷ g ∷ h ∷ [])) (λ day. time_at (i ∷ j ∷ k ∷ l ∷ []) >>= (λ time. Some (1440 * day + time))) m at_signs.1 in
    let time = found (time_at (i ∷ j ∷ k ∷ l ∷ [])) (λ time. Some (1440 * day.0 + time)) m day.2 in
    let sum : 1440 * day.0 + time.0 ≡ m = ap the {x = Some (1440 * day.0 + time.0)} time.2 in
    let signs = signs_are m1 m2 m3 m4 m5 at_signs.0 in
    rw (signs.first, signs.second, signs.third, signs.fourth, signs.fifth)
    (text_is_shown a b c d e f g h i j k l day.0 time.0 m day.1 time.1 (omega (arith, sum, small)) sum)
written_is_shown (a ∷ b ∷ c ∷ d ∷ m1 ∷ e ∷ f ∷ m2 ∷ g ∷ h ∷ m3 ∷ i ∷ j ∷ m4 ∷ k ∷ l ∷ m5 ∷ n ∷ more) m is small = absurd (none_is_some m is)

reached_is_shown : (last : ℕ) (text : List ℕ) (m : ℕ) → (written text >>= up_to last) ≡ Some m → last ≤ 69_000_000 → text ≡ shown m
reached_is_shown last text m is few =
    let at = found (written text) (up_to last) m is in
    let within = tested (nat_le at.0 last) at.0 m at.2 in
    let small = leb-true at.0 last within.0 in
    let same = within.1 in
    written_is_shown text m (at.1 ∙ ap (λ (n : ℕ). Some n) same) (omega (arith, small, same))

pub minute_is_shown : (text : List ℕ) (m : ℕ) → minute_of text ≡ Some m → text ≡ shown m
unfolding minute_of
minute_is_shown text m is = reached_is_shown 68_374_079 text m is (omega arith)

pub shown_is_shown : (text : List ℕ) (m : ℕ) → shown_of text ≡ Some m → text ≡ shown m
unfolding shown_of
shown_is_shown text m is = reached_is_shown 69_000_000 text m is (omega arith)
