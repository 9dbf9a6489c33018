use Rattle.std.proofs.Common.{◌≡◌, ◌∙◌, ◌+◌, ◌<◌, ◌≤◌, sym, ap, refl, subst, ℕ, List, [], ◌∷◌, ◌++◌, Ok, Err, Some, None, arith, length, drop, take, get_or, drop-cons, add-one}
use Rattle.std.proofs.lemmas.List.{length-append, length-take, drop_all}
use Rattle.csv_text.specs.Records.{AreRecordsOf, GivesNext}
use Rattle.table_files.specs.Settings.{settings, values_after, GivesValue, most_of, AreWithin}
use Rattle.table_files.specs.declared.faults.TableWhy.TheVariants as why
use Rattle.table_files.specs.declared.settings.Setting.{Setting}
use Rattle.table_files.specs.declared.settings.Setting.TheVariants as setting
use Rattle.table_files.proofs.SettingSteps.{good_value, bad_value, one_within, is_bad}
use Rattle.table_files.proofs.Steps.{at_start, one_more, no_more, some_left, one_tells}
use Rattle.table_files.proofs.WholeLaws.{parts}
use Rattle.table_files.proofs.settings.read_values.Goals as goal

cut : (xs : List Setting) (i : ℕ) (d : Setting) → i < length xs → drop i xs ≡ get_or xs i d ∷ drop (i + 1) xs
cut xs i d h = rw (add-one, drop-cons xs i d) refl

pub loop-setting-init : goal.loop-setting-init
loop-setting-init c = rw c.new-values.ensures (record { count = refl; within = tt; after = λ text earlier h. at_start text earlier (values_after [] settings) c.args.reader.now h })

pub loop-setting-preserved : goal.loop-setting-preserved
loop-setting-preserved c =
    let i = c.loop-setting.setting-index in
    let vs : List ℕ = c.loop-setting.values in
    let v : ℕ = c.in-Some.value in
    let s = get_or settings i setting.HoldMinutes in
    let left = drop (i + 1) settings in
    let within : i < length settings = c.loop-setting-test.true in
    let bound : v ≤ most_of s = rw c.in-Some.is at c.in_ok-value.ensures.bound in
    let whole = parts settings i setting.HoldMinutes within in
    let same_length : length vs ≡ length (take i settings) = omega (arith, c.loop-setting.invariant.count, length-take i settings, within) in
    let all : AreWithin vs (take i settings ++ s ∷ left) = subst (λ (ss : List Setting). AreWithin vs ss) whole c.loop-setting.invariant.within in
    rw c.in_ok-push-in-Some.ensures.ok (record {
      count = omega (arith, length-append vs (v ∷ []), c.loop-setting.invariant.count);
      within = subst (λ (ss : List Setting). AreWithin (vs ++ v ∷ []) ss) (sym whole) (one_within vs v (take i settings) left s same_length all bound);
      after = λ text earlier h.
          let a = c.loop-setting.invariant.after text earlier h in
          let g : GivesValue text (earlier ++ a.seen) s (Some v) c.next_value.new.reader = rw c.in-Some.is at (c.in_ok-value.ensures.value text (earlier ++ a.seen) a.given) in
          one_more text earlier (values_after [] settings) (values_after vs (drop i settings)) (values_after (vs ++ v ∷ []) left) c.loop-setting.reader c.next_value.new.reader g.0 a g.1
          (λ others. ap (λ ss. values_after vs ss (g.0 ∷ others)) (cut settings i setting.HoldMinutes within) ∙ good_value vs s left g.0 v others g.2);
    })

pub returns-in-None-clause-value : goal.returns-in-None-clause-value
returns-in-None-clause-value c = λ text earlier h.
    let i = c.loop-setting.setting-index in
    let vs : List ℕ = c.loop-setting.values in
    let s = get_or settings i setting.HoldMinutes in
    let left = drop (i + 1) settings in
    let a = c.loop-setting.invariant.after text earlier h in
    let g : GivesValue text (earlier ++ a.seen) s None c.next_value.new.reader = rw c.in-None.is at (c.in_ok-value.ensures.value text (earlier ++ a.seen) a.given) in
    let e = ap (λ ss. values_after vs ss g.0) (cut settings i setting.HoldMinutes c.loop-setting-test.true) ∙ bad_value vs s left g.0 g.2 in
    some_left text earlier (values_after [] settings) (values_after vs (drop i settings)) (Err c.bad_after.result) c.loop-setting.reader g.0 a g.1
    (is_bad why.BadField c.as_slice.result.now vs c.bad_after.result c.bad_after.ensures c.as_slice.ensures _ e)

pub returns-in-None-2-clause-value : goal.returns-in-None-2-clause-value
returns-in-None-2-clause-value c = λ text earlier h.
    let i = c.loop-setting.setting-index in
    let vs : List ℕ = c.loop-setting.values in
    let a = c.loop-setting.invariant.after text earlier h in
    let all : AreRecordsOf text (earlier ++ a.seen) = rw c.in-None-2.is at (c.in_ok-next.ensures.given text (earlier ++ a.seen) a.given) in
    no_more text earlier (values_after [] settings) (values_after vs (drop i settings)) (Ok vs) c.loop-setting.reader a all
    (ap (λ ss. values_after vs ss []) (drop_all i settings (omega (arith, c.loop-setting-test.false))))

pub returns-in-Some-2-clause-value : goal.returns-in-Some-2-clause-value
returns-in-Some-2-clause-value c = λ text earlier h.
    let i = c.loop-setting.setting-index in
    let vs : List ℕ = c.loop-setting.values in
    let first : List (List ℕ) = c.in-Some-2.field-0 in
    let a = c.loop-setting.invariant.after text earlier h in
    let given : GivesNext 0 text (earlier ++ a.seen) (Some first) c.next.new.self = rw c.in-Some-2.is at (c.in_ok-next.ensures.given text (earlier ++ a.seen) a.given) in
    one_tells text earlier (values_after [] settings) (values_after vs (drop i settings)) (Err c.bad_after-in-Some-2.result) c.loop-setting.reader c.next.new.self given.0 a given.1
    (λ others. is_bad why.OverLimit c.as_slice-in-Some-2.result.now vs c.bad_after-in-Some-2.result c.bad_after-in-Some-2.ensures c.as_slice-in-Some-2.ensures _
    (ap (λ ss. values_after vs ss (given.0 ∷ others)) (drop_all i settings (omega (arith, c.loop-setting-test.false)))))
