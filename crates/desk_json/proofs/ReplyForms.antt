-- What is read of a reply has its forms, and the moments of such a reply can be shown.
use Rattle.std.proofs.Common.{◌≡◌, ℕ, ◌≤◌, ◌==◌, Bool, true, false, List, Option, None, Some, IfSome, codes, IsUtf8, refl, sym, subst, arith}
use Rattle.std.proofs.lemmas.Bool.{leb-true, leb-false}
use Rattle.std.specs.Prelude.{is_some, nat_le, if◌then◌else◌, option_and_then}
use Rattle.std.specs.List.{AllByRecursion}
use Rattle.serde_json.specs.Data.{Data}
use Rattle.serde_json.specs.Find.{get, as_str}
use Rattle.desk_time.specs.Digits.{◌>>=◌}
use Rattle.desk_time.specs.Limits.{last_moment, last_shown, IsMoment}
use Rattle.desk_time.specs.Moments.{minute_of, shown_of, up_to, written}
use Rattle.asks.specs.Ranges.{CanBeShown, RefusalHasMoment, ReplyHasMoment}
use Rattle.asks.specs.declared.reply.Reply.{Reply}
use Rattle.asks.specs.declared.reply.Reply.TheVariants.{Done, Seen, Refused}
use Rattle.asks.specs.declared.reply.Refusal.{Refusal}
use Rattle.asks.specs.declared.reply.Refusal.TheVariants.{UnknownActor, WrongKey, NotYourRole, NumberReused, BadReport, DayOutOfReach, ReportsFull, UnknownTail, NoSuchDeferral, NoSuchRelease, NotYours, BadPlan, NotPending, WrongRevision, WrongText, WeatherNewer, RuleFails, WrongPhase, AlreadySigned, NoSuchAlert, AlertMoved, TooYoung, ReleasesFull, HistoryFull, NoSuchStation, Unkept, NumberSwept, UnknownItem, BadFound, DeferralsFull}
use Rattle.asks.specs.Plain.{HasText}
use Rattle.asks.specs.Forms.{IsAmount, SaidDoneHasForms, IsSaidFinding}
use Rattle.asks.specs.Digests.{digest_at, IsDigest}
use Rattle.asks.specs.Dones.{said_done_of}
use Rattle.asks.specs.Fields.{text_at, number_at, amount_at, list_at, each_read}
use Rattle.desk_time.proofs.Chains.{bind_if, bind_any, then_if, under, either}
use Rattle.asks.proofs.DoneForms.{digest_is, done_formed}
use Rattle.asks.proofs.MomentRange.{minute_within}
use Rattle.asks.proofs.PlanForms.{number_formed, amount_formed, each_formed}
use Rattle.compact_json.specs.Kept.{data_of}
use Rattle.asks.proofs.DocumentTexts.{data_has_text}
use Rattle.asks.proofs.ValueTexts.{text_formed}
use Rattle.release_json.specs.Findings.{said_finding_of}
use Rattle.release_json.specs.Phases.{phase_of, IsPhase}
use Rattle.release_json.proofs.FindingLaws.{finding_formed}
use Rattle.release_json.proofs.PhaseLaws.{phase_formed}
use Rattle.desk_json.specs.ReadReplies.{wide_at, shown_at, why_of, plan_why_of, plain_of, counted_of, bad_report_of, bad_plan_of, wrong_phase_of, history_full_of, fixed_of, not_yours_of, finding_in, rule_fails_of, refusal_of, done_in, seen_in, refused_in, reply_of, IsWide, RefusalHasForms, ReplyHasForms}
use Rattle.std.proofs.lemmas.Option.{IfSome_then}
use Rattle.release_json.proofs.ReleaseForms.{moment_of_phase}

-- ---- fields

wide_formed : (key : List ℕ) (d : Data) → IfSome (wide_at key d) IsWide
wide_formed key d = number_formed key 18_446_744_073_709_551_615 d

-- A moment that is read up to 2099 lies from 2000 on; a later one does too.
late_enough : (b : Bool) (at : ℕ) → nat_le at last_moment ≡ b → IfSome (if b then Some at else None) IsMoment → IfSome (up_to last_shown at) CanBeShown
late_enough true at within is = under (nat_le at last_shown) (Some at) CanBeShown (λ shown. (is.0, leb-true at last_shown shown))
late_enough false at within is =
    let later = leb-false at last_moment within in
    under (nat_le at last_shown) (Some at) CanBeShown (λ shown. (omega (arith, later), leb-true at last_shown shown))

shown_from : (o : Option ℕ) → IfSome (o >>= up_to last_moment) IsMoment → IfSome (o >>= up_to last_shown) CanBeShown
shown_from None is = tt
shown_from (Some at) is = late_enough (nat_le at last_moment) at refl is

shown_within : (text : List ℕ) → IfSome (shown_of text) CanBeShown
unfolding shown_of minute_of
shown_within text = shown_from (written text) (minute_within text)

shown_formed : (key : List ℕ) (d : Data) → IfSome (shown_at key d) CanBeShown
shown_formed key d = then_if shown_of (text_at key d) CanBeShown shown_within

-- ---- refusals

plain_formed : (n : ℕ) → IfSome (plain_of n) RefusalHasForms
plain_formed n =
    either (n == 1) (Some UnknownActor) _ RefusalHasForms tt
    (either (n == 2) (Some WrongKey) _ RefusalHasForms tt
    (either (n == 3) (Some NotYourRole) _ RefusalHasForms tt
    (either (n == 8) (Some UnknownTail) _ RefusalHasForms tt
    (either (n == 9) (Some NoSuchDeferral) _ RefusalHasForms tt
    (either (n == 10) (Some NoSuchRelease) _ RefusalHasForms tt
    (either (n == 19) (Some AlreadySigned) _ RefusalHasForms tt
    (either (n == 20) (Some NoSuchAlert) _ RefusalHasForms tt
    (either (n == 25) (Some NoSuchStation) _ RefusalHasForms tt
    (under (n == 28) (Some UnknownItem) RefusalHasForms (λ is. tt))))))))))

-- a number of 64 bits alone
one_formed : (key : List ℕ) (d : Data) (make : ℕ → Refusal) → ((n : ℕ) → IsWide n → RefusalHasForms (make n)) → IfSome (wide_at key d >>= λ n. Some (make n)) RefusalHasForms
one_formed key d make each = bind_if (wide_at key d) _ IsWide RefusalHasForms (wide_formed key d) each

counted_formed : (n : ℕ) (d : Data) → IfSome (counted_of n d) RefusalHasForms
counted_formed n d =
    either (n == 4) (wide_at (codes "kept") d >>= λ n. Some (NumberReused n)) _ RefusalHasForms (one_formed (codes "kept") d (λ n. NumberReused n) (λ n few. few))
    (either (n == 7) (wide_at (codes "held") d >>= λ n. Some (ReportsFull n)) _ RefusalHasForms (one_formed (codes "held") d (λ n. ReportsFull n) (λ n few. few))
    (either (n == 14) (wide_at (codes "current") d >>= λ n. Some (WrongRevision n)) _ RefusalHasForms (one_formed (codes "current") d (λ n. WrongRevision n) (λ n few. few))
    (either (n == 16) (wide_at (codes "report") d >>= λ n. Some (WeatherNewer n)) _ RefusalHasForms (one_formed (codes "report") d (λ n. WeatherNewer n) (λ n few. few))
    (either (n == 21) (wide_at (codes "version") d >>= λ n. Some (AlertMoved n)) _ RefusalHasForms (one_formed (codes "version") d (λ n. AlertMoved n) (λ n few. few))
    (either (n == 23) (wide_at (codes "held") d >>= λ n. Some (ReleasesFull n)) _ RefusalHasForms (one_formed (codes "held") d (λ n. ReleasesFull n) (λ n few. few))
    (either (n == 26) (wide_at (codes "faults") d >>= λ n. Some (Unkept n)) _ RefusalHasForms (one_formed (codes "faults") d (λ n. Unkept n) (λ n few. few))
    (either (n == 27) (wide_at (codes "floor") d >>= λ n. Some (NumberSwept n)) _ RefusalHasForms (one_formed (codes "floor") d (λ n. NumberSwept n) (λ n few. few))
    (either (n == 30) (wide_at (codes "held") d >>= λ n. Some (DeferralsFull n)) _ RefusalHasForms (one_formed (codes "held") d (λ n. DeferralsFull n) (λ n few. few))
    (plain_formed n)))))))))

bad_report_formed : (d : Data) → IfSome (bad_report_of d) RefusalHasForms
bad_report_formed d =
    bind_if (amount_at (codes "group") d) _ IsAmount RefusalHasForms (amount_formed (codes "group") d) (λ group few.
    bind_any (option_and_then why_of (text_at (codes "what") d)) _ RefusalHasForms (λ what. few))

bad_plan_formed : (d : Data) → IfSome (bad_plan_of d) RefusalHasForms
bad_plan_formed d =
    bind_if (amount_at (codes "leg") d) _ IsAmount RefusalHasForms (amount_formed (codes "leg") d) (λ leg few.
    bind_any (option_and_then plan_why_of (text_at (codes "what") d)) _ RefusalHasForms (λ what. few))

wrong_phase_formed : (d : Data) → IfSome (wrong_phase_of d) RefusalHasForms
wrong_phase_formed d =
    bind_if (option_and_then phase_of (text_at (codes "phase") d)) _ IsPhase RefusalHasForms (then_if phase_of (text_at (codes "phase") d) IsPhase phase_formed) (λ phase is. is)

history_full_formed : (d : Data) → IfSome (history_full_of d) RefusalHasForms
history_full_formed d =
    bind_if (wide_at (codes "entries") d) _ IsWide RefusalHasForms (wide_formed (codes "entries") d) (λ entries one.
    bind_if (wide_at (codes "kept") d) _ IsWide RefusalHasForms (wide_formed (codes "kept") d) (λ kept two.
    bind_if (wide_at (codes "events") d) _ IsWide RefusalHasForms (wide_formed (codes "events") d) (λ events three. (one, two, three))))

fixed_formed : (n : ℕ) (d : Data) → IfSome (fixed_of n d) RefusalHasForms
fixed_formed n d =
    either (n == 5) (bad_report_of d) _ RefusalHasForms (bad_report_formed d)
    (either (n == 6) (amount_at (codes "group") d >>= λ group. Some (DayOutOfReach group)) _ RefusalHasForms (bind_if (amount_at (codes "group") d) _ IsAmount RefusalHasForms (amount_formed (codes "group") d) (λ group few. few))
    (either (n == 12) (bad_plan_of d) _ RefusalHasForms (bad_plan_formed d)
    (either (n == 13) (number_at (codes "stage") 255 d >>= λ stage. Some (NotPending stage)) _ RefusalHasForms (bind_if (number_at (codes "stage") 255 d) _ (λ stage. stage ≤ 255) RefusalHasForms (number_formed (codes "stage") 255 d) (λ stage few. few))
    (either (n == 15) (digest_at (codes "digest") d >>= λ digest. Some (WrongText digest)) _ RefusalHasForms (bind_if (digest_at (codes "digest") d) _ IsDigest RefusalHasForms (digest_is (codes "digest") d) (λ digest is. is))
    (either (n == 18) (wrong_phase_of d) _ RefusalHasForms (wrong_phase_formed d)
    (either (n == 22) (shown_at (codes "until") d >>= λ until. Some (TooYoung until)) _ RefusalHasForms (bind_if (shown_at (codes "until") d) _ CanBeShown RefusalHasForms (shown_formed (codes "until") d) (λ until is. is))
    (either (n == 24) (history_full_of d) _ RefusalHasForms (history_full_formed d)
    (either (n == 29) (shown_at (codes "now") d >>= λ moment. Some (BadFound moment)) _ RefusalHasForms (bind_if (shown_at (codes "now") d) _ CanBeShown RefusalHasForms (shown_formed (codes "now") d) (λ moment is. is))
    (counted_formed n d)))))))))

not_yours_formed : (d : Data) → HasText d → IfSome (not_yours_of d) RefusalHasForms
not_yours_formed d has = bind_if (text_at (codes "holder") d) _ IsUtf8 RefusalHasForms (text_formed (codes "holder") d has) (λ holder is. is)

finding_in_formed : (d : Data) → IfSome (finding_in d) IsSaidFinding
finding_in_formed d = then_if said_finding_of (as_str d) IsSaidFinding (finding_formed 18_446_744_073_709_551_615)

rule_fails_formed : (d : Data) → IfSome (rule_fails_of d) RefusalHasForms
rule_fails_formed d =
    bind_any (list_at (codes "findings") d) _ RefusalHasForms (λ items.
    bind_if (each_read finding_in items) _ (AllByRecursion IsSaidFinding) RefusalHasForms (each_formed IsSaidFinding finding_in finding_in_formed items) (λ findings all. all))

refusal_formed : (n : ℕ) (d : Data) → HasText d → IfSome (refusal_of n d) RefusalHasForms
refusal_formed n d has =
    either (n == 11) (not_yours_of d) _ RefusalHasForms (not_yours_formed d has)
    (either (n == 17) (rule_fails_of d) _ RefusalHasForms (rule_fails_formed d) (fixed_formed n d))

-- ---- replies

done_in_formed : (d : Data) → IfSome (done_in d) ReplyHasForms
done_in_formed d =
    bind_if (option_and_then said_done_of (get (codes "done") d)) _ SaidDoneHasForms ReplyHasForms (then_if said_done_of (get (codes "done") d) SaidDoneHasForms (done_formed 18_446_744_073_709_551_615 18_446_744_073_709_551_615)) (λ done is. is)

seen_in_formed : (d : Data) → HasText d → IfSome (seen_in d) ReplyHasForms
seen_in_formed d has = bind_if (text_at (codes "seen") d) _ IsUtf8 ReplyHasForms (text_formed (codes "seen") d has) (λ text is. is)

refused_in_formed : (d : Data) → HasText d → IfSome (refused_in d) ReplyHasForms
refused_in_formed d has =
    bind_any (wide_at (codes "refused") d) _ ReplyHasForms (λ n.
    bind_if (refusal_of n d) _ RefusalHasForms ReplyHasForms (refusal_formed n d has) (λ refusal is. is))

pub reply_formed : (d : Data) → HasText d → IfSome (reply_of d) ReplyHasForms
reply_formed d has =
    either (is_some (get (codes "done") d)) (done_in d) _ ReplyHasForms (done_in_formed d)
    (either (is_some (get (codes "seen") d)) (seen_in d) _ ReplyHasForms (seen_in_formed d has) (refused_in_formed d has))

-- ---- moments

refusal_shown : (r : Refusal) → RefusalHasForms r → RefusalHasMoment r
refusal_shown UnknownActor is = tt
refusal_shown WrongKey is = tt
refusal_shown NotYourRole is = tt
refusal_shown (NumberReused kept) is = tt
refusal_shown (BadReport group what) is = tt
refusal_shown (DayOutOfReach group) is = tt
refusal_shown (ReportsFull held) is = tt
refusal_shown UnknownTail is = tt
refusal_shown NoSuchDeferral is = tt
refusal_shown NoSuchRelease is = tt
refusal_shown (NotYours holder) is = tt
refusal_shown (BadPlan leg what) is = tt
refusal_shown (NotPending stage) is = tt
refusal_shown (WrongRevision current) is = tt
refusal_shown (WrongText digest) is = tt
refusal_shown (WeatherNewer report) is = tt
refusal_shown (RuleFails findings) is = tt
refusal_shown (WrongPhase phase) is = moment_of_phase phase is
refusal_shown AlreadySigned is = tt
refusal_shown NoSuchAlert is = tt
refusal_shown (AlertMoved version) is = tt
refusal_shown (TooYoung until) is = is
refusal_shown (ReleasesFull held) is = tt
refusal_shown (HistoryFull entries kept events) is = tt
refusal_shown NoSuchStation is = tt
refusal_shown (Unkept faults) is = tt
refusal_shown (NumberSwept floor) is = tt
refusal_shown UnknownItem is = tt
refusal_shown (BadFound moment) is = is
refusal_shown (DeferralsFull held) is = tt

reply_shown : (r : Reply) → ReplyHasForms r → ReplyHasMoment r
reply_shown (Done done) is = tt
reply_shown (Seen text) is = tt
reply_shown (Refused refusal) is = refusal_shown refusal is

-- ---- what is read of boxes

pub box_forms : (bytes : List ℕ) (read : Option Reply) → read ≡ reply_of (data_of bytes) → IfSome read ReplyHasForms
box_forms bytes read is = subst (λ (o : Option Reply). IfSome o ReplyHasForms) (sym is) (reply_formed (data_of bytes) (data_has_text bytes))

pub box_shown : (bytes : List ℕ) (read : Option Reply) → read ≡ reply_of (data_of bytes) → IfSome read ReplyHasMoment
box_shown bytes read is = IfSome_then read (box_forms bytes read is) reply_shown
