-- Of the keys of a line of shifts that are missing or whose value doesn't fit the least is named.
use Rattle.std.proofs.Common.{◌≡◌, inl, inr, ℕ, false, List, Option, None, Some, Result, nat_cmp, codes, refl, sym, ap, ◌∙◌, true≢false}
use Rattle.std.specs.Prelude.{is_some}
use Rattle.std.specs.Ordering.{is_gt}
use Rattle.std.specs.Cmp.Lexicographic.{slice_cmp}
use Rattle.serde_json.specs.Data.{Data}
use Rattle.serde_json.specs.Find.{get}
use Rattle.asks.specs.declared.bad_call.BadCall.{BadCall}
use Rattle.asks.specs.Fields.{short_at, moment_at}
use Rattle.desk_json.specs.declared.bad_call.CallFault.{CallFault}
use Rattle.desk_json.specs.declared.shifts.ShiftLine.{ShiftLine}
use Rattle.desk_json.specs.Keys.{and_then, found, is_key, is_shift_key, is_relief_key}
use Rattle.desk_json.specs.Faults.{object_at, request_at, line_with, Answers, IsUnreadNamed, NamesUnreadOf}
use Rattle.desk_json.specs.Shifts.{shift_object, desk_of, asked_fields, relief_fields, shift_fields, shift_or_fault, may_have, IsUnreadOfRelief, IsUnreadOfAsked, IsUnreadBy, IsUnreadOfShift}
use Rattle.desk_json.proofs.Results.{told}
use Rattle.desk_json.proofs.Unread.{here, past, flat, before, actor_of, ask_of, key_of, number_of, names}
use Rattle.desk_json.proofs.SenderLaws.{sender_here, sender_past}
use Rattle.desk_json.proofs.ShiftLaws.{maybe_given}

module _ (unread : Data → List ℕ → Type 0) (d : Data) (k : List ℕ) where
  abbrev Named : Result ShiftLine CallFault → Type 0
  Named r = IsUnreadNamed is_shift_key unread d k r

  module _ (at : (q : List ℕ) → IsUnreadOfAsked d q → unread d q) where
    -- the key comes after the first ones
    front_past : (rest : List ℕ → Data → ℕ → Result ShiftLine BadCall) → is_gt (slice_cmp nat_cmp (codes "actor") k) ≡ false → is_gt (slice_cmp nat_cmp (codes "ask") k) ≡ false
        → is_gt (slice_cmp nat_cmp (codes "at") k) ≡ false → ((actor : List ℕ) (ask : Data) (moment : ℕ) → Named (told (rest actor ask moment))) → Named (told (line_with d rest))
    front_past rest one two three next =
        past is_shift_key unread (codes "actor") k d (short_at (codes "actor") d) _ (λ e. at (codes "actor") (inr (inr (actor_of d e)))) one (λ actor.
        past is_shift_key unread (codes "ask") k d (object_at (codes "ask") d) _ (λ e. at (codes "ask") (inr (inr (ask_of d e)))) two (λ ask.
        past is_shift_key unread (codes "at") k d (moment_at (codes "at") d) _ (λ e. at (codes "at") (inr (inl (refl, e)))) three (λ moment. next actor ask moment)))

    -- so does what follows the desk
    desk_past : (f : Option (List ℕ) → Result ShiftLine BadCall) → is_gt (slice_cmp nat_cmp (codes "desk") k) ≡ false → ((desk : Option (List ℕ)) → Named (told (f desk))) → Named (told (and_then (desk_of d) f))
    desk_past f later next =
        maybe_given Named (codes "desk") d (get (codes "desk") d) (short_at (codes "desk") d) f (λ there none. inr (refl, at (codes "desk") (inl (there, (refl, none))), later)) (λ none. next None) (λ desk is. next (Some desk))

    asked_first : IsUnreadOfAsked d k → Named (told (asked_fields d))
    asked_first (inr (inr (inl (same, none)))) = here is_shift_key unread (codes "actor") k d (short_at (codes "actor") d) _ same none (at (codes "actor") (inr (inr (actor_of d none))))
    asked_first (inr (inr (inr (inr (inr (same, none)))))) =
        past is_shift_key unread (codes "actor") k d (short_at (codes "actor") d) _ (λ e. at (codes "actor") (inr (inr (actor_of d e)))) (before (codes "actor") (codes "ask") k same refl) (λ actor.
        here is_shift_key unread (codes "ask") k d (object_at (codes "ask") d) _ same none (at (codes "ask") (inr (inr (ask_of d none)))))
    asked_first (inr (inl (same, none))) =
        past is_shift_key unread (codes "actor") k d (short_at (codes "actor") d) _ (λ e. at (codes "actor") (inr (inr (actor_of d e)))) (before (codes "actor") (codes "at") k same refl) (λ actor.
        past is_shift_key unread (codes "ask") k d (object_at (codes "ask") d) _ (λ e. at (codes "ask") (inr (inr (ask_of d e)))) (before (codes "ask") (codes "at") k same refl) (λ ask.
        here is_shift_key unread (codes "at") k d (moment_at (codes "at") d) _ same none (at (codes "at") (inr (inl (refl, none))))))
    asked_first (inl (there, (same, none))) =
        front_past _ (before (codes "actor") (codes "desk") k same refl) (before (codes "ask") (codes "desk") k same refl) (before (codes "at") (codes "desk") k same refl) (λ actor ask moment.
        maybe_given Named (codes "desk") d (get (codes "desk") d) (short_at (codes "desk") d) _ (λ is e. inr (refl, at (codes "desk") (inl (is, (refl, e))), before (codes "desk") (codes "desk") k same refl))
        (λ missing. absurd (true≢false (sym there ∙ ap is_some missing))) (λ desk is. absurd (cc)))
    asked_first (inr (inr (inr (inl (same, none))))) =
        front_past _ (before (codes "actor") (codes "key") k same refl) (before (codes "ask") (codes "key") k same refl) (before (codes "at") (codes "key") k same refl) (λ actor ask moment.
        desk_past _ (before (codes "desk") (codes "key") k same refl) (λ desk.
        flat is_shift_key unread k d (found (codes "key") d (short_at (codes "key") d)) _ _
        (here is_shift_key unread (codes "key") k d (short_at (codes "key") d) _ same none (at (codes "key") (inr (inr (key_of d none)))))))
    asked_first (inr (inr (inr (inr (inl (same, none)))))) =
        front_past _ (before (codes "actor") (codes "number") k same refl) (before (codes "ask") (codes "number") k same refl) (before (codes "at") (codes "number") k same refl) (λ actor ask moment.
        desk_past _ (before (codes "desk") (codes "number") k same refl) (λ desk.
        flat is_shift_key unread k d (found (codes "key") d (short_at (codes "key") d)) _ _
        (past is_shift_key unread (codes "key") k d (short_at (codes "key") d) _ (λ e. at (codes "key") (inr (inr (key_of d e)))) (before (codes "key") (codes "number") k same refl) (λ key.
        flat is_shift_key unread k d (found (codes "number") d (request_at (codes "number") d)) _ _
        (here is_shift_key unread (codes "number") k d (request_at (codes "number") d) _ same none (at (codes "number") (inr (inr (number_of d none)))))))))

  relief_first : ((q : List ℕ) → IsUnreadOfRelief d q → unread d q) → IsUnreadOfRelief d k → IsUnreadNamed is_relief_key unread d k (told (relief_fields d))
  relief_first at (inr is) = sender_here is_relief_key unread d k _ (λ q u. at q (inr u)) is
  relief_first at (inl (same, none)) =
      sender_past is_relief_key unread d k _ (λ q u. at q (inr u)) (before (codes "actor") (codes "relief") k same refl) (before (codes "at") (codes "relief") k same refl) (before (codes "key") (codes "relief") k same refl) (λ s.
      here is_relief_key unread (codes "relief") k d (object_at (codes "relief") d) _ same none (at (codes "relief") (inl (refl, none))))

  fields_first : (o : Option Data) → ((q : List ℕ) → IsUnreadBy o d q → unread d q) → IsUnreadBy o d k → IsUnreadNamed (is_key (shift_object o)) unread d k (told (shift_fields o d))
  fields_first None at is = asked_first at is
  fields_first (Some relief) at is = relief_first at is

pub shift_unread : (text : List ℕ) (r : Result ShiftLine CallFault) → Answers (shift_or_fault text) r → NamesUnreadOf may_have IsUnreadOfShift text r
unfolding shift_or_fault
shift_unread text r is =
    names (λ d. shift_object (get (codes "relief") d)) IsUnreadOfShift (λ d. shift_fields (get (codes "relief") d) d) text r
    (λ d k none. fields_first IsUnreadOfShift d k (get (codes "relief") d) (λ q u. u) none) is
