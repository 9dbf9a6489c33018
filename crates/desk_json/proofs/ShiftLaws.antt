-- Lines of shifts: which texts are read, which key is named, that what is read has its forms and is read again.
use Rattle.std.proofs.Common.{◌≡◌, ℕ, Bool, true, false, if◌then◌else◌, List, Option, None, Some, IfSome, IfOk, Result, Ok, Err, codes, refl, ap, ◌∙◌, subst}
use Rattle.std.specs.Prelude.{is_some}
use Rattle.std.specs.Str.{bytes_eq}
use Rattle.std.proofs.lemmas.Slice.Eq.{bytes_eq-Decides}
use Rattle.serde_json.specs.Data.{Data}
use Rattle.serde_json.specs.Find.{get, as_object}
use Rattle.asks.specs.declared.bad_call.BadCall.{BadCall}
use Rattle.asks.specs.declared.call.Call.{Call}
use Rattle.asks.specs.Fields.{data_of, short_at, moment_at}
use Rattle.asks.specs.Forms.{IsShort, CallHasForms}
use Rattle.asks.specs.Plain.{HasText}
use Rattle.asks.proofs.Again.{small_again, short_again, moment_again}
use Rattle.asks.proofs.DocumentTexts.{data_has_text}
use Rattle.asks.proofs.ValueTexts.{found_has_text, short_formed}
use Rattle.compact_json.specs.Kept as kept
use Rattle.desk_json.specs.declared.bad_call.CallFault.{CallFault}
use Rattle.desk_json.specs.declared.bad_call.CallFault.TheVariants as fault
use Rattle.desk_json.specs.declared.keys.DealKind.{DealKind}
use Rattle.desk_json.specs.declared.keys.DealKind.TheVariants as kind
use Rattle.desk_json.specs.declared.keys.Object.TheVariants as of
use Rattle.desk_json.specs.declared.shifts.Deal.{Deal}
use Rattle.desk_json.specs.declared.shifts.Deal.TheVariants.{Offer, Accept}
use Rattle.desk_json.specs.declared.shifts.ShiftLine.{ShiftLine}
use Rattle.desk_json.specs.declared.shifts.ShiftLine.TheVariants.{Asked, Relief}
use Rattle.desk_json.specs.Keys.{bad, lack, and_then, found, is_key, is_shift_key, is_relief_key, only_keys}
use Rattle.desk_json.specs.Faults.{object_at, call_by, sent_by, read_as, Answers, NamesExtraOf}
use Rattle.desk_json.specs.Calls.{HasOnly, HasCall, IsFound}
use Rattle.desk_json.specs.Shifts.{deal_kind_of, deal_of_kind, deal_or_fault, shift_object, maybe, desk_of, asked_fields, relief_fields, shift_fields, shift_in, shift_or_fault, may_have, HasDeal, HasDesk, HasShift, IsShiftOf, deal_data, shift_data, DealHasForms, ShiftHasForms, IsShiftAgain}
use Rattle.desk_json.proofs.Results.{told, answered, gives, chain, after, formed, formed_after, passed, passed_after}
use Rattle.desk_json.proofs.Members.{only_found, only_passed}
use Rattle.desk_json.proofs.Formed.{short_then, moment_then, then_any, object_formed, by_call_formed, front_formed}
use Rattle.desk_json.proofs.Found.{object_there, object_passed, call_found, call_passed, read_found}
use Rattle.desk_json.proofs.Least.{tells}
use Rattle.desk_json.proofs.Again.{ask_again, ask_is_object}
use Rattle.desk_json.proofs.SenderLaws.{sender_given, sender_passed, sender_formed, named_given, named_passed, none_there}

-- ---- a key that may be missing

-- what holds of the fault, of nothing and of what is read holds
pub maybe_given : {A B : Type 0} (N : Result B CallFault → Type 0) (key : List ℕ) (d : Data) (o : Option Data) (p : Option A) (f : Option A → Result B BadCall)
    → (is_some o ≡ true → p ≡ None → N (Err (fault.Bad (bad (lack (get key d)) key)))) → (o ≡ None → N (told (f None))) → ((x : A) → p ≡ Some x → N (told (f (Some x))))
    → N (told (and_then (maybe o (found key d p)) f))
maybe_given N key d None p f wrong none some = none refl
maybe_given N key d (Some v) None f wrong none some = wrong refl refl
maybe_given N key d (Some v) (Some x) f wrong none some = some x refl

-- ---- deals

deal_kind : (name : List ℕ) (k : DealKind) (a b : Bool) → bytes_eq name (codes "offer") ≡ a → bytes_eq name (codes "accept") ≡ b
    → (if a then Some kind.Offer else (if b then Some kind.Accept else None)) ≡ Some k → (P : DealKind → Type 0) → (name ≡ codes "offer" → P kind.Offer) → (name ≡ codes "accept" → P kind.Accept) → P k
deal_kind name k true b first second is P offer accept = subst P (cc) (offer ((bytes_eq-Decides name (codes "offer")).0 first))
deal_kind name k false true first second is P offer accept = subst P (cc) (accept ((bytes_eq-Decides name (codes "accept")).0 second))
deal_kind name k false false first second is P offer accept = absurd (cc is)

abbrev IsDeal : Data → DealKind → Type 0
IsDeal d k = HasOnly (is_key (of.Deal k)) d → IfOk (told (deal_of_kind k d)) (HasDeal d)

deal_found : (d : Data) → IfOk (told (deal_or_fault d)) (HasDeal d)
deal_found d =
    let N : Result Deal CallFault → Type 0 = λ r. IfOk r (HasDeal d) in
    named_given deal_kind_of (λ k. of.Deal k) deal_of_kind d N (λ b. tt) (λ name k there is only.
    deal_kind name k (bytes_eq name (codes "offer")) (bytes_eq name (codes "accept")) refl refl is (IsDeal d)
    (λ same all.
    chain N (codes "desk") d (short_at (codes "desk") d) _ (λ none. tt) (λ desk is_desk.
    chain N (codes "to") d (short_at (codes "to") d) _ (λ none. tt) (λ to is_to. (record { name = there ∙ ap Some same; only = all }, is_desk, is_to))))
    (λ same all. chain N (codes "desk") d (short_at (codes "desk") d) _ (λ none. tt) (λ desk is_desk. (record { name = there ∙ ap Some same; only = all }, is_desk)))
    only)

deal_passed : (d : Data) (deal : Deal) → HasDeal d deal → deal_or_fault d ≡ Ok deal
deal_passed d (Offer desk to) is =
    named_passed deal_kind_of (λ k. of.Deal k) deal_of_kind d (codes "offer") kind.Offer (Ok (Offer desk to)) is.0.name refl is.0.only
    (passed (codes "desk") d (short_at (codes "desk") d) _ desk (Ok (Offer desk to)) is.1 (passed (codes "to") d (short_at (codes "to") d) _ to (Ok (Offer desk to)) is.2 refl))
deal_passed d (Accept desk) is =
    named_passed deal_kind_of (λ k. of.Deal k) deal_of_kind d (codes "accept") kind.Accept (Ok (Accept desk)) is.0.name refl is.0.only
    (passed (codes "desk") d (short_at (codes "desk") d) _ desk (Ok (Accept desk)) is.1 refl)

-- ---- which texts are read

asked_found : (d : Data) (only : HasOnly is_shift_key d) → IfOk (told (asked_fields d)) (HasShift d)
asked_found d only =
    let N : Result ShiftLine CallFault → Type 0 = λ r. IfOk r (HasShift d) in
    chain N (codes "actor") d (short_at (codes "actor") d) _ (λ none. tt) (λ actor is_actor.
    chain N (codes "ask") d (object_at (codes "ask") d) _ (λ none. tt) (λ inner is_inner.
    chain N (codes "at") d (moment_at (codes "at") d) _ (λ none. tt) (λ at is_at.
    let with_desk : (desk : Option (List ℕ)) → HasDesk d desk → N (told (and_then (call_by actor inner d) (λ call. Ok (Asked at call desk)))) = λ desk is_desk.
    after N (call_by actor inner d) (λ call. Ok (Asked at call desk)) (λ b is. tt) (λ call is_call. record {
      only = only;
      moment = is_at;
      fields = subst (λ (r : Result Call BadCall). IfOk (told r) (HasCall d)) is_call (call_found d inner actor is_actor is_inner);
      desk = is_desk;
    }) in
    maybe_given N (codes "desk") d (get (codes "desk") d) (short_at (codes "desk") d) (λ desk. and_then (call_by actor inner d) (λ call. Ok (Asked at call desk)))
    (λ there none. tt)
    (λ none. with_desk None none)
    (λ x is. with_desk (Some x) is))))

relief_found : (d : Data) (only : HasOnly is_relief_key d) → IfOk (told (relief_fields d)) (HasShift d)
relief_found d only =
    let N : Result ShiftLine CallFault → Type 0 = λ r. IfOk r (HasShift d) in
    sender_given N d _ (λ b. tt) (λ s is_sender.
    chain N (codes "relief") d (object_at (codes "relief") d) _ (λ none. tt) (λ inner is_inner.
    after N (deal_or_fault inner) _ (λ b is. tt) (λ deal is_deal. record {
      only = only;
      sender = is_sender;
      inner = inner;
      found = object_there (get (codes "relief") d) inner is_inner;
      deal = subst (λ (r : Result Deal BadCall). IfOk (told r) (HasDeal inner)) is_deal (deal_found inner);
    })))

fields_found : (o : Option Data) (d : Data) → HasOnly (is_key (shift_object o)) d → IfOk (told (shift_fields o d)) (HasShift d)
fields_found None d only = asked_found d only
fields_found (Some relief) d only = relief_found d only

held : (text : List ℕ) (d : Data) → data_of text ≡ Some d → (r : Result ShiftLine BadCall) → IfOk (told r) (HasShift d) → IfOk (told r) (IsShiftOf text)
held text d json (Ok line) is = record { value = d; json = json; fields = is }
held text d json (Err b) is = tt

data_found : (text : List ℕ) (d : Data) → data_of text ≡ Some d → IfOk (told (shift_in d)) (IsShiftOf text)
data_found text d json =
    let o = get (codes "relief") d in
    after (λ r. IfOk r (IsShiftOf text)) (only_keys (shift_object o) d) _ (λ b is. tt) (λ only is_only. held text d json (shift_fields o d) (fields_found o d (only_found (shift_object o) d only is_only)))

-- a desk that is there is read, and none is missed
desk_there : (d : Data) (o : Option Data) (desk : Option (List ℕ)) → get (codes "desk") d ≡ o → HasDesk d desk → maybe o (found (codes "desk") d (short_at (codes "desk") d)) ≡ Ok desk
desk_there d None None there is = refl
desk_there d (Some v) None there is = absurd (cc)
desk_there d None (Some desk) there is = absurd (cc)
desk_there d (Some v) (Some desk) there is = passed (codes "desk") d (short_at (codes "desk") d) _ desk (Ok (Some desk)) is refl

shift_passed : (o : Option Data) (d : Data) (line : ShiftLine) (y : Result ShiftLine BadCall) → get (codes "relief") d ≡ o → HasOnly (is_key (shift_object o)) d → shift_fields o d ≡ y → shift_in d ≡ y
shift_passed o d line y there only next =
    ap (λ p. and_then (only_keys (shift_object p) d) (λ u. shift_fields p d)) there ∙ passed_after (only_keys (shift_object o) d) _ tt y (only_passed (shift_object o) d only) next

line_passed : (d : Data) (line : ShiftLine) → HasShift d line → shift_in d ≡ Ok line
line_passed d (Asked at call desk) is =
    shift_passed None d (Asked at call desk) (Ok (Asked at call desk)) (none_there is_shift_key (codes "relief") d (get (codes "relief") d) refl is.only refl) is.only
    (passed (codes "actor") d (short_at (codes "actor") d) _ call.actor (Ok (Asked at call desk)) is.fields.actor
    (passed (codes "ask") d (object_at (codes "ask") d) _ is.fields.inner (Ok (Asked at call desk)) (object_passed (get (codes "ask") d) is.fields.inner is.fields.found is.fields.ask.only.0)
    (passed (codes "at") d (moment_at (codes "at") d) _ at (Ok (Asked at call desk)) is.moment
    (passed_after (desk_of d) _ desk (Ok (Asked at call desk)) (desk_there d (get (codes "desk") d) desk refl is.desk)
    (passed_after (call_by call.actor is.fields.inner d) _ call (Ok (Asked at call desk)) (call_passed d call is.fields) refl)))))
line_passed d (Relief at actor key deal) is =
    shift_passed (Some is.inner) d (Relief at actor key deal) (Ok (Relief at actor key deal)) is.found is.only
    (sender_passed d (sent_by at actor key) _ (Ok (Relief at actor key deal)) is.sender
    (passed (codes "relief") d (object_at (codes "relief") d) _ is.inner (Ok (Relief at actor key deal)) (object_passed (get (codes "relief") d) is.inner is.found (deal_object is.inner deal is.deal))
    (passed_after (deal_or_fault is.inner) _ deal (Ok (Relief at actor key deal)) (deal_passed is.inner deal is.deal) refl)))
  where
    deal_object : (d : Data) (deal : Deal) → HasDeal d deal → is_some (as_object d) ≡ true
    deal_object d (Offer desk to) is = is.0.only.0
    deal_object d (Accept desk) is = is.0.only.0

line_read : (text : List ℕ) (line : ShiftLine) → IsShiftOf text line → shift_or_fault text ≡ Ok line
unfolding shift_or_fault
line_read text line is = ap (read_as shift_in) is.json ∙ line_passed is.value line is.fields

pub shift_finds : (text : List ℕ) (r : Result ShiftLine CallFault) → Answers (shift_or_fault text) r → IsFound (IsShiftOf text) r
unfolding shift_or_fault
shift_finds text r is = record {
  sound = answered (λ (x : Result ShiftLine CallFault). IfOk x (IsShiftOf text)) (read_as shift_in (data_of text)) r tt (read_found shift_in (IsShiftOf text) (data_of text) (data_found text)) is;
  whole = λ line of. gives line (shift_or_fault text) r (line_read text line of) is;
}

-- ---- which key is named

pub shift_tells : (text : List ℕ) (r : Result ShiftLine CallFault) → Answers (shift_or_fault text) r → NamesExtraOf may_have text r
unfolding shift_or_fault
shift_tells text r is = tells (λ d. shift_object (get (codes "relief") d)) (λ d. shift_fields (get (codes "relief") d) d) text r is

-- ---- forms

deal_kind_formed : (k : DealKind) (d : Data) → HasText d → IfOk (told (deal_of_kind k d)) DealHasForms
deal_kind_formed kind.Offer d has = short_then (codes "desk") d _ DealHasForms has (λ desk is_desk. short_then (codes "to") d _ DealHasForms has (λ to is_to. (is_desk, is_to)))
deal_kind_formed kind.Accept d has = short_then (codes "desk") d _ DealHasForms has (λ desk is_desk. is_desk)

deal_formed : (d : Data) → HasText d → IfOk (told (deal_or_fault d)) DealHasForms
deal_formed d has = named_given deal_kind_of (λ k. of.Deal k) deal_of_kind d (λ r. IfOk r DealHasForms) (λ b. tt) (λ name k there is only. deal_kind_formed k d has)

fields_formed : (o : Option Data) (d : Data) → HasText d → IfOk (told (shift_fields o d)) ShiftHasForms
fields_formed None d has =
    front_formed d _ ShiftHasForms has (λ actor ask is_actor has_ask.
    moment_then (codes "at") d _ ShiftHasForms (λ at is_at.
    let with_desk : (desk : Option (List ℕ)) → IfSome desk IsShort → IfOk (told (and_then (call_by actor ask d) (λ call. Ok (Asked at call desk)))) ShiftHasForms = λ desk is_desk.
    formed_after (call_by actor ask d) _ CallHasForms ShiftHasForms (by_call_formed actor ask d has_ask has is_actor) (λ call is. (is_at, is, is_desk)) in
    maybe_given (λ (r : Result ShiftLine CallFault). IfOk r ShiftHasForms) (codes "desk") d (get (codes "desk") d) (short_at (codes "desk") d) (λ desk. and_then (call_by actor ask d) (λ call. Ok (Asked at call desk)))
    (λ there none. tt)
    (λ none. with_desk None tt)
    (λ desk is. with_desk (Some desk) (subst (λ (o : Option (List ℕ)). IfSome o IsShort) is (short_formed (codes "desk") d has)))))
fields_formed (Some relief) d has =
    sender_formed d _ ShiftHasForms has (λ s is_sender.
    formed (codes "relief") d (object_at (codes "relief") d) _ HasText ShiftHasForms (object_formed (get (codes "relief") d) (found_has_text (codes "relief") d has)) (λ inner has_inner.
    formed_after (deal_or_fault inner) _ DealHasForms ShiftHasForms (deal_formed inner has_inner) (λ deal is_deal. (is_sender.at, is_sender.actor, is_sender.key, is_deal))))

data_formed : (d : Data) → HasText d → IfOk (told (shift_in d)) ShiftHasForms
data_formed d has = then_any (only_keys (shift_object (get (codes "relief") d)) d) _ ShiftHasForms (λ only. fields_formed (get (codes "relief") d) d has)

pub shift_forms : (bytes : List ℕ) (r : Result ShiftLine CallFault) → Answers (shift_in (kept.data_of bytes)) r → IfOk r ShiftHasForms
shift_forms bytes r is = answered (λ (x : Result ShiftLine CallFault). IfOk x ShiftHasForms) (shift_in (kept.data_of bytes)) r tt (data_formed (kept.data_of bytes) (data_has_text bytes)) is

-- ---- read again

deal_again : (deal : Deal) → DealHasForms deal → deal_or_fault (deal_data deal) ≡ Ok deal
deal_again (Offer desk to) is = rw (short_again desk is.0, short_again to is.1) refl
deal_again (Accept desk) is = rw (short_again desk is) refl

line_again : (line : ShiftLine) → ShiftHasForms line → shift_in (shift_data line) ≡ Ok line
unfolding shift_data
line_again (Asked at c None) is =
    rw (ask_is_object c.ask, ask_again c.ask is.1.ask, moment_again at is.0, short_again c.actor is.1.actor, short_again c.key is.1.key, small_again c.number 1_000_000_000_000 is.1.number) refl
line_again (Asked at c (Some desk)) is =
    rw (ask_is_object c.ask, ask_again c.ask is.1.ask, moment_again at is.0, short_again c.actor is.1.actor, short_again c.key is.1.key, small_again c.number 1_000_000_000_000 is.1.number, short_again desk is.2) refl
line_again (Relief at actor key deal) is = rw (deal_again deal is.3, moment_again at is.0, short_again actor is.1, short_again key is.2) refl

pub shift_again : (text : List ℕ) (r : Result ShiftLine CallFault) → Answers (shift_or_fault text) r → IsShiftAgain text r
unfolding shift_or_fault
shift_again text r is = λ line forms same. gives line (shift_or_fault text) r (ap (read_as shift_in) same ∙ line_again line forms) is
