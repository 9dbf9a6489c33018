-- Planned lines: which texts are read, which key is named, that what is read has its forms and is read again.
use Rattle.std.proofs.Common.{◌≡◌, ℕ, Bool, true, false, if◌then◌else◌, List, Option, None, Some, IfSome, IfOk, Result, Ok, Err, codes, refl, sym, ap, ◌∙◌, subst, true≢false}
use Rattle.std.specs.Str.{bytes_eq}
use Rattle.std.proofs.lemmas.Slice.Eq.{bytes_eq-Decides}
use Rattle.serde_json.specs.Data.{Data}
use Rattle.serde_json.specs.Find.{get}
use Rattle.asks.specs.declared.bad_call.BadCall.{BadCall}
use Rattle.asks.specs.Fields.{data_of, text_at, id_at, amount_at}
use Rattle.asks.specs.Forms.{IsAmount, IsId, IsRequest, HasForms}
use Rattle.asks.specs.Plain.{HasText}
use Rattle.asks.proofs.Again.{small_again, amount_again, id_again, short_again, moment_again, plan_again}
use Rattle.asks.proofs.DocumentTexts.{data_has_text}
use Rattle.asks.proofs.PlanForms.{number_formed, amount_formed, id_formed}
use Rattle.compact_json.specs.Kept as kept
use Rattle.desk_json.specs.declared.bad_call.CallFault.{CallFault}
use Rattle.desk_json.specs.declared.keys.Object.TheVariants as of
use Rattle.desk_json.specs.declared.keys.PlannedKind.{PlannedKind}
use Rattle.desk_json.specs.declared.keys.PlannedKind.TheVariants as kind
use Rattle.desk_json.specs.declared.planned.PlannedLine.{PlannedLine}
use Rattle.desk_json.specs.declared.planned.PlannedLine.TheVariants.{Asked, File, Check, Turn}
use Rattle.desk_json.specs.declared.senders.Sender.{Sender}
use Rattle.desk_json.specs.Keys.{and_then, found, need, is_key, is_line_key, is_planned_key, is_turn_key, only_keys}
use Rattle.desk_json.specs.Faults.{plan_at, object_at, request_at, line_fields, sent_by, read_as, Answers, NamesExtraOf}
use Rattle.desk_json.specs.Calls.{HasOnly, HasSender, IsFound}
use Rattle.desk_json.specs.Canonical.{line_data, LineHasForms}
use Rattle.desk_json.specs.PlannedLines.{is_turn_name, is_turn, planned_object, planned_kind_of, filed_of_kind, filed_or_fault, filed_fields, turned_of, turn_fields, planned_fields, planned_in, planned_or_fault, may_have, HasPlanned, IsPlannedOf, planned_line_data, PlannedHasForms, IsPlannedAgain}
use Rattle.desk_json.proofs.Results.{told, answered, gives, chain, after, formed, formed_after, passed, passed_after}
use Rattle.desk_json.proofs.Members.{only_found, only_passed}
use Rattle.desk_json.proofs.Formed.{plan_at_formed, id_then, then_any, line_fields_formed}
use Rattle.desk_json.proofs.Found.{HasLine, object_there, object_passed, line_fields_found, line_fields_passed, read_found}
use Rattle.desk_json.proofs.Least.{tells}
use Rattle.desk_json.proofs.Again.{ask_again, ask_is_object}
use Rattle.desk_json.proofs.SenderLaws.{sender_given, sender_passed, SenderHasForms, sender_formed, named_given, named_passed, none_there}

-- ---- what a `planned` asks

planned_kind : (name : List ℕ) (k : PlannedKind) (a b : Bool) → bytes_eq name (codes "file") ≡ a → bytes_eq name (codes "check") ≡ b
    → (if a then Some kind.File else (if b then Some kind.Check else None)) ≡ Some k → (P : PlannedKind → Type 0) → (name ≡ codes "file" → P kind.File) → (name ≡ codes "check" → P kind.Check) → P k
planned_kind name k true b first second is P file check = subst P (cc) (file ((bytes_eq-Decides name (codes "file")).0 first))
planned_kind name k false true first second is P file check = subst P (cc) (check ((bytes_eq-Decides name (codes "check")).0 second))
planned_kind name k false false first second is P file check = absurd (cc is)

named_turn : (name : Option (List ℕ)) → is_turn_name name ≡ true → name ≡ Some (codes "turn")
named_turn None is = absurd (true≢false (sym is))
named_turn (Some name) is = ap Some ((bytes_eq-Decides name (codes "turn")).0 is)

-- ---- which texts are read

filed_found : (d inner : Data) (s : Sender) → HasOnly is_planned_key d → HasSender d s → get (codes "planned") d ≡ Some inner → IfOk (told (filed_or_fault s inner)) (HasPlanned d)
filed_found d inner s only is_sender found =
    let N : Result PlannedLine CallFault → Type 0 = λ r. IfOk r (HasPlanned d) in
    named_given planned_kind_of (λ k. of.Filed k) (filed_of_kind s) inner N (λ b. tt) (λ name k there is inner_only.
    planned_kind name k (bytes_eq name (codes "file")) (bytes_eq name (codes "check")) refl refl is (λ k. HasOnly (is_key (of.Filed k)) inner → N (told (filed_of_kind s k inner)))
    (λ same all.
    chain N (codes "leg") inner (amount_at (codes "leg") inner) _ (λ none. tt) (λ leg is_leg.
    chain N (codes "plan") inner (plan_at (codes "plan") inner) _ (λ none. tt) (λ plan is_plan.
    chain N (codes "release") inner (id_at (codes "release") inner) _ (λ none. tt) (λ release is_release. record {
      only = only;
      sender = is_sender;
      inner = inner;
      found = found;
      name = record { name = there ∙ ap Some same; only = all };
      leg = is_leg;
      plan = is_plan;
      release = is_release;
    }))))
    (λ same all.
    chain N (codes "release") inner (id_at (codes "release") inner) _ (λ none. tt) (λ release is_release. record {
      only = only;
      sender = is_sender;
      inner = inner;
      found = found;
      name = record { name = there ∙ ap Some same; only = all };
      release = is_release;
    }))
    inner_only)

-- a turn's `planned` has its release and nothing else
abbrev HasTurned : Data → ℕ → Type 0
HasTurned d release = HasOnly (is_key of.Turned) d × (id_at (codes "release") d ≡ Some release)

turned_found : (d : Data) → IfOk (told (turned_of d)) (HasTurned d)
turned_found d =
    after (λ r. IfOk r (HasTurned d)) (only_keys of.Turned d) _ (λ b is. tt) (λ only is_only. by (only_found of.Turned d only is_only) (id_at (codes "release") d) refl)
  where
    by : HasOnly (is_key of.Turned) d → (o : Option ℕ) → id_at (codes "release") d ≡ o → IfOk (told (found (codes "release") d o)) (HasTurned d)
    by only None is = tt
    by only (Some release) is = (only, is)

turn_found : (d planned : Data) → HasOnly is_turn_key d → get (codes "planned") d ≡ Some planned → is_turn planned ≡ true → IfOk (told (turn_fields d)) (HasPlanned d)
turn_found d planned only there turn =
    let N : Result PlannedLine CallFault → Type 0 = λ r. IfOk r (HasPlanned d) in
    sender_given N d _ (λ b. tt) (λ s is_sender.
    chain N (codes "number") d (request_at (codes "number") d) _ (λ none. tt) (λ number is_number.
    chain N (codes "planned") d (object_at (codes "planned") d) _ (λ none. tt) (λ inner is_inner.
    let here = object_there (get (codes "planned") d) inner is_inner in
    let same : planned ≡ inner = cc in
    formed_after (turned_of inner) _ (HasTurned inner) (HasPlanned d) (turned_found inner) (λ release is. record {
      only = only;
      sender = is_sender;
      number = is_number;
      inner = inner;
      found = here;
      name = record { name = named_turn (text_at (codes "do") inner) (subst (λ p. is_turn p ≡ true) same turn); only = is.0 };
      release = is.1;
    }))))

some_found : (b : Bool) (d planned : Data) → get (codes "planned") d ≡ Some planned → is_turn planned ≡ b → HasOnly (is_key (if b then of.Turn else of.Planned)) d
    → IfOk (told (if b then turn_fields d else filed_fields d)) (HasPlanned d)
some_found true d planned there turn only = turn_found d planned only there turn
some_found false d planned there turn only =
    let N : Result PlannedLine CallFault → Type 0 = λ r. IfOk r (HasPlanned d) in
    sender_given N d _ (λ b. tt) (λ s is_sender.
    chain N (codes "planned") d (object_at (codes "planned") d) _ (λ none. tt) (λ inner is_inner.
    filed_found d inner s only is_sender (object_there (get (codes "planned") d) inner is_inner)))

fields_found : (o : Option Data) (d : Data) → get (codes "planned") d ≡ o → HasOnly (is_key (planned_object o)) d → IfOk (told (planned_fields o d)) (HasPlanned d)
fields_found None d there only =
    formed_after (line_fields d) _ (HasLine d) (HasPlanned d) (line_fields_found d) (λ line is. record { only = only; moment = is.0; fields = is.1 })
fields_found (Some planned) d there only = some_found (is_turn planned) d planned there refl only

held : (text : List ℕ) (d : Data) → data_of text ≡ Some d → (r : Result PlannedLine BadCall) → IfOk (told r) (HasPlanned d) → IfOk (told r) (IsPlannedOf text)
held text d json (Ok line) is = record { value = d; json = json; fields = is }
held text d json (Err b) is = tt

data_found : (text : List ℕ) (d : Data) → data_of text ≡ Some d → IfOk (told (planned_in d)) (IsPlannedOf text)
data_found text d json =
    let o = get (codes "planned") d in
    after (λ r. IfOk r (IsPlannedOf text)) (only_keys (planned_object o) d) _ (λ b is. tt) (λ only is_only. held text d json (planned_fields o d) (fields_found o d refl (only_found (planned_object o) d only is_only)))

-- a planned line, a turn or not
some_passed : (b : Bool) (d planned : Data) (y : Result PlannedLine BadCall) → get (codes "planned") d ≡ Some planned → is_turn planned ≡ b → HasOnly (is_key (if b then of.Turn else of.Planned)) d
    → (if b then turn_fields d else filed_fields d) ≡ y → planned_in d ≡ y
some_passed b d planned y there turn only next =
    ap (λ p. and_then (only_keys (planned_object p) d) (λ u. planned_fields p d)) there
    ∙ ap (λ t. and_then (only_keys (if t then of.Turn else of.Planned) d) (λ u. if t then turn_fields d else filed_fields d)) turn
    ∙ passed_after (only_keys (if b then of.Turn else of.Planned) d) _ tt y (only_passed (if b then of.Turn else of.Planned) d only) next

line_passed : (d : Data) (line : PlannedLine) → HasPlanned d line → planned_in d ≡ Ok line
line_passed d (Asked at call) is =
    ap (λ p. and_then (only_keys (planned_object p) d) (λ u. planned_fields p d)) (none_there is_line_key (codes "planned") d (get (codes "planned") d) refl is.only refl)
    ∙ passed_after (only_keys of.Line d) _ tt (Ok (Asked at call)) (only_passed of.Line d is.only)
    (passed_after (line_fields d) _ (at, call) (Ok (Asked at call)) (line_fields_passed d (at, call) (is.moment, is.fields)) refl)
line_passed d (File at actor key release leg plan) is =
    let line : Result PlannedLine BadCall = Ok (File at actor key release leg plan) in
    some_passed false d is.inner line is.found (ap is_turn_name is.name.name) is.only
    (sender_passed d (sent_by at actor key) _ line is.sender
    (passed (codes "planned") d (object_at (codes "planned") d) _ is.inner line (object_passed (get (codes "planned") d) is.inner is.found is.name.only.0)
    (named_passed planned_kind_of (λ k. of.Filed k) (filed_of_kind (sent_by at actor key)) is.inner (codes "file") kind.File line is.name.name refl is.name.only
    (passed (codes "leg") is.inner (amount_at (codes "leg") is.inner) _ leg line is.leg
    (passed (codes "plan") is.inner (plan_at (codes "plan") is.inner) _ plan line is.plan
    (passed (codes "release") is.inner (id_at (codes "release") is.inner) _ release line is.release refl))))))
line_passed d (Check at actor key release) is =
    let line : Result PlannedLine BadCall = Ok (Check at actor key release) in
    some_passed false d is.inner line is.found (ap is_turn_name is.name.name) is.only
    (sender_passed d (sent_by at actor key) _ line is.sender
    (passed (codes "planned") d (object_at (codes "planned") d) _ is.inner line (object_passed (get (codes "planned") d) is.inner is.found is.name.only.0)
    (named_passed planned_kind_of (λ k. of.Filed k) (filed_of_kind (sent_by at actor key)) is.inner (codes "check") kind.Check line is.name.name refl is.name.only
    (passed (codes "release") is.inner (id_at (codes "release") is.inner) _ release line is.release refl))))
line_passed d (Turn at actor key number release) is =
    let line : Result PlannedLine BadCall = Ok (Turn at actor key number release) in
    some_passed true d is.inner line is.found (ap is_turn_name is.name.name) is.only
    (sender_passed d (sent_by at actor key) _ line is.sender
    (passed (codes "number") d (request_at (codes "number") d) _ number line is.number
    (passed (codes "planned") d (object_at (codes "planned") d) _ is.inner line (object_passed (get (codes "planned") d) is.inner is.found is.name.only.0)
    (passed_after (turned_of is.inner) _ release line
    (passed_after (only_keys of.Turned is.inner) _ tt (Ok release) (only_passed of.Turned is.inner is.name.only) (ap (found (codes "release") is.inner) is.release)) refl))))

line_read : (text : List ℕ) (line : PlannedLine) → IsPlannedOf text line → planned_or_fault text ≡ Ok line
unfolding planned_or_fault
line_read text line is = ap (read_as planned_in) is.json ∙ line_passed is.value line is.fields

pub planned_finds : (text : List ℕ) (r : Result PlannedLine CallFault) → Answers (planned_or_fault text) r → IsFound (IsPlannedOf text) r
unfolding planned_or_fault
planned_finds text r is = record {
  sound = answered (λ (x : Result PlannedLine CallFault). IfOk x (IsPlannedOf text)) (read_as planned_in (data_of text)) r tt (read_found planned_in (IsPlannedOf text) (data_of text) (data_found text)) is;
  whole = λ line of. gives line (planned_or_fault text) r (line_read text line of) is;
}

-- ---- which key is named

pub planned_tells : (text : List ℕ) (r : Result PlannedLine CallFault) → Answers (planned_or_fault text) r → NamesExtraOf may_have text r
unfolding planned_or_fault
planned_tells text r is = tells (λ d. planned_object (get (codes "planned") d)) (λ d. planned_fields (get (codes "planned") d) d) text r is

-- ---- forms

filed_kind_formed : (s : Sender) (k : PlannedKind) (d : Data) → SenderHasForms s → IfOk (told (filed_of_kind s k d)) PlannedHasForms
filed_kind_formed s kind.File d is =
    formed (codes "leg") d (amount_at (codes "leg") d) _ IsAmount PlannedHasForms (amount_formed (codes "leg") d) (λ leg is_leg.
    formed (codes "plan") d (plan_at (codes "plan") d) _ HasForms PlannedHasForms (plan_at_formed d) (λ plan is_plan.
    id_then (codes "release") d _ PlannedHasForms (λ release is_release. (is.at, is.actor, is.key, is_release, is_leg, is_plan))))
filed_kind_formed s kind.Check d is = id_then (codes "release") d _ PlannedHasForms (λ release is_release. (is.at, is.actor, is.key, is_release))

some_formed : (b : Bool) (d : Data) → HasText d → IfOk (told (if b then turn_fields d else filed_fields d)) PlannedHasForms
some_formed true d has =
    sender_formed d _ PlannedHasForms has (λ s is.
    formed (codes "number") d (request_at (codes "number") d) _ IsRequest PlannedHasForms (number_formed (codes "number") 1_000_000_000_000 d) (λ number is_number.
    then_any (need object_at (codes "planned") d) _ PlannedHasForms (λ inner.
    formed_after (turned_of inner) _ IsId PlannedHasForms (then_any (only_keys of.Turned inner) _ IsId (λ only. release_formed inner (id_at (codes "release") inner) (id_formed (codes "release") inner)))
    (λ release is_release. (is.at, is.actor, is.key, is_number, is_release)))))
  where
    release_formed : (inner : Data) (o : Option ℕ) → IfSome o IsId → IfOk (told (found (codes "release") inner o)) IsId
    release_formed inner None is = tt
    release_formed inner (Some release) is = is
some_formed false d has =
    sender_formed d _ PlannedHasForms has (λ s is.
    then_any (need object_at (codes "planned") d) _ PlannedHasForms (λ inner.
    named_given planned_kind_of (λ k. of.Filed k) (filed_of_kind s) inner (λ r. IfOk r PlannedHasForms) (λ b. tt) (λ name k there known only. filed_kind_formed s k inner is)))

fields_formed : (o : Option Data) (d : Data) → HasText d → IfOk (told (planned_fields o d)) PlannedHasForms
fields_formed None d has = formed_after (line_fields d) _ LineHasForms PlannedHasForms (line_fields_formed d has) (λ line is. is)
fields_formed (Some planned) d has = some_formed (is_turn planned) d has

data_formed : (d : Data) → HasText d → IfOk (told (planned_in d)) PlannedHasForms
data_formed d has = then_any (only_keys (planned_object (get (codes "planned") d)) d) _ PlannedHasForms (λ only. fields_formed (get (codes "planned") d) d has)

pub planned_forms : (bytes : List ℕ) (r : Result PlannedLine CallFault) → Answers (planned_in (kept.data_of bytes)) r → IfOk r PlannedHasForms
planned_forms bytes r is = answered (λ (x : Result PlannedLine CallFault). IfOk x PlannedHasForms) (planned_in (kept.data_of bytes)) r tt (data_formed (kept.data_of bytes) (data_has_text bytes)) is

-- ---- read again

line_again : (line : PlannedLine) → PlannedHasForms line → planned_in (planned_line_data line) ≡ Ok line
unfolding planned_line_data line_data
line_again (Asked at c) is =
    rw (ask_is_object c.ask, ask_again c.ask is.1.ask, moment_again at is.0, short_again c.actor is.1.actor, short_again c.key is.1.key, small_again c.number 1_000_000_000_000 is.1.number) refl
line_again (File at actor key release leg plan) is = rw (moment_again at is.0, short_again actor is.1, short_again key is.2, id_again release is.3, amount_again leg is.4, plan_again plan is.5) refl
line_again (Check at actor key release) is = rw (moment_again at is.0, short_again actor is.1, short_again key is.2, id_again release is.3) refl
line_again (Turn at actor key number release) is = rw (moment_again at is.0, short_again actor is.1, short_again key is.2, small_again number 1_000_000_000_000 is.3, id_again release is.4) refl

pub planned_again : (text : List ℕ) (r : Result PlannedLine CallFault) → Answers (planned_or_fault text) r → IsPlannedAgain text r
unfolding planned_or_fault
planned_again text r is = λ line forms same. gives line (planned_or_fault text) r (ap (read_as planned_in) same ∙ line_again line forms) is
