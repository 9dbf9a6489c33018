-- The texts in which the desk shows its state, with a line feed after every line.
use Rattle.ops_tables.specs.declared.rows.MelRow.{MelRow}
use Rattle.ops_tables.specs.Tables.{TableRows, item_of}
use Rattle.deferrals.specs.declared.items.Deferral.{Deferral}
use Rattle.deferrals.specs.Due.{due}
use Rattle.std.specs.Prelude.{ℕ, Bool, true, false, if◌then◌else◌, List, [], ◌∷◌, ◌++◌, Option, None, Some, codes, decimal}
use Rattle.std.specs.List.{concat}
use Rattle.hex.specs.Hex.{encode_lower}
use Rattle.desk_time.specs.Moments.{shown}
use Rattle.release_text.specs.Revisions.{revision_text, revision_digest}
use Rattle.plan.specs.declared.release.Signature.{Signature}
use Rattle.facts.specs.Lines.{weather}
use Rattle.plan.specs.Texts.{finding_text, phase_text}
use Rattle.plan.specs.declared.findings.Finding.{Finding}
use Rattle.plan.specs.declared.release.Release.{Release}
use Rattle.plan.specs.declared.release.Revision.{Revision}
use Rattle.alerts.specs.declared.alert.Alert.{Alert}
use Rattle.desk_state.specs.State.{State, alert_at}

-- each finding after a blank
abbrev pub spaced_findings : List Finding → List ℕ
spaced_findings [] = []
spaced_findings (f ∷ fs) = (codes " " ++ finding_text f) ++ spaced_findings fs

-- findings, each after a blank, or " none"
unfoldable pub findings_text : List Finding → List ℕ
findings_text [] = codes " none"
findings_text (f ∷ fs) = spaced_findings (f ∷ fs)

abbrev pub mark_text : Bool → List ℕ
mark_text acknowledged = if acknowledged then codes "ack" else codes "open"

-- the release, the dispatcher and the version of an alert
abbrev pub alert_head : Alert → List ℕ
alert_head a = concat (decimal a.release ∷ codes " " ∷ a.desk ∷ codes " v" ∷ decimal a.version ∷ [])

-- the moment at which it opened, and whether it is acknowledged
abbrev pub opening_text : Alert → List ℕ
opening_text a = concat (codes " " ∷ shown a.opened ∷ codes " " ∷ mark_text a.acknowledged ∷ [])

-- the rules that fail, and all that have failed since it opened
abbrev pub failing_text : Alert → List ℕ
failing_text a = concat (findings_text a.failing ∷ codes " ever" ∷ findings_text a.ever ∷ codes "\n" ∷ [])

-- the line of an alert
unfoldable pub alert_line : Alert → List ℕ
alert_line a = alert_head a ++ opening_text a ++ failing_text a

abbrev pub alert_lines : List Alert → List ℕ
alert_lines [] = []
alert_lines (a ∷ rest) = alert_line a ++ alert_lines rest

-- the view of all alerts
unfoldable pub alerts_view : ℕ → List Alert → List ℕ
alerts_view moment alerts = concat (codes "ALERTS " ∷ shown moment ∷ codes "\n" ∷ alert_lines alerts ∷ [])

-- when a deferred item is due for repair, or a dash if the type's list lacks the item
abbrev pub due_text : Option MelRow → Deferral → List ℕ
due_text None d = codes "-"
due_text (Some row) d = shown (due row d.found)

-- the id and the item of a deferral
abbrev pub deferral_head : Deferral → List ℕ
deferral_head d = concat (decimal d.id ∷ codes " " ∷ d.item ∷ codes " " ∷ [])

-- when the item was found, and when it is due by the type's list
abbrev pub deferral_due : TableRows → List ℕ → Deferral → List ℕ
deferral_due tables kind d = concat (shown d.found ∷ codes " due " ∷ due_text (item_of tables kind d.item) d ∷ codes "\n" ∷ [])

-- the line of a deferral on an aircraft of this type
unfoldable pub deferral_line : TableRows → List ℕ → Deferral → List ℕ
deferral_line tables kind d = deferral_head d ++ deferral_due tables kind d

-- the lines of deferrals on an aircraft of this type
abbrev pub deferral_lines : TableRows → List ℕ → List Deferral → List ℕ
deferral_lines tables kind [] = []
deferral_lines tables kind (d ∷ rest) = deferral_line tables kind d ++ deferral_lines tables kind rest

abbrev pub revision_number : Option Revision → ℕ
revision_number None = 0
revision_number (Some v) = v.number

-- the newest revision: the pending one, or else the active one
abbrev pub newest : Option Revision → Option Revision → Option Revision
newest (Some v) active = Some v
newest None active = active

-- the flight and the aircraft of a revision
abbrev pub flight_text : Option Revision → List ℕ
flight_text None = codes "- -"
flight_text (Some v) = v.plan.flight ++ codes " " ++ v.plan.tail

abbrev pub alert_text : Option Alert → List ℕ
alert_text None = codes "-"
alert_text (Some a) = concat (codes "ALERT v" ∷ decimal a.version ∷ codes " " ∷ mark_text a.acknowledged ∷ findings_text a.failing ∷ [])

-- the id, the flight, the aircraft and the phase of a release
abbrev pub release_head : Release → List ℕ
release_head r = concat (decimal r.id ∷ codes " " ∷ flight_text (newest r.pending r.active) ∷ codes " " ∷ phase_text r.phase ∷ [])

-- the numbers of its active and its pending revision, 0 if there is none
abbrev pub numbers_text : Release → List ℕ
numbers_text r = concat (codes " rev " ∷ decimal (revision_number r.active) ∷ codes " pending " ∷ decimal (revision_number r.pending) ∷ codes " " ∷ [])

-- its dispatcher and its alert
abbrev pub desk_text : Release → Option Alert → List ℕ
desk_text r alert = concat (r.holder ∷ codes " " ∷ alert_text alert ∷ codes "\n" ∷ [])

-- the line of a release
unfoldable pub release_line : Release → Option Alert → List ℕ
release_line r alert = release_head r ++ numbers_text r ++ desk_text r alert

abbrev pub release_lines : List Alert → List Release → List ℕ
release_lines alerts [] = []
release_lines alerts (r ∷ rest) = release_line r (alert_at r.id alerts) ++ release_lines alerts rest

abbrev pub board_head : ℕ → List ℕ
board_head moment = concat (codes "BOARD " ∷ shown moment ∷ codes "\n" ∷ [])

-- the view of all releases
unfoldable pub board_view : State → List ℕ
board_view s = board_head s.moment ++ release_lines s.alerts s.releases

-- who signed, and when
abbrev pub signature_text : Option Signature → List ℕ
signature_text None = []
signature_text (Some signature) = concat (codes " " ∷ signature.actor ∷ codes " " ∷ shown signature.at ∷ [])

-- the digest of a revision in lower-case hexadecimal
abbrev pub digest_text : Revision → List ℕ
digest_text v = encode_lower (revision_digest v)

abbrev pub prepared_text : Bool → Revision → List ℕ
prepared_text true v = concat (codes "PENDING " ∷ digest_text v ∷ codes "\n" ∷ revision_text v ∷ [])
prepared_text false v = []

-- the digest and the text of a pending revision, if it is prepared
unfoldable pub pending_text : Option Revision → List ℕ
pending_text None = []
pending_text (Some v) = prepared_text v.prepared v

-- a captain's hours, or a dash
abbrev pub hours_text : Option ℕ → List ℕ
hours_text None = codes "-"
hours_text (Some hours) = decimal hours

abbrev pub active_head : Revision → List ℕ
active_head v =
    concat (codes "ACTIVE " ∷ digest_text v ∷ signature_text v.dispatcher ∷ signature_text v.captain ∷ codes " HOURS " ∷ hours_text v.hours ∷ codes "\n" ∷ [])

-- the digest, the signatures, the captain's hours and the text of an active revision
unfoldable pub active_text : Option Revision → List ℕ
active_text None = []
active_text (Some v) = active_head v ++ revision_text v

-- the view of a release: its phase and the texts of its revisions
unfoldable pub release_view : Release → List ℕ
release_view r = concat (codes "RELEASE " ∷ decimal r.id ∷ codes " " ∷ phase_text r.phase ∷ codes "\n" ∷ []) ++ pending_text r.pending ++ active_text r.active

-- the text that ends a run: all releases, and the latest weather of all stations that have a report
unfoldable pub closing : State → List ℕ
closing s = board_head s.moment ++ release_lines s.alerts s.releases ++ weather s.reports ++ codes "END\n"
