-- The body of a valid record is plain data.
use Rattle.std.proofs.Common.{◌^◌, ◌<◌, ◌≤◌, List, refl, sym, arith, subst}
use Rattle.std.specs.List.{AllByRecursion}
use Rattle.serde_json.specs.Data.{object, depth}
use Rattle.asks.specs.declared.kept.Floor.{Floor}
use Rattle.asks.specs.Forms.{IsFloor, FloorsRise}
use Rattle.asks.specs.Plain.{IsPlain, HasText}
use Rattle.asks.proofs.Plain.{order_of, text_of, done_plain, done_has_text, done_depth, kept_said}
use Rattle.asks.proofs.Texts.{written_utf8, digest_utf8}
use Rattle.release_json.proofs.PlainLaws.{id_plain, release_plain, release_has_text, release_depth, findings_plain, findings_have_text, findings_depth}
use Rattle.release_json.specs.Versions.{number_of}
use Rattle.release_json.specs.declared.version.Version.{Version}
use Rattle.release_json.specs.declared.version.Version.TheVariants.{First, Second}
use Rattle.records.specs.Bodies.{floors_data, meta_members, report_members, deferral_members, reply_members, kept_members, alert_members, body_data}
use Rattle.records.specs.Valid.{IsRecord}
use Rattle.records.specs.declared.record.Record.{Record}
use Rattle.records.specs.declared.record.Record.TheVariants.{Meta, Report, Deferral, Release, Kept, Alert}
use Rattle.records.proofs.FloorLaws.{floors_in_turn, turn_order, turn_plain, turn_has_text, turn_depth}

-- ---- floors

floors_plain : (fs : List Floor) → AllByRecursion IsFloor fs → FloorsRise fs → IsPlain (floors_data fs)
unfolding floors_data
floors_plain fs all rising = subst (λ ms. IsPlain (object ms)) (sym (floors_in_turn fs all rising)) (turn_order fs rising, turn_plain fs all)

floors_have_text : (fs : List Floor) → AllByRecursion IsFloor fs → FloorsRise fs → HasText (floors_data fs)
unfolding floors_data
floors_have_text fs all rising = subst (λ ms. HasText (object ms)) (sym (floors_in_turn fs all rising)) (turn_has_text fs all)

floors_depth : (fs : List Floor) → AllByRecursion IsFloor fs → FloorsRise fs → depth (floors_data fs) ≤ 1
unfolding floors_data
floors_depth fs all rising = subst (λ ms. depth (object ms) ≤ 1) (sym (floors_in_turn fs all rising)) (let flat = turn_depth fs in omega arith)

-- ---- bodies

version_small : (version : Version) → number_of version < 2 ^ 64
version_small First = omega arith
version_small Second = omega arith

pub body_plain : (version : Version) (r : Record) → IsRecord r → IsPlain (body_data version r)
unfolding body_data IsRecord
body_plain version (Meta m) is = (
  order_of (meta_members version m) refl,
  (
    id_plain m.counters.events is.counters.events,
    (
      floors_plain m.floors is.floors is.rising,
      (id_plain m.counters.next_deferral is.counters.next_deferral, (id_plain m.counters.next_kept is.counters.next_kept, (id_plain m.counters.next_release is.counters.next_release, (id_plain m.counters.next_report is.counters.next_report, (tt, (version_small version, tt)))))),
    ),
  ),
)
body_plain version (Report r) is = (order_of (report_members r) refl, (tt, (tt, tt)))
body_plain version (Deferral d) is = (order_of (deferral_members d) refl, (tt, (tt, (tt, tt))))
body_plain version (Release r) is = release_plain version r is.1.formed
body_plain version (Kept k) is = (
  order_of (kept_members k) refl,
  (tt, (tt, (tt, ((let few = is.number in omega arith), ((order_of (reply_members k) refl, (done_plain k.done (kept_said k.done is.done), tt)), tt))))),
)
body_plain version (Alert a) is = (
  order_of (alert_members a) refl,
  (tt, (findings_plain a.ever, (findings_plain a.failing, (tt, (id_plain a.version is.version, tt))))),
)

pub body_has_text : (version : Version) (r : Record) → IsRecord r → HasText (body_data version r)
unfolding body_data IsRecord
body_has_text version (Meta m) is = text_of (meta_members version m) refl (tt, (floors_have_text m.floors is.floors is.rising, (tt, (tt, (tt, (tt, (written_utf8 _, (tt, tt))))))))
body_has_text version (Report r) is = text_of (report_members r) refl (written_utf8 _, (written_utf8 r.text, tt))
body_has_text version (Deferral d) is = text_of (deferral_members d) refl (written_utf8 _, (written_utf8 d.item, (written_utf8 d.tail, tt)))
body_has_text version (Release r) is = release_has_text version r is.1.formed
body_has_text version (Kept k) is =
    text_of (kept_members k) refl (written_utf8 k.actor, (written_utf8 _, (digest_utf8 k.digest is.digest, (tt, (text_of (reply_members k) refl (done_has_text k.done (kept_said k.done is.done), tt), tt)))))
body_has_text version (Alert a) is = text_of (alert_members a) refl (tt, (findings_have_text a.ever, (findings_have_text a.failing, (written_utf8 _, (tt, tt)))))

pub body_depth : (version : Version) (r : Record) → IsRecord r → depth (body_data version r) ≤ 7
unfolding body_data IsRecord
body_depth version (Meta m) is = let floors = floors_depth m.floors is.floors is.rising in omega (arith, floors)
body_depth version (Report r) is = omega arith
body_depth version (Deferral d) is = omega arith
body_depth version (Release r) is = release_depth version r
body_depth version (Kept k) is = let done = done_depth k.done in omega (arith, done)
body_depth version (Alert a) is =
    let ever = findings_depth a.ever in
    let failing = findings_depth a.failing in
    omega (arith, ever, failing)
