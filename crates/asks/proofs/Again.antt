-- What is written of a plan, and of what was done, is read again.
use Rattle.std.proofs.Common.{◌≡◌, ℕ, suc, ◌≤◌, true, List, [], ◌∷◌, length, map, Option, None, Some, refl, ap, ◌∙◌, arith, le-leb}
use Rattle.std.specs.List.{AllByRecursion}
use Rattle.std.specs.Str.Lossy.{utf8_lossy}
use Rattle.std.proofs.lemmas.Str.{utf8_lossy-IsUtf8}
use Rattle.serde_json.specs.Data.{Data}
use Rattle.serde_json.specs.Events.{items_len}
use Rattle.serde_json.specs.View.{items_of}
use Rattle.desk_time.specs.Moments.{shown, minute_of, up_to}
use Rattle.desk_time.proofs.MomentLaws.{minute_again}
use Rattle.desk_io.specs.Station.{Station, is_station, station_of}
use Rattle.desk_time.specs.Limits.{IsMoment}
use Rattle.plan.specs.declared.flights.Kind.{Kind}
use Rattle.plan.specs.declared.flights.Kind.TheVariants.{Domestic, Flag}
use Rattle.plan.specs.declared.flights.Alternate.{Alternate}
use Rattle.plan.specs.declared.flights.TakeoffAlternate.{TakeoffAlternate}
use Rattle.plan.specs.declared.flights.Leg.{Leg}
use Rattle.plan.specs.declared.flights.Plan.{Plan}
use Rattle.asks.specs.declared.reply.Done.{Done}
use Rattle.asks.specs.declared.reply.Done.TheVariants.{Report, Deferral, Filed, Prepared, Release, Swept}
use Rattle.asks.specs.declared.plans.Form.{Form}
use Rattle.asks.specs.Fields.{each_read, short}
use Rattle.asks.specs.Legs.{alternate_of, takeoff_in, leg_of, legs_of}
use Rattle.asks.specs.Plans.{has_form, formed, kind_of, plan_of}
use Rattle.asks.specs.Dones.{done_within}
use Rattle.asks.specs.Canonical.{option_data, alternate_data, takeoff_data, leg_data, kind_name, plan_data, done_data}
use Rattle.asks.specs.Forms.{IsAmount, IsId, IsShort, IsAlternate, MayBeTakeoff, IsLeg, HasForms, DoneWithin}
use Rattle.asks.proofs.Texts.{name_utf8, station_utf8, moment_utf8}
use Rattle.asks.proofs.DigestLaws.{digest_again}

pub small_again : (n limit : ℕ) → n ≤ limit → up_to limit n ≡ Some n
small_again n limit few = rw (le-leb n limit few) refl

pub amount_again : (n : ℕ) → IsAmount n → up_to 4_294_967_295 n ≡ Some n
amount_again n few = small_again n 4_294_967_295 few

pub short_again : (t : List ℕ) → IsShort t → short (utf8_lossy t) ≡ Some t
short_again t is = rw (utf8_lossy-IsUtf8 t is.text, le-leb (length t) 64 is.few) refl

pub station_again : (s : Station) → is_station s ≡ true → station_of (utf8_lossy s) ≡ Some s
station_again s is = rw (utf8_lossy-IsUtf8 s (station_utf8 s is), is) refl

pub moment_again : (m : ℕ) → IsMoment m → minute_of (utf8_lossy (shown m)) ≡ Some m
moment_again m is = ap minute_of (utf8_lossy-IsUtf8 (shown m) (moment_utf8 m (let last = is.1 in omega arith))) ∙ minute_again m is.0 is.1

pub name_again : (form : Form) (t : List ℕ) → has_form form t ≡ true → formed form (utf8_lossy t) ≡ Some t
name_again form t is = rw (utf8_lossy-IsUtf8 t (name_utf8 form t is), is) refl

alternate_again : (a : Alternate) → IsAlternate a → alternate_of (alternate_data a) ≡ Some a
alternate_again a is = rw (amount_again a.fuel is.fuel, amount_again a.minutes is.minutes, station_again a.station is.station) refl

takeoff_again : (t : Option TakeoffAlternate) → MayBeTakeoff t → takeoff_in (option_data takeoff_data t) ≡ Some t
takeoff_again None is = refl
takeoff_again (Some t) is = rw (amount_again t.minutes is.minutes, station_again t.station is.station) refl

-- each item is read again where each thing is
pub each_again : {A : Type 0} (Has : A → Type 0) (read_one : Data → Option A) (written : A → Data) → ((x : A) → Has x → read_one (written x) ≡ Some x)
    → (xs : List A) → AllByRecursion Has xs → each_read read_one (items_of (map written xs)) ≡ Some xs
each_again Has read_one written again [] all = refl
each_again Has read_one written again (x ∷ xs) all = rw (again x all.0, each_again Has read_one written again xs all.1) refl

leg_again : (l : Leg) → IsLeg l → leg_of (leg_data l) ≡ Some l
leg_again l is =
    rw (
      station_again l.from is.from,
      station_again l.to is.to,
      moment_again l.etd is.etd,
      moment_again l.eta is.eta,
      amount_again l.minutes is.minutes,
      amount_again l.burn is.burn,
      amount_again l.extra is.extra,
      amount_again l.minimum is.minimum,
      amount_again l.onboard is.onboard,
      takeoff_again l.takeoff_alternate is.takeoff,
      each_again IsAlternate alternate_of alternate_data alternate_again l.alternates is.alternates,
    ) refl

many : (ls : List Leg) → items_len (items_of (map leg_data ls)) ≡ length ls
many [] = refl
many (l ∷ ls) = ap suc (many ls)

legs_again : (ls : List Leg) → length ls ≤ 1000 → AllByRecursion IsLeg ls → legs_of (items_of (map leg_data ls)) ≡ Some ls
legs_again ls few all = rw (many ls, le-leb (length ls) 1000 few) (each_again IsLeg leg_of leg_data leg_again ls all)

kind_again : (kind : Kind) → kind_of (kind_name kind) ≡ Some kind
kind_again Domestic = refl
kind_again Flag = refl

-- the plan that is written is read
pub plan_again : (p : Plan) → HasForms p → plan_of (plan_data p) ≡ Some p
unfolding plan_of plan_data
plan_again p is =
    rw (kind_again p.kind, legs_again p.legs is.few is.legs, name_again _ p.flight is.flight, name_again _ p.tail is.tail, name_again _ p.captain is.captain) refl

pub id_again : (n : ℕ) → IsId n → up_to 1_000_000_000_000_000 n ≡ Some n
id_again n few = small_again n 1_000_000_000_000_000 few

-- what was done is read of what is written of it
pub done_again : (ids counts : ℕ) (d : Done) → DoneWithin ids counts d → done_within ids counts (done_data d) ≡ Some d
unfolding done_within
done_again ids counts (Report id) is = rw (small_again id ids is) refl
done_again ids counts (Deferral id) is = rw (small_again id ids is) refl
done_again ids counts (Filed release revision) is = rw (small_again release ids is.0, small_again revision ids is.1) refl
done_again ids counts (Prepared release revision digest) is = rw (small_again release ids is.0, small_again revision ids is.1, digest_again digest is.2) refl
done_again ids counts (Release id) is = rw (small_again id ids is) refl
done_again ids counts (Swept reports kept) is = rw (small_again reports counts is.0, small_again kept counts is.1) refl
