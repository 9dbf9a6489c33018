-- Well-formed requests and records: their numbers, texts, plans, asks, results, releases, findings and floors.
use Rattle.std.specs.Prelude.{◌≡◌, ℕ, ◌≤◌, true, List, [], ◌∷◌, length, Option, None, Some, IfSome, IsUtf8}
use Rattle.std.specs.List.{AllByRecursion}
use Rattle.std.specs.Ordering.{nat_cmp}
use Rattle.std.specs.declared.cmp.Ordering.TheVariants.{Less}
use Rattle.std.specs.Cmp.Lexicographic.{slice_cmp}
use Rattle.desk_io.specs.Station.{is_station}
use Rattle.ops_tables.specs.Forms.{is_person}
use Rattle.plan.specs.Texts.{HasMoment}
use Rattle.desk_time.specs.Limits.{IsMoment}
use Rattle.plan.specs.declared.findings.Finding.{Finding}
use Rattle.plan.specs.declared.flights.Alternate.{Alternate}
use Rattle.plan.specs.declared.flights.TakeoffAlternate.{TakeoffAlternate}
use Rattle.plan.specs.declared.flights.Leg.{Leg}
use Rattle.plan.specs.declared.flights.Plan.{Plan}
use Rattle.plan.specs.declared.release.Attached.{Attached}
use Rattle.plan.specs.declared.release.Release.{Release as ReleaseOf}
use Rattle.plan.specs.declared.release.Revision.{Revision}
use Rattle.plan.specs.declared.release.Signature.{Signature}
use Rattle.asks.specs.declared.call.Call.{Call}
use Rattle.asks.specs.declared.call.Ask.{Ask}
use Rattle.asks.specs.declared.call.Ask.TheVariants.{Admit, Defer, Clear, Draft, Prepare, Sign, Concur, Amend, Cancel, Depart, Arrive, Acknowledge, Purge, Sweep, ViewBoard, ViewAlerts, ViewRelease, ViewWeather, ViewDeferred}
use Rattle.asks.specs.declared.kept.Floor.{Floor}
use Rattle.asks.specs.declared.reply.Done.{Done}
use Rattle.asks.specs.declared.reply.Done.TheVariants.{Report, Deferral, Filed, Prepared, Release, Swept}
use Rattle.asks.specs.declared.plans.Form.TheVariants.{Flight, Tail, Captain}
use Rattle.asks.specs.Digests.{IsDigest}
use Rattle.asks.specs.Plans.{has_form}

-- a 32-bit number
abbrev pub IsAmount : ℕ → Type 0
IsAmount n = n ≤ 4_294_967_295

abbrev pub IsId : ℕ → Type 0
IsId n = n ≤ 1_000_000_000_000_000

-- a UTF-8 text of at most 64 bytes
pub record IsShort (t : List ℕ) : Type 0 where
  pub text : IsUtf8 t
  pub few : length t ≤ 64

-- an alternate with well-formed fields
pub record IsAlternate (a : Alternate) : Type 0 where
  pub station : is_station a.station ≡ true
  pub minutes : IsAmount a.minutes
  pub fuel : IsAmount a.fuel

pub record IsTakeoff (t : TakeoffAlternate) : Type 0 where
  pub station : is_station t.station ≡ true
  pub minutes : IsAmount t.minutes

abbrev pub MayBeTakeoff : Option TakeoffAlternate → Type 0
MayBeTakeoff None = Unit {0}
MayBeTakeoff (Some t) = IsTakeoff t

-- a leg with well-formed fields
pub record IsLeg (l : Leg) : Type 0 where
  pub from : is_station l.from ≡ true
  pub to : is_station l.to ≡ true
  pub etd : IsMoment l.etd
  pub eta : IsMoment l.eta
  pub minutes : IsAmount l.minutes
  pub burn : IsAmount l.burn
  pub extra : IsAmount l.extra
  pub minimum : IsAmount l.minimum
  pub onboard : IsAmount l.onboard
  pub takeoff : MayBeTakeoff l.takeoff_alternate
  pub alternates : AllByRecursion IsAlternate l.alternates

-- a plan with well-formed fields
pub record HasForms (p : Plan) : Type 0 where
  pub flight : has_form Flight p.flight ≡ true
  pub tail : has_form Tail p.tail ≡ true
  pub captain : has_form Captain p.captain ≡ true
  pub few : length p.legs ≤ 1000
  pub legs : AllByRecursion IsLeg p.legs

-- an ask with well-formed fields
abbrev pub AskHasForms : Ask → Type 0
AskHasForms (Admit text) = IsUtf8 text
AskHasForms (Defer tail item found) = IsShort tail × IsShort item × IsMoment found
AskHasForms (Clear deferral) = IsId deferral
AskHasForms (Draft plan) = HasForms plan
AskHasForms (Prepare release) = IsId release
AskHasForms (Sign release revision digest) = IsId release × IsId revision × IsDigest digest
AskHasForms (Concur release revision digest) = IsId release × IsId revision × IsDigest digest
AskHasForms (Amend release plan) = IsId release × HasForms plan
AskHasForms (Cancel release) = IsId release
AskHasForms (Depart release leg) = IsId release × IsAmount leg
AskHasForms (Arrive release leg) = IsId release × IsAmount leg
AskHasForms (Acknowledge release version) = IsId release × IsId version
AskHasForms (Purge release) = IsId release
AskHasForms (Sweep before) = IsMoment before
AskHasForms ViewBoard = Unit {0}
AskHasForms ViewAlerts = Unit {0}
AskHasForms (ViewRelease release) = IsId release
AskHasForms (ViewWeather station) = is_station station ≡ true
AskHasForms (ViewDeferred tail) = IsShort tail

-- a call with well-formed fields
pub record CallHasForms (c : Call) : Type 0 where
  pub actor : IsShort c.actor
  pub key : IsShort c.key
  pub number : c.number ≤ 1_000_000_000_000
  pub ask : AskHasForms c.ask

-- A result with a well-formed digest. Ids and numbers of revisions are within one limit, counts within another.
abbrev pub DoneWithin : ℕ → ℕ → Done → Type 0
DoneWithin ids counts (Report id) = id ≤ ids
DoneWithin ids counts (Deferral id) = id ≤ ids
DoneWithin ids counts (Filed release revision) = (release ≤ ids) × (revision ≤ ids)
DoneWithin ids counts (Prepared release revision digest) = (release ≤ ids) × (revision ≤ ids) × IsDigest digest
DoneWithin ids counts (Release id) = id ≤ ids
DoneWithin ids counts (Swept reports kept) = (reports ≤ counts) × (kept ≤ counts)

-- a result as the desk keeps it
abbrev pub DoneHasForms : Done → Type 0
DoneHasForms done = DoneWithin 1_000_000_000_000_000 4_294_967_295 done

-- a result as a reply may state it, with all 64-bit numbers
abbrev pub SaidDoneHasForms : Done → Type 0
SaidDoneHasForms done = DoneWithin 18_446_744_073_709_551_615 18_446_744_073_709_551_615 done

-- ---- releases

-- an attached report: its number and any UTF-8 text
pub record IsAttached (a : Attached) : Type 0 where
  pub report : IsId a.report
  pub text : IsUtf8 a.text

-- a signature: a person's name, a moment and a digest
pub record IsSignature (s : Signature) : Type 0 where
  pub actor : is_person s.actor ≡ true
  pub at : IsMoment s.at
  pub digest : IsDigest s.digest

-- the hours of a captain, at most 100,000
abbrev pub IsHours : ℕ → Type 0
IsHours n = n ≤ 100_000

-- a revision with well-formed fields
pub record IsRevision (v : Revision) : Type 0 where
  pub number : IsId v.number
  pub plan : HasForms v.plan
  pub attached : AllByRecursion IsAttached v.attached
  pub dispatcher : IfSome v.dispatcher IsSignature
  pub captain : IfSome v.captain IsSignature
  pub hours : IfSome v.hours IsHours

-- a release with well-formed fields
pub record IsFormed (r : ReleaseOf) : Type 0 where
  pub holder : is_person r.holder ≡ true
  pub moment : HasMoment r.phase
  pub pending : IfSome r.pending IsRevision
  pub active : IfSome r.active IsRevision

-- ---- findings and floors

-- a finding whose leg is a 32-bit number and whose place is within the limit
pub record FindingWithin (places : ℕ) (f : Finding) : Type 0 where
  pub leg : IsAmount f.leg
  pub place : f.place ≤ places

-- a finding as the desk keeps it
abbrev pub IsFinding : Finding → Type 0
IsFinding f = FindingWithin 1_000_000_000_000_000 f

-- a finding as a reply may state it, with a 64-bit place
abbrev pub IsSaidFinding : Finding → Type 0
IsSaidFinding f = FindingWithin 18_446_744_073_709_551_615 f

-- the number of a request, at most 10^12
abbrev pub IsRequest : ℕ → Type 0
IsRequest n = n ≤ 1_000_000_000_000

-- the name of a person and the number of a request
pub record IsFloor (f : Floor) : Type 0 where
  pub actor : is_person f.actor ≡ true
  pub number : IsRequest f.number

-- the names are in byte order without duplicates
abbrev pub FloorsRise : List Floor → Type 0
FloorsRise [] = Unit {0}
FloorsRise (f ∷ fs) = AllByRecursion (λ (g : Floor). slice_cmp nat_cmp f.actor g.actor ≡ Less) fs × FloorsRise fs
