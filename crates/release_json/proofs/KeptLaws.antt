-- The test of validity says whether phase, revisions and signatures agree.
use Rattle.std.proofs.Common.{◌≡◌, ◌↔◌, ℕ, ◌≤◌, Bool, true, not, ◌&&◌, List, length, Option, None, Some, IfSome, IsSome, refl, sym, subst, le-leb, lt-ltb, is_some, nat_le, bytes_eq}
use Rattle.std.proofs.lemmas.Bool.{and_parts, and_from, leb-true, ltb-true}
use Rattle.std.proofs.lemmas.Slice.Eq.{bytes_eq-Decides}
use Rattle.plan.specs.Phases.{PhaseFits}
use Rattle.plan.specs.declared.flights.Leg.{Leg}
use Rattle.plan.specs.declared.release.Phase.{Phase}
use Rattle.plan.specs.declared.release.Phase.TheVariants.{Drafted, Ready, Flying, Stopped, Completed, Cancelled}
use Rattle.plan.specs.declared.release.Release.{Release}
use Rattle.plan.specs.declared.release.Revision.{Revision}
use Rattle.plan.specs.declared.release.Signature.{Signature}
use Rattle.release_text.specs.Revisions.{revision_digest}
use Rattle.release_text.specs.Valid.{IsThere, IsNone, IsPhased, IsSigned, BearsBoth, MaySigned, Waits, HasLegs, AreNumbered, IsValid, HasSignedHours, HoursAreSigned}
use Rattle.release_json.specs.Kept.{is_phased, phase_fits, has_legs, are_numbered, is_shaped, has_digest, bears_both, may_be_signed, waits, is_valid}

there : (v : Option Revision) → is_some v ≡ true → IsThere v
there None is = absurd (cc is)
there (Some v) is = tt

is_there : (v : Option Revision) → IsThere v → is_some v ≡ true
is_there None is = absurd is
is_there (Some v) is = refl

none : (v : Option Revision) → not (is_some v) ≡ true → IsNone v
none None is = tt
none (Some v) is = absurd (cc is)

is_none : (v : Option Revision) → IsNone v → not (is_some v) ≡ true
is_none None is = refl
is_none (Some v) is = absurd is

phased : (p : Phase) (v w : Option Revision) → is_phased p (is_some v) (is_some w) ≡ true → IsPhased p v w
phased Drafted v w is = let parts = and_parts (is_some v) (not (is_some w)) is in (there v parts.0, none w parts.1)
phased Ready v w is = there w is
phased (Flying leg) v w is = there w is
phased (Stopped next since again) v w is = there w is
phased (Completed at) v w is = none v is
phased (Cancelled at) v w is = none v is

is_phased_from : (p : Phase) (v w : Option Revision) → IsPhased p v w → is_phased p (is_some v) (is_some w) ≡ true
is_phased_from Drafted v w is = and_from (is_some v) (not (is_some w)) (is_there v is.0) (is_none w is.1)
is_phased_from Ready v w is = is_there w is
is_phased_from (Flying leg) v w is = is_there w is
is_phased_from (Stopped next since again) v w is = is_there w is
is_phased_from (Completed at) v w is = is_none v is
is_phased_from (Cancelled at) v w is = is_none v is

within : (leg n : ℕ) → (nat_le 1 leg && nat_le leg n) ≡ true → (1 ≤ leg) × (leg ≤ n)
within leg n is = let parts = and_parts (nat_le 1 leg) (nat_le leg n) is in (leb-true 1 leg parts.0, leb-true leg n parts.1)

is_within : (leg n : ℕ) → 1 ≤ leg → leg ≤ n → (nat_le 1 leg && nat_le leg n) ≡ true
is_within leg n one most = and_from (nat_le 1 leg) (nat_le leg n) (le-leb 1 leg one) (le-leb leg n most)

fits : (p : Phase) (legs : List Leg) → phase_fits p (length legs) ≡ true → PhaseFits p legs
fits Drafted legs is = tt
fits Ready legs is = tt
fits (Flying leg) legs is = within leg (length legs) is
fits (Stopped next since again) legs is = within next (length legs) is
fits (Completed at) legs is = tt
fits (Cancelled at) legs is = tt

is_fit : (p : Phase) (legs : List Leg) → PhaseFits p legs → phase_fits p (length legs) ≡ true
is_fit Drafted legs is = refl
is_fit Ready legs is = refl
is_fit (Flying leg) legs is = is_within leg (length legs) is.0 is.1
is_fit (Stopped next since again) legs is = is_within next (length legs) is.0 is.1
is_fit (Completed at) legs is = refl
is_fit (Cancelled at) legs is = refl

legs : (p : Phase) (v : Option Revision) → has_legs p v ≡ true → IfSome v (HasLegs p)
legs p None is = tt
legs p (Some v) is =
    let parts = and_parts (nat_le 1 (length v.plan.legs)) (phase_fits p (length v.plan.legs)) is in
    record { some = leb-true 1 (length v.plan.legs) parts.0; fits = fits p v.plan.legs parts.1 }

have_legs : (p : Phase) (v : Option Revision) → IfSome v (HasLegs p) → has_legs p v ≡ true
have_legs p None is = refl
have_legs p (Some v) is = and_from (nat_le 1 (length v.plan.legs)) (phase_fits p (length v.plan.legs)) (le-leb 1 (length v.plan.legs) is.some) (is_fit p v.plan.legs is.fits)

numbered : (v w : Option Revision) → are_numbered v w ≡ true → AreNumbered v w
numbered None w is = tt
numbered (Some v) None is = tt
numbered (Some v) (Some w) is = ltb-true w.number v.number is

are_numbered_from : (v w : Option Revision) → AreNumbered v w → are_numbered v w ≡ true
are_numbered_from None w is = refl
are_numbered_from (Some v) None is = refl
are_numbered_from (Some v) (Some w) is = lt-ltb w.number v.number is

signed : (v : Revision) (s : Option Signature) → has_digest (revision_digest v) s ≡ true → IsSigned v s
signed v None is = absurd (cc is)
signed v (Some s) is = (bytes_eq-Decides s.digest (revision_digest v)).0 is

is_signed : (v : Revision) (s : Option Signature) → IsSigned v s → has_digest (revision_digest v) s ≡ true
is_signed v None is = absurd is
is_signed v (Some s) is = (bytes_eq-Decides s.digest (revision_digest v)).1 is

both : (v : Option Revision) → bears_both v ≡ true → IfSome v BearsBoth
both None is = tt
both (Some v) is =
    let parts = and_parts (v.prepared && has_digest (revision_digest v) v.dispatcher) (has_digest (revision_digest v) v.captain) is in
    let first = and_parts v.prepared (has_digest (revision_digest v) v.dispatcher) parts.0 in
    record { prepared = first.0; dispatcher = signed v v.dispatcher first.1; captain = signed v v.captain parts.1 }

bears : (v : Option Revision) → IfSome v BearsBoth → bears_both v ≡ true
bears None is = refl
bears (Some v) is =
    and_from (v.prepared && has_digest (revision_digest v) v.dispatcher) (has_digest (revision_digest v) v.captain)
    (and_from v.prepared (has_digest (revision_digest v) v.dispatcher) is.prepared (is_signed v v.dispatcher is.dispatcher)) (is_signed v v.captain is.captain)

may_signed : (v : Revision) (s : Option Signature) → may_be_signed v s ≡ true → MaySigned v s
may_signed v None is = tt
may_signed v (Some s) is =
    let parts = and_parts v.prepared (bytes_eq s.digest (revision_digest v)) is in
    (parts.0, (bytes_eq-Decides s.digest (revision_digest v)).0 parts.1)

may_be : (v : Revision) (s : Option Signature) → MaySigned v s → may_be_signed v s ≡ true
may_be v None is = refl
may_be v (Some s) is = and_from v.prepared (bytes_eq s.digest (revision_digest v)) is.0 ((bytes_eq-Decides s.digest (revision_digest v)).1 is.1)

nothing : {A : Type 0} (o : Option A) → not (is_some o) ≡ true → o ≡ None
nothing None is = refl
nothing (Some x) is = absurd (cc is)

is_nothing : {A : Type 0} (o : Option A) → o ≡ None → not (is_some o) ≡ true
is_nothing o is = rw is refl

waiting : (v : Option Revision) → waits v ≡ true → IfSome v Waits
waiting None is = tt
waiting (Some v) is =
    let parts = and_parts (not (is_some v.captain) && not (is_some v.hours)) (may_be_signed v v.dispatcher) is in
    let first = and_parts (not (is_some v.captain)) (not (is_some v.hours)) parts.0 in
    record { captain = nothing v.captain first.0; hours = nothing v.hours first.1; dispatcher = may_signed v v.dispatcher parts.1 }

is_waiting : (v : Option Revision) → IfSome v Waits → waits v ≡ true
is_waiting None is = refl
is_waiting (Some v) is =
    and_from (not (is_some v.captain) && not (is_some v.hours)) (may_be_signed v v.dispatcher)
    (and_from (not (is_some v.captain)) (not (is_some v.hours)) (is_nothing v.captain is.captain) (is_nothing v.hours is.hours)) (may_be v v.dispatcher is.dispatcher)

abbrev phased_test : Release → Bool
phased_test r = is_phased r.phase (is_some r.pending) (is_some r.active)

pub valid_from_test : (r : Release) → is_valid r ≡ true → IsValid r
unfolding is_valid
valid_from_test r is =
    let a = and_parts (is_shaped r && bears_both r.active) (waits r.pending) is in
    let b = and_parts (is_shaped r) (bears_both r.active) a.0 in
    let d = and_parts (phased_test r && are_numbered r.pending r.active && has_legs r.phase r.pending) (has_legs r.phase r.active) b.0 in
    let e = and_parts (phased_test r && are_numbered r.pending r.active) (has_legs r.phase r.pending) d.0 in
    let f = and_parts (phased_test r) (are_numbered r.pending r.active) e.0 in
    record {
      phased = phased r.phase r.pending r.active f.0;
      numbered = numbered r.pending r.active f.1;
      pending_legs = legs r.phase r.pending e.1;
      active_legs = legs r.phase r.active d.1;
      both = both r.active b.1;
      waits = waiting r.pending a.1;
    }

shaped : (r : Release) → IsValid r → is_shaped r ≡ true
shaped r is =
    and_from (phased_test r && are_numbered r.pending r.active && has_legs r.phase r.pending) (has_legs r.phase r.active)
    (and_from (phased_test r && are_numbered r.pending r.active) (has_legs r.phase r.pending)
    (and_from (phased_test r) (are_numbered r.pending r.active) (is_phased_from r.phase r.pending r.active is.phased) (are_numbered_from r.pending r.active is.numbered))
    (have_legs r.phase r.pending is.pending_legs)) (have_legs r.phase r.active is.active_legs)

pub test_from_valid : (r : Release) → IsValid r → is_valid r ≡ true
unfolding is_valid
test_from_valid r is =
    and_from (is_shaped r && bears_both r.active) (waits r.pending) (and_from (is_shaped r) (bears_both r.active) (shaped r is) (bears r.active is.both)) (is_waiting r.pending is.waits)

-- the test tells whether phase, revisions and signatures agree
pub valid_tested : (r : Release) → (is_valid r ≡ true) ↔ IsValid r
valid_tested r = (valid_from_test r, test_from_valid r)

-- ---- a captain's hours stand beside his signature

signed_there : (v : Revision) (s : Option Signature) → IsSigned v s → IsSome s
signed_there v None is = absurd is
signed_there v (Some s) is = refl

beside : (hours : Option ℕ) (s : Option Signature) → IsSome s → IfSome hours (λ h. IsSome s)
beside None s is = tt
beside (Some h) s is = is

active_signed : (v : Option Revision) → IfSome v BearsBoth → IfSome v HasSignedHours
active_signed None is = tt
active_signed (Some v) is = beside v.hours v.captain (signed_there v v.captain is.captain)

pending_signed : (v : Option Revision) → IfSome v Waits → IfSome v HasSignedHours
pending_signed None is = tt
pending_signed (Some v) is = subst (λ (o : Option ℕ). IfSome o (λ h. IsSome v.captain)) (sym is.hours) tt

-- in a valid release hours stand only beside a captain's signature
pub hours_signed : (r : Release) → IsValid r → HoursAreSigned r
hours_signed r is = record { pending = pending_signed r.pending is.waits; active = active_signed r.active is.both }
