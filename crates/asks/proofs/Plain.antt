-- What is written of plans and of what was done is plain data.
use Rattle.std.proofs.Common.{◌≡◌, ℕ, ◌^◌, ◌<◌, ◌≤◌, max, nat_cmp, Ordering, Less, Bool, true, ◌&&◌, List, [], ◌∷◌, map, Option, None, Some, IsUtf8, refl, arith, is_lt}
use Rattle.std.specs.Prelude.{⊤}
use Rattle.std.specs.List.{AllByRecursion}
use Rattle.std.specs.Cmp.Lexicographic.{slice_cmp}
use Rattle.std.proofs.lemmas.Bool.{and_parts}
use Rattle.json.proofs.Printed.Utf8.{are_ascii, IsUtf8-are_ascii}
use Rattle.serde_json.specs.Data.{Data, Members, no_members, member, depth, items_depth}
use Rattle.serde_json.specs.View.{items_of}
use Rattle.plan.specs.declared.flights.Kind.{Kind}
use Rattle.plan.specs.declared.flights.Kind.TheVariants.{Domestic, Flag}
use Rattle.plan.specs.declared.flights.Alternate.{Alternate}
use Rattle.plan.specs.declared.flights.TakeoffAlternate.{TakeoffAlternate}
use Rattle.plan.specs.declared.flights.Leg.{Leg}
use Rattle.plan.specs.declared.flights.Plan.{Plan}
use Rattle.asks.specs.declared.reply.Done.{Done}
use Rattle.asks.specs.declared.reply.Done.TheVariants.{Report, Deferral, Filed, Prepared, Release, Swept}
use Rattle.asks.specs.Plain.{IsBefore, AreInOrder, IsPlain, ItemsArePlain, HasText, ItemsHaveText, MembersHaveText}
use Rattle.asks.specs.Canonical.{option_data, alternate_members, alternate_data, takeoff_members, takeoff_data, leg_members, leg_data, kind_name, plan_members, plan_data, done_members, done_data}
use Rattle.asks.specs.Forms.{IsAmount, IsAlternate, MayBeTakeoff, IsLeg, HasForms, DoneHasForms, SaidDoneHasForms}
use Rattle.asks.proofs.Texts.{written_utf8, digest_utf8}

-- ---- objects whose keys are literal

abbrev comes_before : List ℕ → Members → Bool
comes_before key no_members = true
comes_before key (member k d ms) = is_lt (slice_cmp nat_cmp key k) && comes_before key ms

abbrev pub in_order : Members → Bool
in_order no_members = true
in_order (member k d ms) = comes_before k ms && in_order ms

pub less : (o : Ordering) → is_lt o ≡ true → o ≡ Less
less o is = grind arith

before : (key : List ℕ) (ms : Members) → comes_before key ms ≡ true → IsBefore key ms
before key no_members is = tt
before key (member k d ms) is =
    let parts = and_parts (is_lt (slice_cmp nat_cmp key k)) (comes_before key ms) is in
    (less _ parts.0, before key ms parts.1)

-- for keys that are literal this computes
pub order_of : (ms : Members) → in_order ms ≡ true → AreInOrder ms
order_of no_members is = tt
order_of (member k d ms) is =
    let parts = and_parts (comes_before k ms) (in_order ms) is in
    (before k ms parts.0, order_of ms parts.1)

abbrev pub ValuesHaveText : Members → Type 0
ValuesHaveText no_members = ⊤
ValuesHaveText (member k d ms) = HasText d × ValuesHaveText ms

abbrev pub have_ascii_keys : Members → Bool
have_ascii_keys no_members = true
have_ascii_keys (member k d ms) = are_ascii k && have_ascii_keys ms

pub text_of : (ms : Members) → have_ascii_keys ms ≡ true → ValuesHaveText ms → MembersHaveText ms
text_of no_members is have = tt
text_of (member k d ms) is have =
    let parts = and_parts (are_ascii k) (have_ascii_keys ms) is in
    (IsUtf8-are_ascii k parts.0, have.0, text_of ms parts.1 have.1)

-- ---- lists

pub list_plain : {A : Type 0} (Has : A → Type 0) (written : A → Data) → ((x : A) → Has x → IsPlain (written x))
    → (xs : List A) → AllByRecursion Has xs → ItemsArePlain (items_of (map written xs))
list_plain Has written plain [] all = tt
list_plain Has written plain (x ∷ xs) all = (plain x all.0, list_plain Has written plain xs all.1)

pub list_has_text : {A : Type 0} (written : A → Data) → ((x : A) → HasText (written x)) → (xs : List A) → ItemsHaveText (items_of (map written xs))
list_has_text written has [] = tt
list_has_text written has (x ∷ xs) = (has x, list_has_text written has xs)

pub deeper : (a b n : ℕ) → a ≤ n → b ≤ n → max a b ≤ n
deeper a b n first second = omega arith

pub list_depth : {A : Type 0} (written : A → Data) (n : ℕ) → ((x : A) → depth (written x) ≤ n) → (xs : List A) → items_depth (items_of (map written xs)) ≤ n
list_depth written n few [] = omega arith
list_depth written n few (x ∷ xs) = deeper _ _ n (few x) (list_depth written n few xs)

-- ---- plans

pub amount_plain : (n : ℕ) → IsAmount n → n < 2 ^ 64
amount_plain n few = omega arith

alternate_plain : (a : Alternate) → IsAlternate a → IsPlain (alternate_data a)
alternate_plain a is = (order_of (alternate_members a) refl, (amount_plain a.fuel is.fuel, (amount_plain a.minutes is.minutes, (tt, tt))))

takeoff_plain : (t : Option TakeoffAlternate) → MayBeTakeoff t → IsPlain (option_data takeoff_data t)
takeoff_plain None is = tt
takeoff_plain (Some t) is = (order_of (takeoff_members t) refl, (amount_plain t.minutes is.minutes, (tt, tt)))

leg_plain : (l : Leg) → IsLeg l → IsPlain (leg_data l)
leg_plain l is = (
  order_of (leg_members l) refl,
  (
    list_plain IsAlternate alternate_data alternate_plain l.alternates is.alternates,
    (
      amount_plain l.burn is.burn,
      (
        tt,
        (
          tt,
          (
            amount_plain l.extra is.extra,
            (
              tt,
              (
                amount_plain l.minimum is.minimum,
                (
                  amount_plain l.minutes is.minutes,
                  (
                    amount_plain l.onboard is.onboard,
                    (
                      takeoff_plain l.takeoff_alternate is.takeoff,
                      (tt, tt),
                    ),
                  ),
                ),
              ),
            ),
          ),
        ),
      ),
    ),
  ),
)

-- a plan of good form is plain data
pub plan_plain : (p : Plan) → HasForms p → IsPlain (plan_data p)
unfolding plan_data
plan_plain p is = (order_of (plan_members p) refl, (tt, (tt, (tt, (list_plain IsLeg leg_data leg_plain p.legs is.legs, (tt, tt))))))

alternate_has_text : (a : Alternate) → HasText (alternate_data a)
alternate_has_text a = text_of (alternate_members a) refl (tt, (tt, (written_utf8 a.station, tt)))

takeoff_has_text : (t : Option TakeoffAlternate) → HasText (option_data takeoff_data t)
takeoff_has_text None = tt
takeoff_has_text (Some t) = text_of (takeoff_members t) refl (tt, (written_utf8 t.station, tt))

leg_has_text : (l : Leg) → HasText (leg_data l)
leg_has_text l = text_of (leg_members l) refl (
  list_has_text alternate_data alternate_has_text l.alternates,
  (
    tt,
    (
      written_utf8 _,
      (
        written_utf8 _,
        (
          tt,
          (
            written_utf8 l.from,
            (
              tt,
              (
                tt,
                (
                  tt,
                  (
                    takeoff_has_text l.takeoff_alternate,
                    (written_utf8 l.to, tt),
                  ),
                ),
              ),
            ),
          ),
        ),
      ),
    ),
  ),
)

kind_has_text : (kind : Kind) → IsUtf8 (kind_name kind)
kind_has_text Domestic = IsUtf8-are_ascii _ refl
kind_has_text Flag = IsUtf8-are_ascii _ refl

-- all text of a plan is UTF-8 as it is written
pub plan_has_text : (p : Plan) → HasText (plan_data p)
unfolding plan_data
plan_has_text p = text_of (plan_members p) refl (written_utf8 p.captain, (written_utf8 p.flight, (kind_has_text p.kind, (list_has_text leg_data leg_has_text p.legs, (written_utf8 p.tail, tt)))))

alternate_depth : (a : Alternate) → depth (alternate_data a) ≤ 1
alternate_depth a = omega arith

takeoff_depth : (t : Option TakeoffAlternate) → depth (option_data takeoff_data t) ≤ 1
takeoff_depth None = omega arith
takeoff_depth (Some t) = omega arith

leg_depth : (l : Leg) → depth (leg_data l) ≤ 3
leg_depth l =
    let alternates = list_depth alternate_data 1 alternate_depth l.alternates in
    let takeoff = takeoff_depth l.takeoff_alternate in
    omega (arith, alternates, takeoff)

-- lists and objects in a plan nest five times
pub plan_depth : (p : Plan) → depth (plan_data p) ≤ 5
unfolding plan_data
plan_depth p = let legs = list_depth leg_data 3 leg_depth p.legs in omega (arith, legs)

-- ---- what was done

wide_plain : (n : ℕ) → n ≤ 18_446_744_073_709_551_615 → n < 2 ^ 64
wide_plain n few = omega arith

pub done_plain : (d : Done) → SaidDoneHasForms d → IsPlain (done_data d)
done_plain (Report id) is = (order_of (done_members (Report id)) refl, (wide_plain id is, tt))
done_plain (Deferral id) is = (order_of (done_members (Deferral id)) refl, (wide_plain id is, tt))
done_plain (Filed release revision) is = (order_of (done_members (Filed release revision)) refl, (wide_plain release is.0, (wide_plain revision is.1, tt)))
done_plain (Prepared release revision digest) is = (order_of (done_members (Prepared release revision digest)) refl, (tt, (wide_plain release is.0, (wide_plain revision is.1, tt))))
done_plain (Release id) is = (order_of (done_members (Release id)) refl, (wide_plain id is, tt))
done_plain (Swept reports kept) is = (order_of (done_members (Swept reports kept)) refl, (wide_plain kept is.1, (wide_plain reports is.0, tt)))

pub done_has_text : (d : Done) → SaidDoneHasForms d → HasText (done_data d)
done_has_text (Report id) is = text_of (done_members (Report id)) refl (tt, tt)
done_has_text (Deferral id) is = text_of (done_members (Deferral id)) refl (tt, tt)
done_has_text (Filed release revision) is = text_of (done_members (Filed release revision)) refl (tt, (tt, tt))
done_has_text (Prepared release revision digest) is = text_of (done_members (Prepared release revision digest)) refl (digest_utf8 digest is.2, (tt, (tt, tt)))
done_has_text (Release id) is = text_of (done_members (Release id)) refl (tt, tt)
done_has_text (Swept reports kept) is = text_of (done_members (Swept reports kept)) refl (tt, (tt, tt))

-- what is kept may be said
pub kept_said : (d : Done) → DoneHasForms d → SaidDoneHasForms d
kept_said (Report id) is = omega arith
kept_said (Deferral id) is = omega arith
kept_said (Filed release revision) is = let one = is.0 in let two = is.1 in (omega (arith, one), omega (arith, two))
kept_said (Prepared release revision digest) is = let one = is.0 in let two = is.1 in (omega (arith, one), omega (arith, two), is.2)
kept_said (Release id) is = omega arith
kept_said (Swept reports kept) is = let one = is.0 in let two = is.1 in (omega (arith, one), omega (arith, two))

pub done_depth : (d : Done) → depth (done_data d) ≤ 1
done_depth (Report id) = omega arith
done_depth (Deferral id) = omega arith
done_depth (Filed release revision) = omega arith
done_depth (Prepared release revision digest) = omega arith
done_depth (Release id) = omega arith
done_depth (Swept reports kept) = omega arith
