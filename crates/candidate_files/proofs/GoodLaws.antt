-- The candidates that a file gives are those of its records, and the record that it names is the first bad one.
use Rattle.std.proofs.Common.{◌≡◌, ◌∙◌, sym, ap, refl, subst, ℕ, suc, ◌+◌, ◌<◌, ◌≤◌, ◌==◌, Bool, true, false, cond, List, [], ◌∷◌, ◌++◌, append-nil, append_assoc, length, length-append, Option, Some, None, Result, Ok, Err, MatchResult, nat_le, decimal, arith}
use Rattle.std.specs.Prelude.{Any}
use Rattle.std.specs.List.{list_any}
use Rattle.std.specs.Str.{bytes_eq}
use Rattle.std.proofs.lemmas.Bool.{and_parts, eqb-true, leb-true}
use Rattle.std.proofs.lemmas.Bool.Decides.{nat_tests}
use Rattle.std.proofs.lemmas.List.Folds.{Any-from_list_any}
use Rattle.std.proofs.lemmas.Slice.Eq.{bytes_eq-Decides}
use Rattle.desk_time.specs.Digits.{◌>>=◌}
use Rattle.desk_time.proofs.NumberLaws.{number_again, number_exact}
use Rattle.desk_io.specs.Station.{is_station, station_of}
use Rattle.ops_tables.specs.Tables.{TableRows}
use Rattle.table_files.specs.Good.{UnderHeader}
use Rattle.table_files.specs.Reading.{are_same}
use Rattle.table_files.proofs.GoodFiles.{same_names, names_same}
use Rattle.plan.specs.Check.{IsPlan}
use Rattle.plan.specs.declared.flights.Plan.{Plan}
use Rattle.advise.specs.declared.candidates.Candidate.{Candidate}
use Rattle.advise.specs.Candidates.{is_candidate}
use Rattle.advise.proofs.ListingLaws.{candidate_limits}
use Rattle.candidate_files.specs.declared.fields.CandidateWhy.{CandidateWhy}
use Rattle.candidate_files.specs.declared.fields.CandidateWhy.TheVariants as why
use Rattle.candidate_files.specs.declared.records.BadCandidate.{BadCandidate}
use Rattle.candidate_files.specs.Candidates.{columns, number, stated, if_allowed, candidate_of, is_same, new_candidate, candidate_after, candidates_after, bad_header, candidates_under, AreCandidatesIn}
use Rattle.candidate_files.specs.Good.{States, AreStated, AreGood, IsSame, IsBadAfter, IsFirstBad, no_header, under_header, Says, SaysFile}
use Rattle.candidate_files.proofs.CandidateLaws.{none_are, one_more_is, good, bad}

found : {A B : Type 0} (o : Option A) (f : A → Option B) (m : B) → (o >>= f) ≡ Some m → (x : A) × (o ≡ Some x) × (f x ≡ Some m)
found None f m e = absurd (cc e)
found (Some x) f m e = (x, refl, e)

-- What a record states

abbrev fields_of : ℕ → List ℕ → ℕ → ℕ → List (List ℕ)
fields_of leg station minutes fuel = decimal leg ∷ station ∷ decimal minutes ∷ decimal fuel ∷ []

abbrev made : ℕ → List ℕ → ℕ → ℕ → Candidate
made leg station minutes fuel = record { leg = leg; alternate = record { station = station; minutes = minutes; fuel = fuel } }

abbrev with_fuel : ℕ → List ℕ → ℕ → List ℕ → Option Candidate
with_fuel leg station minutes f = number f >>= λ fuel. Some (made leg station minutes fuel)

abbrev with_minutes : ℕ → List ℕ → List ℕ → List ℕ → Option Candidate
with_minutes leg station m f = number m >>= λ minutes. with_fuel leg station minutes f

abbrev with_station : ℕ → List ℕ → List ℕ → List ℕ → Option Candidate
with_station leg s m f = station_of s >>= λ station. with_minutes leg station m f

-- the fields are those of the candidate
record IsWritten (fields : List (List ℕ)) (c : Candidate) : Type 0 where
  same : fields ≡ fields_of c.leg c.alternate.station c.alternate.minutes c.alternate.fuel
  station : is_station c.alternate.station ≡ true

station_known : (text station : List ℕ) → station_of text ≡ Some station → (text ≡ station) × (is_station station ≡ true)
station_known text station e = by (is_station text) refl e
  where
    by : (b : Bool) → is_station text ≡ b → cond b (Some text) None ≡ Some station → (text ≡ station) × (is_station station ≡ true)
    by true h e = let same : text ≡ station = cc e in (same, subst (λ t. is_station t ≡ true) same h)
    by false h e = absurd (cc e)

number_known : (text : List ℕ) (n : ℕ) → number text ≡ Some n → text ≡ decimal n
number_known text n e = ((number_exact 4_294_967_295 text (number text) (omega arith) refl n).0 e).1

written_by : (l s m f : List ℕ) (leg : ℕ) (station : List ℕ) (minutes fuel : ℕ) → number l ≡ Some leg → station_of s ≡ Some station → number m ≡ Some minutes → number f ≡ Some fuel
    → IsWritten (l ∷ s ∷ m ∷ f ∷ []) (made leg station minutes fuel)
written_by l s m f leg station minutes fuel of at far pounds =
    let known = station_known s station at in
    record {
      same =
          ap (λ x. x ∷ s ∷ m ∷ f ∷ []) (number_known l leg of) ∙ ap (λ x. decimal leg ∷ x ∷ m ∷ f ∷ []) known.0
          ∙ ap (λ x. decimal leg ∷ station ∷ x ∷ f ∷ []) (number_known m minutes far) ∙ ap (λ x. decimal leg ∷ station ∷ decimal minutes ∷ x ∷ []) (number_known f fuel pounds);
      station = known.1;
    }

some_same : {A : Type 0} (a b : A) → Some a ≡ Some b → a ≡ b
some_same a b e = cc e

stated_means : (fields : List (List ℕ)) (c : Candidate) → stated fields ≡ Some c → IsWritten fields c
stated_means [] c e = absurd (cc e)
stated_means (l ∷ []) c e = absurd (cc e)
stated_means (l ∷ s ∷ []) c e = absurd (cc e)
stated_means (l ∷ s ∷ m ∷ []) c e = absurd (cc e)
stated_means (l ∷ s ∷ m ∷ f ∷ []) c e =
    let of = found (number l) (λ leg. with_station leg s m f) c e in
    let at = found (station_of s) (λ station. with_minutes of.0 station m f) c of.2 in
    let far = found (number m) (λ minutes. with_fuel of.0 at.0 minutes f) c at.2 in
    let pounds = found (number f) (λ fuel. Some (made of.0 at.0 far.0 fuel)) c far.2 in
    subst (IsWritten (l ∷ s ∷ m ∷ f ∷ [])) (some_same (made of.0 at.0 far.0 pounds.0) c pounds.2) (written_by l s m f of.0 at.0 far.0 pounds.0 of.1 at.1 far.1 pounds.1)
stated_means (l ∷ s ∷ m ∷ f ∷ x ∷ others) c e = absurd (cc e)

number_of : (n : ℕ) → n ≤ 1_000_000 → number (decimal n) ≡ Some n
number_of n few = number_again 4_294_967_295 n (omega (arith, few)) (omega (arith, few))

stated_again : (leg : ℕ) (station : List ℕ) (minutes fuel : ℕ) → leg ≤ 1_000_000 → is_station station ≡ true → minutes ≤ 1_000_000 → fuel ≤ 1_000_000
    → stated (fields_of leg station minutes fuel) ≡ Some (made leg station minutes fuel)
stated_again leg station minutes fuel one form far pounds = rw (number_of leg one, form, number_of minutes far, number_of fuel pounds) refl

module _ (tables : TableRows) (plan : Plan) (is : IsPlan plan) where
  -- a record that states a candidate is read as it
  states_read : (fields : List (List ℕ)) (c : Candidate) → States tables plan fields c → stated fields ≡ Some c
  states_read fields c s =
      let few = is.few in
      let within = candidate_limits tables plan c s.allowed in
      let leg = within.0 in
      let minutes = within.1 in
      ap stated s.written ∙ stated_again c.leg c.alternate.station c.alternate.minutes c.alternate.fuel (omega (arith, few, leg)) s.station (omega (arith, minutes)) within.2

  abbrev Tells : List (List ℕ) → Option Candidate → Type 0
  Tells fields None = (c : Candidate) → States tables plan fields c → ⊥
  Tells fields (Some c) = States tables plan fields c

  tells_allowed : (fields : List (List ℕ)) (c : Candidate) → stated fields ≡ Some c → (b : Bool) → is_candidate tables plan c ≡ b → Tells fields (cond b (Some c) None)
  tells_allowed fields c e true h = let w = stated_means fields c e in record { written = w.same; station = w.station; allowed = h }
  tells_allowed fields c e false h = λ other s.
      let same = some_same c other (sym e ∙ states_read fields other s) in
      let both = sym h ∙ ap (is_candidate tables plan) same ∙ s.allowed in
      absurd (cc both)

  tells_stated : (fields : List (List ℕ)) (o : Option Candidate) → stated fields ≡ o → Tells fields (o >>= if_allowed tables plan)
  tells_stated fields None e = λ c s. let both = sym e ∙ states_read fields c s in absurd (cc both)
  tells_stated fields (Some c) e = tells_allowed fields c e (is_candidate tables plan c) refl

  tells : (fields : List (List ℕ)) → Tells fields (candidate_of tables plan fields)
  tells fields = tells_stated fields (stated fields) refl

  -- Why a record is bad

  same_by : (c other : Candidate) → is_same c other ≡ true → IsSame c other
  same_by c other e =
      let both = and_parts (c.leg == other.leg) (bytes_eq c.alternate.station other.alternate.station) e in
      (eqb-true c.leg other.leg both.0, (bytes_eq-Decides c.alternate.station other.alternate.station).0 both.1)

  any_same : (c : Candidate) (earlier : List Candidate) → Any (λ other. is_same c other ≡ true) earlier → Any (IsSame c) earlier
  any_same c earlier h = (h.0, h.1, h.2, h.3, same_by c h.1 h.4)

  -- a record that is good after some candidates
  record IsNext (earlier : List Candidate) (fields : List (List ℕ)) (c : Candidate) : Type 0 where
    room : length earlier < 100
    states : States tables plan fields c
    fresh : list_any (is_same c) earlier ≡ false

  abbrev IsTested : List Candidate → List (List ℕ) → Result Candidate CandidateWhy → Type 0
  IsTested earlier fields result = MatchResult result (IsNext earlier fields) (IsBadAfter tables plan earlier fields)

  tested_key : (earlier : List Candidate) (fields : List (List ℕ)) (c : Candidate) → length earlier < 100 → States tables plan fields c → (b : Bool) → list_any (is_same c) earlier ≡ b
      → IsTested earlier fields (cond b (Err why.Doubled) (Ok c))
  tested_key earlier fields c room states true h = (c, room, states, any_same c earlier (Any-from_list_any (is_same c) earlier h))
  tested_key earlier fields c room states false h = record { room = room; states = states; fresh = h }

  tested_form : (earlier : List Candidate) (fields : List (List ℕ)) → length earlier < 100 → (o : Option Candidate) → Tells fields o → IsTested earlier fields (new_candidate earlier o)
  tested_form earlier fields room None none = (room, none)
  tested_form earlier fields room (Some c) states = tested_key earlier fields c room states (list_any (is_same c) earlier) refl

  tested_room : (earlier : List Candidate) (fields : List (List ℕ)) → length earlier ≤ 100 → (b : Bool) → nat_le 100 (length earlier) ≡ b
      → IsTested earlier fields (cond b (Err why.OverLimit) (new_candidate earlier (candidate_of tables plan fields)))
  tested_room earlier fields few true h = let full = leb-true 100 (length earlier) h in omega (arith, few, full)
  tested_room earlier fields few false h = tested_form earlier fields (grind (arith, nat_tests, h)) (candidate_of tables plan fields) (tells fields)

  tested : (earlier : List Candidate) (fields : List (List ℕ)) → length earlier ≤ 100 → IsTested earlier fields (candidate_after tables plan earlier fields)
  tested earlier fields few = tested_room earlier fields few (nat_le 100 (length earlier)) refl

  -- One record after another

  states_push : (records : List (List (List ℕ))) (candidates : List Candidate) (fields : List (List ℕ)) (c : Candidate) → AreStated tables plan records candidates → States tables plan fields c
      → AreStated tables plan (records ++ fields ∷ []) (candidates ++ c ∷ [])
  states_push [] [] fields c are s = (s, tt)
  states_push [] (x ∷ candidates) fields c are s = absurd are
  states_push (r ∷ records) [] fields c are s = absurd are
  states_push (r ∷ records) (x ∷ candidates) fields c are s = (are.0, states_push records candidates fields c are.1 s)

  same_length : (records : List (List (List ℕ))) (candidates : List Candidate) → AreStated tables plan records candidates → length candidates ≡ length records
  same_length [] [] are = refl
  same_length [] (x ∷ candidates) are = absurd are
  same_length (r ∷ records) [] are = absurd are
  same_length (r ∷ records) (x ∷ candidates) are = ap suc (same_length records candidates are.1)

  one_more : (read : List (List (List ℕ))) (earlier : List Candidate) (fields : List (List ℕ)) (c : Candidate) → AreGood tables plan read earlier → IsNext earlier fields c
      → AreGood tables plan (read ++ fields ∷ []) (earlier ++ c ∷ [])
  one_more read earlier fields c g n = record {
    stated = states_push read earlier fields c g.stated n.states;
    few = let room = n.room in omega (arith, room, length-append earlier (c ∷ []));
    are_candidates = one_more_is tables plan earlier c g.are_candidates (record { allowed = n.states.allowed; fresh = n.fresh });
  }

  -- what comes of records after good ones
  abbrev Comes : List (List (List ℕ)) → Result (List Candidate) BadCandidate → Type 0
  Comes records made = MatchResult made (AreGood tables plan records) (IsFirstBad tables plan records)

  sound : (rest read : List (List (List ℕ))) (earlier : List Candidate) → AreGood tables plan read earlier → Comes (read ++ rest) (candidates_after tables plan earlier rest)
  sound [] read earlier g = subst (λ rs. AreGood tables plan rs earlier) (sym (append-nil read)) g
  sound (fields ∷ others) read earlier g =
      by (candidate_after tables plan earlier fields) refl (tested earlier fields g.few) (λ c n. sound others (read ++ fields ∷ []) (earlier ++ c ∷ []) (one_more read earlier fields c g n))
    where
      by : (o : Result Candidate CandidateWhy) → candidate_after tables plan earlier fields ≡ o → IsTested earlier fields o
          → ((c : Candidate) → IsNext earlier fields c → Comes ((read ++ fields ∷ []) ++ others) (candidates_after tables plan (earlier ++ c ∷ []) others))
          → Comes (read ++ fields ∷ others) (candidates_after tables plan earlier (fields ∷ others))
      by (Err reason) h j more = subst (Comes (read ++ fields ∷ others)) (sym (bad tables plan earlier reason fields others h)) (record {
        good = read;
        fields = fields;
        others = others;
        earlier = earlier;
        order = refl;
        are_good = g;
        number = ap (λ n. n + 2) (same_length read earlier g.stated);
        fails = j;
      })
      by (Ok c) h j more =
          subst (Comes (read ++ fields ∷ others)) (sym (good tables plan earlier c fields others h))
          (subst (λ rs. Comes rs (candidates_after tables plan (earlier ++ c ∷ []) others)) (append_assoc read (fields ∷ []) others) (more c j))

  comes : (records : List (List (List ℕ))) → Comes records (candidates_after tables plan [] records)
  comes records = sound records [] [] (record { stated = tt; few = omega arith; are_candidates = none_are tables plan })

  -- The header

  says_below : (below : List (List (List ℕ))) (made : Result (List Candidate) BadCandidate) → Comes below made → Says tables plan (columns ∷ below) made
  says_below below (Ok candidates) h = record { below = below; order = refl; holds = h }
  says_below below (Err first) h = under_header (record { below = below; order = refl; holds = h })

  says_if : (header : List (List ℕ)) (below : List (List (List ℕ))) (b : Bool) → are_same header columns ≡ b → Says tables plan (header ∷ below) (cond b (candidates_after tables plan [] below) bad_header)
  says_if header below true h =
      subst (λ hs. Says tables plan (hs ∷ below) (candidates_after tables plan [] below)) (sym (same_names header columns h)) (says_below below (candidates_after tables plan [] below) (comes below))
  says_if header below false h = no_header (λ u. apart u) refl
    where
      apart : UnderHeader columns (λ below. Unit {0}) (header ∷ below) → ⊥
      apart u =
          let order : header ∷ below ≡ columns ∷ u.below = u.order in
          let same : header ≡ columns = cc in
          let both = sym h ∙ ap (λ hs. are_same hs columns) same ∙ names_same columns in
          cc

  says_all : (records : List (List (List ℕ))) → Says tables plan records (candidates_under tables plan records)
  says_all [] = no_header (λ u. let order : [] ≡ columns ∷ u.below = u.order in cc) refl
  says_all (header ∷ below) = says_if header below (are_same header columns) refl

  pub says : (text : List ℕ) (read : Result (List Candidate) BadCandidate) → AreCandidatesIn tables plan text read → SaysFile tables plan text read
  says text read a = record { records = a.records; are_records = a.are_records; says = subst (Says tables plan a.records) a.are (says_all a.records) }
