-- Floors that rise by a sweep keep their forms and their order.
use Rattle.std.proofs.Common.{◌≡◌, ℕ, List, [], ◌∷◌, refl, ap, ◌∙◌, arith}
use Rattle.std.specs.Prelude.{max}
use Rattle.std.specs.List.{AllByRecursion}
use Rattle.std.specs.Ordering.{nat_cmp, ordering_reverse}
use Rattle.std.specs.declared.cmp.Ordering.{Ordering}
use Rattle.std.specs.declared.cmp.Ordering.TheVariants.{Less, Equal, Greater}
use Rattle.std.specs.Cmp.Lexicographic.{slice_cmp}
use Rattle.std.proofs.lemmas.Cmp.{nat_list_cmp_total}
use Rattle.asks.specs.declared.kept.Floor.{Floor}
use Rattle.asks.specs.declared.kept.KeptReply.{KeptReply}
use Rattle.desk_state.specs.Formed.{ReplyHasForms}
use Rattle.desk_state.specs.Requests.{floor, raised_here, raised_to, raised_by}
use Rattle.asks.specs.Forms.{IsRequest, IsFloor, FloorsRise}

-- ---- what holds of each floor

here_each : (P : Floor → Type 0) (o : Ordering) (actor : List ℕ) (number : ℕ) (f : Floor) (rest raised : List Floor) → P (floor actor number) → P (floor f.actor (max f.number number)) → P f
    → AllByRecursion P rest → AllByRecursion P raised → AllByRecursion P (raised_here o actor number f rest raised)
here_each P Less actor number f rest raised fresh higher here all more = (fresh, (here, all))
here_each P Equal actor number f rest raised fresh higher here all more = (higher, all)
here_each P Greater actor number f rest raised fresh higher here all more = (here, more)

raised_each : (P : Floor → Type 0) (actor : List ℕ) (number : ℕ) (fs : List Floor) → ((f : Floor) → P f → P (floor f.actor (max f.number number))) → P (floor actor number)
    → AllByRecursion P fs → AllByRecursion P (raised_to actor number fs)
raised_each P actor number [] raises fresh all = (fresh, tt)
raised_each P actor number (f ∷ fs) raises fresh all =
    here_each P (slice_cmp nat_cmp actor f.actor) actor number f fs (raised_to actor number fs) fresh (raises f all.0) all.0 all.1 (raised_each P actor number fs raises fresh all.1)

greater_low : (m n : ℕ) → IsRequest m → IsRequest n → IsRequest (max m n)
greater_low m n one two = omega (arith, one, two)

pub raised_formed : (ks : List KeptReply) (fs : List Floor) → AllByRecursion ReplyHasForms ks → AllByRecursion IsFloor fs → AllByRecursion IsFloor (raised_by ks fs)
raised_formed [] fs kept all = all
raised_formed (k ∷ ks) fs kept all =
    raised_formed ks (raised_to k.actor k.number fs) kept.1
    (raised_each IsFloor k.actor k.number fs (λ f is. record { actor = is.actor; number = greater_low f.number k.number is.number kept.0.number })
    (record { actor = kept.0.actor; number = kept.0.number }) all)

-- ---- their order

-- a name that comes before that of a floor
abbrev pub IsBelow : List ℕ → Floor → Type 0
IsBelow name g = slice_cmp nat_cmp name g.actor ≡ Less

pub all_later : (name key : List ℕ) (fs : List Floor) → slice_cmp nat_cmp name key ≡ Less → AllByRecursion (IsBelow key) fs → AllByRecursion (IsBelow name) fs
all_later name key [] below all = tt
all_later name key (f ∷ fs) below all = (nat_list_cmp_total.trans name key f.actor below all.0, all_later name key fs below all.1)

turned : (a b : List ℕ) → slice_cmp nat_cmp a b ≡ Greater → slice_cmp nat_cmp b a ≡ Less
turned a b e = nat_list_cmp_total.antisymm b a ∙ ap ordering_reverse e

here_rises : (o : Ordering) (actor : List ℕ) (number : ℕ) (f : Floor) (rest raised : List Floor) → slice_cmp nat_cmp actor f.actor ≡ o → AllByRecursion (IsBelow f.actor) rest → FloorsRise rest
    → (o ≡ Greater → AllByRecursion (IsBelow f.actor) raised) → FloorsRise raised → FloorsRise (raised_here o actor number f rest raised)
here_rises Less actor number f rest raised e below rising above more = ((e, all_later actor f.actor rest e below), (below, rising))
here_rises Equal actor number f rest raised e below rising above more = (below, rising)
here_rises Greater actor number f rest raised e below rising above more = (above refl, more)

pub raised_rises : (actor : List ℕ) (number : ℕ) (fs : List Floor) → FloorsRise fs → FloorsRise (raised_to actor number fs)
raised_rises actor number [] rising = (tt, tt)
raised_rises actor number (f ∷ fs) rising =
    here_rises (slice_cmp nat_cmp actor f.actor) actor number f fs (raised_to actor number fs) refl rising.0 rising.1
    (λ greater. raised_each (IsBelow f.actor) actor number fs (λ g is. is) (turned actor f.actor greater) rising.0) (raised_rises actor number fs rising.1)

pub raised_rise : (ks : List KeptReply) (fs : List Floor) → FloorsRise fs → FloorsRise (raised_by ks fs)
raised_rise [] fs rising = rising
raised_rise (k ∷ ks) fs rising = raised_rise ks (raised_to k.actor k.number fs) (raised_rises k.actor k.number fs rising)
