-- What the parts of a forecast are, of every text that is read.
use Rattle.std.proofs.Common.{◌≡◌, ℕ, ◌+◌, ◌-◌, ◌/◌, ◌==◌, ◌&&◌, ◌||◌, Bool, true, false, cond, bytes_eq, codes, is_some, List, [], ◌∷◌, take, drop, map, All, Option, None, Some, Result, Ok, Err, IfSome, IfOk, refl, sym, ◌∙◌, subst}
use Rattle.std.proofs.lemmas.List.Elements.{All-nil, All-cons, All-head, All-tail}
use Rattle.desk_time.specs.Digits.{digit}
use Rattle.codes.specs.Answers.{Answers}
use Rattle.codes.specs.Groups.{first_of}
use Rattle.codes.specs.Cond.{cond_of}
use Rattle.codes.specs.Period.{end_of, numbered, period_due}
use Rattle.codes.specs.declared.cond.Cond.{Cond}
use Rattle.codes.specs.declared.fault.BadReport.{BadReport}
use Rattle.codes.specs.declared.fault.ReportFault.{ReportFault}
use Rattle.codes.specs.declared.fault.Form.TheVariants.{Forecast}
use Rattle.weather_reports.specs.declared.change.Change.{Change}
use Rattle.weather_reports.specs.declared.change.Change.TheVariants.{At, During, Chance, Misshaped}
use Rattle.weather_reports.specs.declared.forecast.Part.{Part}
use Rattle.weather_reports.specs.declared.forecast.PartKind.{PartKind}
use Rattle.weather_reports.specs.declared.forecast.PartKind.TheVariants.{Base, From, Becoming, Tempo, Prob}
use Rattle.weather_reports.specs.declared.forecast.Taf.{Taf}
use Rattle.weather_reports.specs.declared.forecast.TafState.TheVariants.{Normal, Nil, Cancelled}
use Rattle.weather_reports.specs.declared.reader.Head.{Head}
use Rattle.weather_reports.specs.Words.{is_remarks, is_tempo, is_cancelled, is_nil, moment_word, chance_word, period_word, other_word, change_of, is_chance, change_after}
use Rattle.weather_reports.specs.Parts.{◌>>=◌, Turn, turns, noted, all_or_fault, stretch, part_of, part_during, part_at, part_of_turn, parts_of, IsChange}
use Rattle.weather_reports.specs.TafReading.{station_due, time_due, head_of, forecast, with_parts, after_validity, after_time, after_station, after_modifiers, modifier_count, reading, AreParts}

-- what a chain answered was answered at each step
pub record Steps {A B E : Type 0} (r : Result A E) (f : A → Result B E) (b : B) : Type 0 where
  pub value : A
  pub is : r ≡ Ok value
  pub next : f value ≡ Ok b

pub steps : {A B E : Type 0} (r : Result A E) (f : A → Result B E) (b : B) → (r >>= f) ≡ Ok b → Steps r f b
steps (Ok x) f b e = record { value = x; is = refl; next = e }
steps (Err x) f b e = absurd cc

-- a change that begins no base, and of which only FM begins one that replaces all
abbrev IsTurn : Change → Type 0
IsTurn (At digits) = Unit {0}
IsTurn (During kind) = (kind ≡ Base → ⊥) × (kind ≡ From → ⊥)
IsTurn Chance = Unit {0}
IsTurn Misshaped = Unit {0}

abbrev IsTurnIf : Option Change → Type 0
IsTurnIf change = IfSome change IsTurn

turn_of : (b : Bool) (x y : Option Change) → IsTurnIf x → IsTurnIf y → IsTurnIf (cond b x y)
turn_of true x y p q = p
turn_of false x y p q = q

turn_moment : (digits : List ℕ) → IsTurn (moment_word digits)
turn_moment [] = tt
turn_moment (a ∷ []) = tt
turn_moment (a ∷ b ∷ []) = tt
turn_moment (a ∷ b ∷ c ∷ []) = tt
turn_moment (a ∷ b ∷ c ∷ d ∷ []) = tt
turn_moment (a ∷ b ∷ c ∷ d ∷ e ∷ []) = tt
turn_moment (a ∷ b ∷ c ∷ d ∷ e ∷ f ∷ []) = tt
turn_moment (a ∷ b ∷ c ∷ d ∷ e ∷ f ∷ g ∷ more) = tt

turn_chance : (b : Bool) → IsTurn (cond b Chance Misshaped)
turn_chance true = tt
turn_chance false = tt

becoming : IsTurn (During Becoming)
becoming = ((λ e. cc), (λ e. cc))

tempo : IsTurn (During Tempo)
tempo = ((λ e. cc), (λ e. cc))

turn_tempo : (b : Bool) → IsTurnIf (cond b (Some (During Tempo)) None)
turn_tempo true = tempo
turn_tempo false = tt

turn_period : (b c : Bool) → IsTurnIf (cond b (Some (During Becoming)) (cond c (Some (During Tempo)) None))
turn_period true c = becoming
turn_period false c = turn_tempo c

turn_other : (g : List ℕ) → IsTurnIf (other_word g)
turn_other [] = tt
turn_other (a ∷ []) = tt
turn_other (a ∷ b ∷ []) = tt
turn_other (a ∷ b ∷ c ∷ []) = tt
turn_other (a ∷ b ∷ c ∷ d ∷ rest) =
    let g = a ∷ b ∷ c ∷ d ∷ rest in
    turn_of (bytes_eq (a ∷ b ∷ c ∷ d ∷ []) (codes "PROB")) (Some (chance_word rest)) (period_word g)
    (turn_chance (bytes_eq rest (codes "30") || bytes_eq rest (codes "40"))) (turn_period (bytes_eq g (codes "BECMG")) (is_tempo g))

turn_word : (g : List ℕ) → IsTurnIf (change_of g)
unfolding change_of
turn_word [] = tt
turn_word (a ∷ []) = tt
turn_word (a ∷ b ∷ []) = tt
turn_word (a ∷ b ∷ c ∷ rest) =
    turn_of ((a == 70) && (b == 77) && is_some (digit c)) (Some (moment_word (c ∷ rest))) (other_word (a ∷ b ∷ c ∷ rest)) (turn_moment (c ∷ rest)) (turn_other (a ∷ b ∷ c ∷ rest))

turn_after : (before g : List ℕ) → IsTurnIf (change_after before g)
turn_after before g = turn_of (is_tempo g && is_chance (change_of before)) None (change_of g) tt (turn_word g)

turn_noted : (change : Option Change) (n : ℕ) (gs : List (List ℕ)) (later : List Turn) → IsTurnIf change → All (λ t. IsTurn t.change) later → All (λ t. IsTurn t.change) (noted change n gs later)
turn_noted None n gs later is all = all
turn_noted (Some change) n gs later is all = All-cons (λ t. IsTurn t.change) (record { change = change; number = n; after = gs }) later is all

turn_cond : (b : Bool) (later : List Turn) → All (λ t. IsTurn t.change) later → All (λ t. IsTurn t.change) (cond b [] later)
turn_cond true later all = All-nil (λ (t : Turn). IsTurn t.change)
turn_cond false later all = all

turns_all : (before : List ℕ) (n : ℕ) (gs : List (List ℕ)) → All (λ t. IsTurn t.change) (turns before n gs)
turns_all before n [] = All-nil (λ (t : Turn). IsTurn t.change)
turns_all before n (g ∷ gs) = turn_cond (is_remarks g) (noted (change_after before g) n gs (turns g (n + 1) gs)) (turn_noted (change_after before g) n gs (turns g (n + 1) gs) (turn_after before g) (turns_all g (n + 1) gs))

-- the parts

pub inner : {A E : Type 0} {x y : A} → ◌≡◌ {A = Result A E} (Ok x) (Ok y) → x ≡ y
inner e = cc

either : {A E : Type 0} (P : Type 0) (b : Bool) (x y : Result A E) (a : A) → (x ≡ Ok a → P) → (y ≡ Ok a → P) → cond b x y ≡ Ok a → P
either P true x y a p q e = p e
either P false x y a p q e = q e

pub record IsPart (its_kind : PartKind) (first last : ℕ) (part : Part) : Type 0 where
  pub kind : part.kind ≡ its_kind
  pub from : part.from ≡ first
  pub to : part.to ≡ last

abbrev pub made : PartKind → ℕ → ℕ → Cond → Part
made kind from to cond = record { kind = kind; from = from; to = to; cond = cond }

pub part_is : (kind : PartKind) (from to n : ℕ) (gs : List (List ℕ)) (part : Part) → part_of kind from to n gs ≡ Ok part → IsPart kind from to part
part_is kind from to n gs part e =
    let s = steps (cond_of Forecast n (stretch gs)) (λ (cond : Cond). Ok (made kind from to cond)) part e in
    subst (λ p. IsPart kind from to p) (inner s.next) (record { kind = refl; from = refl; to = refl })

during_is : (kind : PartKind) (n : ℕ) (gs : List (List ℕ)) (first_day until : ℕ) (part : Part)
    → (kind ≡ Base → ⊥) → (kind ≡ From → ⊥) → part_during kind n gs first_day ≡ Ok part → IsChange until part
during_is kind n gs first_day until part no_base no_from e =
    let s = steps (period_due n gs first_day) (λ period. part_of kind period.0 period.1 (n + 1) (drop 1 gs)) part e in
    let is = part_is kind s.value.0 s.value.1 (n + 1) (drop 1 gs) part s.next in
    record { is_no_base = λ f. no_base (sym is.kind ∙ f); lasts = λ f. absurd (no_from (sym is.kind ∙ f)) }

prob_is_no_base : Prob ≡ Base → ⊥
prob_is_no_base e = cc

prob_is_no_from : Prob ≡ From → ⊥
prob_is_no_from e = cc

from_is_no_base : From ≡ Base → ⊥
from_is_no_base e = cc

change_is : (change : Change) (n : ℕ) (gs : List (List ℕ)) (first_day until : ℕ) (part : Part)
    → IsTurn change → part_at change n gs first_day until ≡ Ok part → IsChange until part
change_is (At digits) n gs first_day until part is e =
    let s = steps (numbered n (end_of digits first_day)) (λ from. part_of From from until (n + 1) gs) part e in
    let from = part_is From s.value until (n + 1) gs part s.next in
    record { is_no_base = λ f. from_is_no_base (sym from.kind ∙ f); lasts = λ f. from.to }
change_is (During kind) n gs first_day until part is e = during_is kind (n + 1) gs first_day until part is.0 is.1 e
change_is Chance n gs first_day until part is e =
    either (IsChange until part) (is_tempo (first_of gs)) (part_during Prob (n + 1 + 1) (drop 1 gs) first_day) (part_during Prob (n + 1) gs first_day) part
    (during_is Prob (n + 1 + 1) (drop 1 gs) first_day until part prob_is_no_base prob_is_no_from)
    (during_is Prob (n + 1) gs first_day until part prob_is_no_base prob_is_no_from) e
change_is Misshaped n gs first_day until part is e = absurd cc

changes_are : (ts : List Turn) (first_day until : ℕ) (parts : List Part)
    → All (λ t. IsTurn t.change) ts → all_or_fault (map (part_of_turn first_day until) ts) ≡ Ok parts → All (IsChange until) parts
changes_are [] first_day until parts all e = subst (λ ps. All (IsChange until) ps) (inner e) (All-nil (IsChange until))
changes_are (t ∷ ts) first_day until parts all e =
    let later = all_or_fault (map (part_of_turn first_day until) ts) in
    let s = steps (part_of_turn first_day until t) (λ x. later >>= λ xs. Ok (x ∷ xs)) parts e in
    let r = steps later (λ xs. Ok (s.value ∷ xs)) parts s.next in
    subst (λ ps. All (IsChange until) ps) (inner r.next)
    (All-cons (IsChange until) s.value r.value
    (change_is t.change t.number t.after first_day until s.value (All-head (λ t. IsTurn t.change) t ts all) s.is)
    (changes_are ts first_day until r.value (All-tail (λ t. IsTurn t.change) t ts all) r.is))

-- the forecast

abbrev pub HasParts : Taf → Type 0
HasParts taf = AreParts taf.state taf.from taf.to taf.parts

normal_has : (h : Head) (from to n : ℕ) (gs : List (List ℕ)) (taf : Taf) → with_parts h from to n gs ≡ Ok taf → HasParts taf
normal_has h from to n gs taf e =
    let first_day = h.issued / 1440 - 1 in
    let s = steps (part_of Base from to n gs) (λ base. parts_of [] n gs first_day to >>= λ parts. Ok (forecast h Normal from to (base ∷ parts))) taf e in
    let r = steps (parts_of [] n gs first_day to) (λ parts. Ok (forecast h Normal from to (s.value ∷ parts))) taf s.next in
    let is = part_is Base from to n gs s.value s.is in
    subst (λ t. HasParts t) (inner r.next) (record {
      base = s.value;
      changes = r.value;
      split = refl;
      is_base = is.kind;
      from = is.from;
      to = is.to;
      are_changes = changes_are (turns [] n gs) first_day to r.value (turns_all [] n gs) r.is;
    })

valid_has : (h : Head) (from to n : ℕ) (gs : List (List ℕ)) (taf : Taf) → after_validity h from to n gs ≡ Ok taf → HasParts taf
valid_has h from to n gs taf e =
    either (HasParts taf) (is_cancelled (first_of gs)) (Ok (forecast h Cancelled from to [])) (with_parts h from to n gs) taf
    (λ f. subst (λ t. HasParts t) (inner f) refl) (normal_has h from to n gs taf) e

timed_has : (h : Head) (n : ℕ) (gs : List (List ℕ)) (taf : Taf) → after_time h n gs ≡ Ok taf → HasParts taf
timed_has h n gs taf e =
    let next = λ (validity : ℕ × ℕ). after_validity h validity.0 validity.1 (n + 1) (drop 1 gs) in
    either (HasParts taf) (is_nil (first_of gs)) (Ok (forecast h Nil h.issued h.issued [])) (period_due n gs (h.issued / 1440 - 1) >>= next) taf
    (λ f. subst (λ t. HasParts t) (inner f) refl)
    (λ f. let s = steps (period_due n gs (h.issued / 1440 - 1)) next taf f in valid_has h s.value.0 s.value.1 (n + 1) (drop 1 gs) taf s.next) e

parts_are : (modifiers : List (List ℕ)) (n : ℕ) (gs : List (List ℕ)) (first_day : ℕ) (taf : Taf) → after_modifiers modifiers n gs first_day ≡ Ok taf → HasParts taf
parts_are modifiers n gs first_day taf e =
    let s = steps (station_due n gs) (λ station. after_station modifiers station (n + 1) (drop 1 gs) first_day) taf e in
    let at = steps (time_due (n + 1) (drop 1 gs) first_day) (λ issued. after_time (head_of modifiers s.value issued) (n + 1 + 1) (drop 1 (drop 1 gs))) taf s.next in
    timed_has (head_of modifiers s.value at.value) (n + 1 + 1) (drop 1 (drop 1 gs)) taf at.next

reading_has : (groups : List (List ℕ)) (receipt : ℕ) (taf : Taf) → reading groups receipt ≡ Ok taf → HasParts taf
unfolding reading
reading_has groups receipt taf e =
    let words = drop 1 groups in
    let count = modifier_count words in
    parts_are (take count words) (2 + count) (drop count words) (receipt / 1440 - 3) taf e

-- what is answered is what is read
pub if_answered : (P : Taf → Type 0) (result : Result Taf ReportFault) (r : Result Taf BadReport) → Answers result r → ((taf : Taf) → r ≡ Ok taf → P taf) → IfOk result P
if_answered P (Ok taf) r is law = law taf (sym is)
if_answered P (Err fault) r is law = tt

-- the parts of a forecast that is answered
pub answer_has : (groups : List (List ℕ)) (receipt : ℕ) (result : Result Taf ReportFault) → Answers result (reading groups receipt) → IfOk result HasParts
answer_has groups receipt result is = if_answered HasParts result (reading groups receipt) is (reading_has groups receipt)
