-- The search over the six rows is the route of the path.
use Rattle.std.proofs.Common.{◌≡◌, ℕ, suc, ◌<◌, ◌==◌, ◌++◌, List, [], ◌∷◌, Option, Some, None, cond, Bool, true, false, codes, refl, sym, ◌∙◌, get_or, arith, inl, inr, ne_eqb, nat_lt, ◌&&◌, ltb-true, ◌-◌}
use Rattle.std.proofs.lemmas.Bool.{and_parts, cases_eq}
use Rattle.std.proofs.lemmas.Bool.{cases_Bool}
use Rattle.matchit.specs.Rows.{RowsOf}
use Rattle.matchit.specs.Seek.{seek, first, step, own, or_else, param_step, has_slash}
use Rattle.desk_http.specs.Names.{patterns}
use Rattle.desk_http.specs.declared.router.Named.{Named}
use Rattle.desk_http.specs.declared.router.Named.TheVariants.{ToCall, ToBoard, ToAlerts, ToRelease, ToWeather, ToDeferred}
use Rattle.desk_http.proofs.Seeks.{param_nil, seek_nil, literal, param_end, param_slash}

-- what follows a front
abbrev pub follows : List ℕ → List ℕ → Option (List ℕ)
follows [] path = Some path
follows (x ∷ xs) [] = None
follows (x ∷ xs) (c ∷ path) = cond (x == c) (follows xs path) None

-- the name, where nothing follows
abbrev pub whole : Named → Option (List ℕ) → Option Named
whole n None = None
whole n (Some []) = Some n
whole n (Some (c ∷ rest)) = None

-- the name, where one segment with a byte follows
abbrev pub one_segment : Named → Option (List ℕ) → Option Named
one_segment n None = None
one_segment n (Some []) = None
one_segment n (Some (c ∷ rest)) = cond (has_slash (c ∷ rest)) None (Some n)

abbrev pub or_next : Option Named → Option Named → Option Named
or_next None next = next
or_next (Some n) next = Some n

-- the name of a path
abbrev pub name_at : List ℕ → Option Named
name_at path =
    or_next (whole ToCall (follows (codes "/call") path)) (or_next (whole ToBoard (follows (codes "/board") path)) (or_next (whole ToAlerts (follows (codes "/alerts") path))
    (or_next (one_segment ToRelease (follows (codes "/release/") path)) (or_next (one_segment ToWeather (follows (codes "/weather/") path)) (one_segment ToDeferred (follows (codes "/deferred/") path))))))

-- each byte is one, and no token of a parameter
abbrev pub AreBytes : List ℕ → Type 0
AreBytes [] = Unit {0}
AreBytes (b ∷ t) = (b < 256) × AreBytes t

here : (key : Named) (c : ℕ) (path : List ℕ) → seek 0 (([], key) ∷ []) (c ∷ path) ≡ None
unfolding seek
here key c path = rw (seek_nil {K = Named} 0 path) (rw (param_nil {K = Named} (c ∷ path)) (rw (seek_nil {K = Named} ((param_step {K = Named} [] (c ∷ path)).0 - 1) path) refl))

at_end : (rs : RowsOf Named) → seek 0 rs [] ≡ own rs
unfolding seek
at_end rs = refl

tail : (t : List ℕ) (n : Named) (path : List ℕ) (o : Option Named) → seek 0 ((t, n) ∷ []) path ≡ o → (same : Bool) → seek 0 (cond same ((t, n) ∷ []) []) path ≡ cond same o None
tail t n path o h true = h
tail t n path o h false = seek_nil 0 path

joined_whole : (n : Named) (same : Bool) (o : Option (List ℕ)) → cond same (whole n o) None ≡ whole n (cond same o None)
joined_whole n true o = refl
joined_whole n false o = refl

joined_one : (n : Named) (same : Bool) (o : Option (List ℕ)) → cond same (one_segment n o) None ≡ one_segment n (cond same o None)
joined_one n true o = refl
joined_one n false o = refl

static : (t : List ℕ) → AreBytes t → (n : Named) (path : List ℕ) → seek 0 ((t, n) ∷ []) path ≡ whole n (follows t path)
static [] h n [] = at_end (([], n) ∷ [])
static [] h n (c ∷ path) = here n c path
static (b ∷ t) h n [] = at_end ((b ∷ t, n) ∷ [])
static (b ∷ t) h n (c ∷ path) =
    literal b t n c path (ne_eqb b 256 (λ e. omega (arith, h.0))) (ne_eqb b 257 (λ e. omega (arith, h.0)))
    ∙ tail t n path _ (static t h.1 n path) (b == c) ∙ joined_whole n (b == c) (follows t path)

ends_param : (n : Named) (c : ℕ) (path : List ℕ) → c < 256 → (slash : Bool) → has_slash (c ∷ path) ≡ slash → seek 0 ((256 ∷ [], n) ∷ []) (c ∷ path) ≡ cond slash None (Some n)
ends_param n c path small true h = param_slash n c path (ne_eqb 256 c (λ e. omega arith)) h
ends_param n c path small false h = param_end n c path (ne_eqb 256 c (λ e. omega arith)) h

param : (t : List ℕ) → AreBytes t → (n : Named) (path : List ℕ) → AreBytes path → seek 0 ((t ++ 256 ∷ [], n) ∷ []) path ≡ one_segment n (follows t path)
param [] h n [] p = at_end ((256 ∷ [], n) ∷ [])
param [] h n (c ∷ path) p = ends_param n c path p.0 (has_slash (c ∷ path)) refl
param (b ∷ t) h n [] p = at_end ((b ∷ (t ++ 256 ∷ []), n) ∷ [])
param (b ∷ t) h n (c ∷ path) p =
    literal b (t ++ 256 ∷ []) n c path (ne_eqb b 256 (λ e. omega (arith, h.0))) (ne_eqb b 257 (λ e. omega (arith, h.0)))
    ∙ tail (t ++ 256 ∷ []) n path _ (param t h.1 n path p.1) (b == c) ∙ joined_one n (b == c) (follows t path)

all_bytes : List ℕ → Bool
all_bytes [] = true
all_bytes (b ∷ t) = nat_lt b 256 && all_bytes t

lit : (t : List ℕ) → all_bytes t ≡ true → AreBytes t
unfolding all_bytes
lit [] h = tt
lit (b ∷ t) h = let p = and_parts _ _ h in (ltb-true _ _ p.0, lit t p.1)

-- a byte, where no row begins with a parameter
last_none : (o : Option Named) → or_else o None ≡ o
last_none None = refl
last_none (Some k) = refl

bytes_only : (rs : RowsOf Named) (c : ℕ) (p : List ℕ) → step 256 rs ≡ [] → step 257 rs ≡ [] → seek 0 rs (c ∷ p) ≡ seek 0 (step c rs) p
unfolding seek
bytes_only rs c p a b =
    rw (a, b) (rw (param_nil {K = Named} (c ∷ p)) (rw (seek_nil {K = Named} ((param_step {K = Named} [] (c ∷ p)).0 - 1) p) (last_none (seek 0 (step c rs) p))))

abbrev tails : RowsOf Named
tails =
    (codes "alerts", ToAlerts) ∷ (codes "board", ToBoard) ∷ (codes "call", ToCall) ∷ (codes "deferred/" ++ 256 ∷ [], ToDeferred)
    ∷ (codes "release/" ++ 256 ∷ [], ToRelease) ∷ (codes "weather/" ++ 256 ∷ [], ToWeather) ∷ []

abbrev tail_name : List ℕ → Option Named
tail_name path =
    or_next (whole ToCall (follows (codes "call") path)) (or_next (whole ToBoard (follows (codes "board") path)) (or_next (whole ToAlerts (follows (codes "alerts") path))
    (or_next (one_segment ToRelease (follows (codes "release/") path)) (or_next (one_segment ToWeather (follows (codes "weather/") path)) (one_segment ToDeferred (follows (codes "deferred/") path))))))

pub next_none : (o : Option Named) → or_next o None ≡ o
next_none None = refl
next_none (Some n) = refl

at_letter : (d : ℕ) (q : List ℕ) → AreBytes q → seek 0 (step d tails) q ≡ tail_name (d ∷ q)
unfolding all_bytes
at_letter d q bytes = elim (cases_eq d 97) [
  | inl e ↦ rw e (static (codes "lerts") (lit (codes "lerts") refl) ToAlerts q ∙ sym (next_none _))
  | inr na ↦ elim (cases_eq d 98) [
    | inl e ↦ rw e (static (codes "oard") (lit (codes "oard") refl) ToBoard q ∙ sym (next_none _))
    | inr nb ↦ elim (cases_eq d 99) [
      | inl e ↦ rw e (static (codes "all") (lit (codes "all") refl) ToCall q ∙ sym (next_none _))
      | inr nc ↦ elim (cases_eq d 100) [
        | inl e ↦ rw e (param (codes "eferred/") (lit (codes "eferred/") refl) ToDeferred q bytes)
        | inr nd ↦ elim (cases_eq d 114) [
          | inl e ↦ rw e (param (codes "elease/") (lit (codes "elease/") refl) ToRelease q bytes ∙ sym (next_none _))
          | inr nr ↦ elim (cases_eq d 119) [
            | inl e ↦ rw e (param (codes "eather/") (lit (codes "eather/") refl) ToWeather q bytes ∙ sym (next_none _))
            | inr nw ↦
                rw (ne_eqb 97 d (λ e. na (sym e)), ne_eqb 98 d (λ e. nb (sym e)), ne_eqb 99 d (λ e. nc (sym e)), ne_eqb 100 d (λ e. nd (sym e)), ne_eqb 114 d (λ e. nr (sym e)), ne_eqb 119 d (λ e. nw (sym e)))
                (seek_nil {K = Named} 0 q)
          ]
        ]
      ]
    ]
  ]
]

after_slash : (path : List ℕ) → AreBytes path → seek 0 tails path ≡ tail_name path
after_slash [] bytes = at_end tails
after_slash (d ∷ q) bytes = bytes_only tails d q refl refl ∙ at_letter d q bytes.1

-- the search over the six rows is the route of the path
pub first_is : (path : List ℕ) → AreBytes path → first patterns path ≡ name_at path
first_is [] bytes = at_end patterns
first_is (c ∷ p) bytes = bytes_only patterns c p refl refl ∙ elim (cases_Bool (47 == c)) [
  | inl e ↦ rw e (after_slash p bytes.1)
  | inr e ↦ rw e (seek_nil {K = Named} 0 p)
]

-- the bytes of a text are bytes
pub are_bytes : (path : List ℕ) → ((i : ℕ) → get_or path i 0 < 256) → AreBytes path
are_bytes [] small = tt
are_bytes (b ∷ path) small = (small 0, are_bytes path (λ i. small (suc i)))
