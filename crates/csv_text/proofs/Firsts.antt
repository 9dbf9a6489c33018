-- What one byte does where only the first fields of a record are kept.
use Rattle.std.proofs.Common.{◌≡◌, ◌∙◌, sym, refl, ap, arith, ℕ, ◌≤◌, ◌+◌, nat_le, List, [], ◌∷◌, length, take, Bool, true, false, Option, Some, None, option_map}
use Rattle.std.proofs.lemmas.Bool.{leb-true, leb-false}
use Rattle.std.proofs.lemmas.List.{length-append, take-append-le, take_all}
use Rattle.csv.specs.Machine.{Read, step, is_end, fields_after, field_after, next_record, ends_at_end}
use Rattle.csv.specs.declared.parser.Config.{Config}
use Rattle.csv.specs.declared.parser.State.{State}
use Rattle.csv.specs.declared.parser.State.TheVariants as st
use Rattle.csv.specs.declared.parser.Action.{Action}
use Rattle.csv.specs.declared.parser.Action.TheVariants as act
use Rattle.csv_text.specs.Steps.{first_of, fields_kept, field_kept}
use Rattle.csv_text.proofs.Turns.{within, ending, last, no_more}

-- the fields that are there already are kept, whatever comes
first_stay : (most : ℕ) (action : Action) (fields : List (List ℕ)) (field : List ℕ) → most ≤ length fields → take most (fields_after action fields field) ≡ take most fields
first_stay most act.Skip fields field h = refl
first_stay most act.Copy fields field h = refl
first_stay most act.EndField fields field h = take-append-le most fields (field ∷ []) h
first_stay most act.EndRecord fields field h = take-append-le most fields (field ∷ []) h

still_full : (most : ℕ) (action : Action) (fields : List (List ℕ)) (field : List ℕ) → most ≤ length fields → most ≤ length (fields_after action fields field)
still_full most act.Skip fields field h = h
still_full most act.Copy fields field h = h
still_full most act.EndField fields field h = omega (arith, h, length-append fields (field ∷ []))
still_full most act.EndRecord fields field h = omega (arith, h, length-append fields (field ∷ []))

one_at_most : (action : Action) (fields : List (List ℕ)) (field : List ℕ) → length (fields_after action fields field) ≤ length fields + 1
one_at_most act.Skip fields field = omega arith
one_at_most act.Copy fields field = omega arith
one_at_most act.EndField fields field = omega (arith, length-append fields (field ∷ []))
one_at_most act.EndRecord fields field = omega (arith, length-append fields (field ∷ []))

module _ (config : Config) (most : ℕ) where
  -- a record that is read on from these fields, with so many of them at most
  abbrev Left : State → List (List ℕ) → List ℕ → List ℕ → Option Read
  Left s fields field rest = option_map (first_of most) (next_record config s fields field rest)

  abbrev Ends : List (List ℕ) → State → List ℕ → Option Read
  Ends fields s rest = Some (take most fields, s, rest)

  -- where enough fields are there, no others count, nor does the field at hand
  beyond : (rest : List ℕ) (s : State) (fs gs : List (List ℕ)) (f g : List ℕ) → most ≤ length fs → most ≤ length gs → take most fs ≡ take most gs → Left s fs f rest ≡ Left s gs g rest
  beyond [] s fs gs f g m n e = by (ends_at_end s) refl
    where
      by : (b : Bool) → ends_at_end s ≡ b → Left s fs f [] ≡ Left s gs g []
      by true h = ap (option_map (first_of most)) (last config s fs f h) ∙ ap (λ (x : List (List ℕ)). Some (x, st.StartRecord, [])) (take-append-le most fs (f ∷ []) m ∙ e ∙ sym (take-append-le most gs (g ∷ []) n))
          ∙ sym (ap (option_map (first_of most)) (last config s gs g h))
      by false h = ap (option_map (first_of most)) (no_more config s fs f h) ∙ sym (ap (option_map (first_of most)) (no_more config s gs g h))
  beyond (c ∷ rest) s fs gs f g m n e =
      let to = (step config s c).0 in
      let a = (step config s c).1 in
      by (is_end a) refl (beyond rest to (fields_after a fs f) (fields_after a gs g) (field_after a c f) (field_after a c g) (still_full most a fs f m) (still_full most a gs g n)
      (first_stay most a fs f m ∙ e ∙ sym (first_stay most a gs g n)))
    where
      by : (b : Bool) → is_end (step config s c).1 ≡ b
          → Left (step config s c).0 (fields_after (step config s c).1 fs f) (field_after (step config s c).1 c f) rest ≡ Left (step config s c).0 (fields_after (step config s c).1 gs g) (field_after (step config s c).1 c g) rest
          → Left s fs f (c ∷ rest) ≡ Left s gs g (c ∷ rest)
      by true h later = ap (option_map (first_of most)) (ending config s (step config s c).0 (step config s c).1 fs f rest c refl h)
          ∙ ap (λ (x : List (List ℕ)). Some (x, (step config s c).0, rest)) (first_stay most (step config s c).1 fs f m ∙ e ∙ sym (first_stay most (step config s c).1 gs g n))
          ∙ sym (ap (option_map (first_of most)) (ending config s (step config s c).0 (step config s c).1 gs g rest c refl h))
      by false h later = ap (option_map (first_of most)) (within config s (step config s c).0 (step config s c).1 fs f rest c refl h) ∙ later
          ∙ sym (ap (option_map (first_of most)) (within config s (step config s c).0 (step config s c).1 gs g rest c refl h))

  module _ (from to : State) (action : Action) (fields : List (List ℕ)) (field rest : List ℕ) (b : ℕ) where
    -- a byte within a record
    pub goes_on : (to, action) ≡ step config from b → is_end action ≡ false → Left from fields field (b ∷ rest) ≡ Left to (fields_kept most action fields field) (field_kept most action b fields field) rest
    goes_on e h = ap (option_map (first_of most)) (within config from to action fields field rest b e h) ∙ by (nat_le most (length fields)) refl
      where
        by : (t : Bool) → nat_le most (length fields) ≡ t → Left to (fields_after action fields field) (field_after action b field) rest ≡ Left to (fields_kept most action fields field) (field_kept most action b fields field) rest
        by true full = rw full (beyond rest to (fields_after action fields field) fields (field_after action b field) field
            (still_full most action fields field (leb-true most (length fields) full)) (leb-true most (length fields) full) (first_stay most action fields field (leb-true most (length fields) full)))
        by false room = rw room refl

  -- what is kept at the end of a record is its first fields
  kept_first : (action : Action) (fields : List (List ℕ)) (field : List ℕ) → length fields ≤ most → take most (fields_after action fields field) ≡ fields_kept most action fields field
  kept_first action fields field within = by (nat_le most (length fields)) refl
    where
      by : (t : Bool) → nat_le most (length fields) ≡ t → take most (fields_after action fields field) ≡ fields_kept most action fields field
      by true full = rw full (first_stay most action fields field (leb-true most (length fields) full) ∙ take_all most fields within)
      by false room = rw room (take_all most (fields_after action fields field) (omega (arith, leb-false most (length fields) room, one_at_most action fields field)))

  -- no more are kept than are wanted
  pub kept_within : (action : Action) (fields : List (List ℕ)) (field : List ℕ) → length fields ≤ most → length (fields_kept most action fields field) ≤ most
  kept_within action fields field within = by (nat_le most (length fields)) refl
    where
      by : (t : Bool) → nat_le most (length fields) ≡ t → length (fields_kept most action fields field) ≤ most
      by true full = rw full within
      by false room = rw room (omega (arith, leb-false most (length fields) room, one_at_most action fields field))

  -- the byte that ends a record
  pub ends_here : (from to : State) (action : Action) (fields : List (List ℕ)) (field rest : List ℕ) (b : ℕ) → (to, action) ≡ step config from b → is_end action ≡ true → length fields ≤ most
      → Left from fields field (b ∷ rest) ≡ Some (fields_kept most action fields field, to, rest)
  ends_here from to action fields field rest b e h within =
      ap (option_map (first_of most)) (ending config from to action fields field rest b e h) ∙ ap (λ (x : List (List ℕ)). Some (x, to, rest)) (kept_first action fields field within)

  -- the end of the text
  pub ends_last : (from : State) (fields : List (List ℕ)) (field : List ℕ) → ends_at_end from ≡ true → length fields ≤ most
      → Left from fields field [] ≡ Some (fields_kept most act.EndRecord fields field, st.StartRecord, [])
  ends_last from fields field h within =
      ap (option_map (first_of most)) (last config from fields field h) ∙ ap (λ (x : List (List ℕ)). Some (x, st.StartRecord, [])) (kept_first act.EndRecord fields field within)

  pub ends_no_more : (from : State) (fields : List (List ℕ)) (field : List ℕ) → ends_at_end from ≡ false → Left from fields field [] ≡ None
  ends_no_more from fields field h = ap (option_map (first_of most)) (no_more config from fields field h)

-- the record whose first fields were read
pub whole_of : (most : ℕ) (read : Read) (o : Option Read) → Some read ≡ option_map (first_of most) o → (whole : Read) × (o ≡ Some whole) × (read ≡ first_of most whole)
whole_of most read None e = cc
whole_of most read (Some whole) e = (whole, refl, cc)

pub none_read : (most : ℕ) (o : Option Read) → None ≡ option_map (first_of most) o → o ≡ None
none_read most None e = refl
none_read most (Some whole) e = cc
