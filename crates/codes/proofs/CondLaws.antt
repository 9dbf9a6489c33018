-- One pass over the groups of a stretch finds what they all name.
use Rattle.std.proofs.Common.{◌≡◌, ℕ, ◌+◌, Bool, true, false, ◌||◌, List, [], ◌∷◌, Option, None, Some, Ok, Err, refl, ap, sym, ◌∙◌, arith, zero-add, add-zero, add_assoc}
use Rattle.std.specs.List.{list_any}
use Rattle.codes.specs.declared.cond.Cond.{Cond}
use Rattle.codes.specs.declared.cond.Found.{Found}
use Rattle.codes.specs.declared.cond.Stretch.{Stretch}
use Rattle.codes.specs.declared.fault.BadReport.{BadReport}
use Rattle.codes.specs.declared.fault.Form.{Form}
use Rattle.codes.specs.declared.fault.Form.TheVariants.{Report, Forecast}
use Rattle.codes.specs.Groups.{first_of}
use Rattle.codes.specs.Shapes.{visibility_after}
use Rattle.codes.specs.Cond.{lesser, least, sky_after, is_unmeasured, unread_in, unread_one, value_of, found_with, found_in, nothing_found, cond_with, named_cond, cond_of, first_fault, stretch_of}

-- the lesser of three values is the same, whichever two are compared first
pub lesser_assoc : (a b c : Option ℕ) → lesser a (lesser b c) ≡ lesser (lesser a b) c
lesser_assoc None b c = refl
lesser_assoc (Some x) None c = refl
lesser_assoc (Some x) (Some y) None = refl
lesser_assoc (Some x) (Some y) (Some z) = ap Some (omega arith)

pub lesser_comm : (a b : Option ℕ) → lesser a b ≡ lesser b a
lesser_comm None None = refl
lesser_comm None (Some y) = refl
lesser_comm (Some x) None = refl
lesser_comm (Some x) (Some y) = ap Some (omega arith)

pub lesser_none : (a : Option ℕ) → lesser a None ≡ a
lesser_none None = refl
lesser_none (Some x) = refl

or_assoc : (a b c : Bool) → ((a || b) || c) ≡ (a || (b || c))
or_assoc true b c = refl
or_assoc false b c = refl

-- what was found, and what some more groups name after that one
abbrev together : Form → Found → List ℕ → List (List ℕ) → Found
together form found before gs = record {
  vis = lesser found.vis (least visibility_after before gs);
  height = lesser found.height (least sky_after before gs);
  unmeasured = found.unmeasured || list_any is_unmeasured gs;
  unread = found.unread + unread_in form gs;
}

unread_more : (form : Form) (n : ℕ) (g : List ℕ) (gs : List (List ℕ)) → (n + unread_one form g (first_of gs)) + unread_in form gs ≡ n + unread_in form (g ∷ gs)
unread_more Report n g gs = add_assoc n (unread_one Report g (first_of gs)) (unread_in Report gs)
unread_more Forecast n g gs = omega arith

together_more : (form : Form) (found : Found) (before g : List ℕ) (gs : List (List ℕ)) → together form (found_with form found before g (first_of gs)) g gs ≡ together form found before (g ∷ gs)
together_more form found before g gs =
    let vis = sym (lesser_assoc found.vis (value_of (visibility_after before g)) (least visibility_after g gs)) in
    let height = sym (lesser_assoc found.height (value_of (sky_after before g)) (least sky_after g gs)) in
    let unmeasured = or_assoc found.unmeasured (is_unmeasured g) (list_any is_unmeasured gs) in
    let unread = unread_more form found.unread g gs in
    cc

none_more : (a : Option ℕ) → a ≡ lesser a None
none_more None = refl
none_more (Some x) = refl

or_false : (a : Bool) → a ≡ (a || false)
or_false true = refl
or_false false = refl

alone : (form : Form) (before : List ℕ) (vis height : Option ℕ) (unmeasured : Bool) (unread : ℕ)
    → (let found : Found = record { vis = vis; height = height; unmeasured = unmeasured; unread = unread } in found ≡ together form found before [])
alone Report before vis height unmeasured unread =
    let v = none_more vis in let h = none_more height in let u = or_false unmeasured in let n = sym (add-zero unread) in cc
alone Forecast before vis height unmeasured unread =
    let v = none_more vis in let h = none_more height in let u = or_false unmeasured in let n = sym (add-zero unread) in cc

found_together : (form : Form) (found : Found) (before : List ℕ) (gs : List (List ℕ)) → found_in form found before gs ≡ together form found before gs
found_together form found before [] = alone form before found.vis found.height found.unmeasured found.unread
found_together form found before (g ∷ gs) = found_together form (found_with form found before g (first_of gs)) g gs ∙ together_more form found before g gs

same_stretch : (a b : Cond) (m n : ℕ) → a ≡ b → m ≡ n → (let made : Stretch = record { cond = a; unread = m } in let wanted : Stretch = record { cond = b; unread = n } in made ≡ wanted)
same_stretch a b m n e f = cc

-- what one pass finds is what the stretch says, where no group misses its shape
pub stretch_found : (form : Form) (n : ℕ) (gs : List (List ℕ)) (found : Found) (stretch : Stretch)
    → found ≡ found_in form nothing_found [] gs → stretch.cond ≡ cond_with found → stretch.unread ≡ found.unread → first_fault form n gs ≡ None
    → Ok stretch ≡ stretch_of form n gs
unfolding stretch_of cond_of named_cond
stretch_found form n gs found stretch e c u sound =
    let t = e ∙ found_together form nothing_found [] gs in
    let named : stretch.cond ≡ named_cond gs = c ∙ ap cond_with t in
    let count : stretch.unread ≡ unread_in form gs = u ∙ ap (λ (f : Found). f.unread) t ∙ zero-add (unread_in form gs) in
    rw sound (ap Ok (same_stretch stretch.cond (named_cond gs) stretch.unread (unread_in form gs) named count))

-- the first group that misses its shape is the fault of the stretch
pub stretch_fault : (form : Form) (n : ℕ) (gs : List (List ℕ)) (bad : BadReport) → first_fault form n gs ≡ Some bad → Err bad ≡ stretch_of form n gs
unfolding stretch_of cond_of
stretch_fault form n gs bad e = rw e refl
