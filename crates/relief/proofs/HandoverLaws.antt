-- The roster follows from the handovers that it accepted.
use Rattle.std.proofs.Common.{◌≡◌, refl, sym, ap, ◌∙◌, subst, ℕ, Bool, true, false, cond, List, [], ◌∷◌, ◌++◌, map, Option, None, Some, unwrap_or, append_assoc, append-nil}
use Rattle.std.specs.Option.{option_map}
use Rattle.std.specs.List.{filter_map, last_or}
use Rattle.std.specs.Str.{bytes_eq}
use Rattle.std.proofs.lemmas.List.Elements.{filter_map-append}
use Rattle.ops_tables.specs.Names.{has_name}
use Rattle.ops_tables.specs.Tables.{TableRows}
use Rattle.relief.specs.declared.refusals.ReliefFault.{ReliefFault}
use Rattle.relief.specs.declared.handover.Handover.{Handover}
use Rattle.relief.specs.declared.handover.Handover.TheVariants.{Offer, Accept}
use Rattle.relief.specs.declared.lines.RosterLine.{RosterLine}
use Rattle.relief.specs.Roster.{HasEachOnce, desks_in, own_line, with_line, offered_to, taken_by}
use Rattle.relief.specs.Handovers.{IsRosterAfter, accepted, after_all, after_one, changed_by, if_refused, line_after, offer_since, offered_after, refusal_of, sitter_after, taker}
use Rattle.relief.proofs.LineLaws.{Known, lines_by, looked, own_desks, own_known, same_desks}

-- ---- one handover more

last_on : {A : Type 0} (o : Option A) (xs ys : List A) → last_or o (xs ++ ys) ≡ last_or (last_or o xs) ys
last_on o [] ys = refl
last_on o (x ∷ xs) ys = last_on (Some x) xs ys

last_more : {X A : Type 0} (f : X → Option A) (xs : List X) (x : X) → last_or None (filter_map f (xs ++ x ∷ [])) ≡ last_or (last_or None (filter_map f xs)) (filter_map f (x ∷ []))
last_more f xs x = ap (last_or None) (filter_map-append f xs (x ∷ [])) ∙ last_on None (filter_map f xs) (filter_map f (x ∷ []))

module _ (made : List Handover) (actor desk other : List ℕ) where
  sitter_then : (h : Handover) → sitter_after (made ++ h ∷ []) other ≡ unwrap_or (last_or (last_or None (filter_map (taker other) made)) (filter_map (taker other) (h ∷ []))) other
  sitter_then h = ap (λ o. unwrap_or o other) (last_more (taker other) made h)

  offered_then : (h : Handover) → offered_after (made ++ h ∷ []) other ≡ unwrap_or (last_or (last_or None (filter_map (offer_since other) made)) (filter_map (offer_since other) (h ∷ []))) None
  offered_then h = ap (λ o. unwrap_or o None) (last_more (offer_since other) made h)

  line_then : (h : Handover) (line : RosterLine) → line.desk ≡ other → sitter_after (made ++ h ∷ []) other ≡ line.sitter → offered_after (made ++ h ∷ []) other ≡ line.offered
      → line_after (made ++ h ∷ []) other ≡ line
  line_then h line named sits offered = λ i. record { desk = sym named i; sitter = sits i; offered = offered i }

  offer_by_test : (to : List ℕ) (test : Bool) → bytes_eq desk other ≡ test
      → line_after (made ++ Offer actor desk to ∷ []) other ≡ cond test (offered_to to (line_after made other)) (line_after made other)
  offer_by_test to true is = line_then (Offer actor desk to) (offered_to to (line_after made other)) refl (sitter_then (Offer actor desk to)) (offered_then (Offer actor desk to) ∙ rw is refl)
  offer_by_test to false is = line_then (Offer actor desk to) (line_after made other) refl (sitter_then (Offer actor desk to)) (offered_then (Offer actor desk to) ∙ rw is refl)

  accept_by_test : (test : Bool) → bytes_eq desk other ≡ test
      → line_after (made ++ Accept actor desk ∷ []) other ≡ cond test (taken_by actor (line_after made other)) (line_after made other)
  accept_by_test true is =
      line_then (Accept actor desk) (taken_by actor (line_after made other)) refl (sitter_then (Accept actor desk) ∙ rw is refl) (offered_then (Accept actor desk) ∙ rw is refl)
  accept_by_test false is =
      line_then (Accept actor desk) (line_after made other) refl (sitter_then (Accept actor desk) ∙ rw is refl) (offered_then (Accept actor desk) ∙ rw is refl)

-- ---- the roster

pub roster_by : (desks : List (List ℕ)) (made : List Handover) (roster : List RosterLine) → desks_in roster ≡ desks → Known (line_after made) desks roster → IsRosterAfter desks made roster
roster_by desks made roster named known = record {
  desks_are = named;
  line_is = known;
  lines_are = λ once.
      let each : Known (line_after made) (desks_in roster) roster = subst (λ ds. Known (line_after made) ds roster) (sym named) known in
      lines_by (line_after made) roster (subst HasEachOnce (sym named) once) each ∙ ap (map (line_after made)) named;
}

pub after_none : (desks : List (List ℕ)) → IsRosterAfter desks [] (map own_line desks)
after_none desks = roster_by desks [] (map own_line desks) (own_desks desks) (own_known desks)

known_after : (change : RosterLine → RosterLine) (test has : Bool) (old later : RosterLine) → later ≡ cond test (change old) old
    → cond test (option_map change (cond has (Some old) None)) (cond has (Some old) None) ≡ cond has (Some later) None
known_after change true true old later is = ap (λ l. Some l) (sym is)
known_after change false true old later is = ap (λ l. Some l) (sym is)
known_after change true false old later is = refl
known_after change false false old later is = refl

after_change : (change : RosterLine → RosterLine) (h : Handover) (desk : List ℕ) (desks : List (List ℕ)) (made : List Handover) (roster : List RosterLine)
    → ((line : RosterLine) → (change line).desk ≡ line.desk)
    → ((other : List ℕ) → line_after (made ++ h ∷ []) other ≡ cond (bytes_eq desk other) (change (line_after made other)) (line_after made other))
    → IsRosterAfter desks made roster → IsRosterAfter desks (made ++ h ∷ []) (with_line change desk roster)
after_change change h desk desks made roster keeps line follows =
    roster_by desks (made ++ h ∷ []) (with_line change desk roster) (same_desks change keeps desk roster ∙ follows.desks_are)
    (λ other.
    looked change keeps desk other roster
    ∙ ap (λ o. cond (bytes_eq desk other) (option_map change o) o) (follows.line_is other)
    ∙ known_after change (bytes_eq desk other) (has_name desks other) (line_after made other) (line_after (made ++ h ∷ []) other) (line other))

pub after_offer : (actor desk to : List ℕ) (desks : List (List ℕ)) (made : List Handover) (roster : List RosterLine) → IsRosterAfter desks made roster
    → IsRosterAfter desks (made ++ Offer actor desk to ∷ []) (with_line (offered_to to) desk roster)
after_offer actor desk to desks made roster follows =
    after_change (offered_to to) (Offer actor desk to) desk desks made roster (λ line. refl)
    (λ other. offer_by_test made actor desk other to (bytes_eq desk other) refl) follows

pub after_acceptance : (actor desk : List ℕ) (desks : List (List ℕ)) (made : List Handover) (roster : List RosterLine) → IsRosterAfter desks made roster
    → IsRosterAfter desks (made ++ Accept actor desk ∷ []) (with_line (taken_by actor) desk roster)
after_acceptance actor desk desks made roster follows =
    after_change (taken_by actor) (Accept actor desk) desk desks made roster (λ line. refl)
    (λ other. accept_by_test made actor desk other (bytes_eq desk other) refl) follows

after_handover : (h : Handover) (desks : List (List ℕ)) (made : List Handover) (roster : List RosterLine) → IsRosterAfter desks made roster
    → IsRosterAfter desks (made ++ h ∷ []) (changed_by roster h)
after_handover (Offer actor desk to) desks made roster follows = after_offer actor desk to desks made roster follows
after_handover (Accept actor desk) desks made roster follows = after_acceptance actor desk desks made roster follows

-- ---- handovers one after another

after_more : (t : TableRows) (h : Handover) (hs : List Handover) (desks : List (List ℕ)) (made : List Handover) (roster next : List RosterLine) (fault : Option ReliefFault)
    → IsRosterAfter desks made roster → next ≡ if_refused fault roster (changed_by roster h)
    → ((more : List Handover) → IsRosterAfter desks more next → IsRosterAfter desks (more ++ accepted t next hs) (after_all t next hs))
    → IsRosterAfter desks (made ++ if_refused fault (accepted t next hs) (h ∷ accepted t next hs)) (after_all t next hs)
after_more t h hs desks made roster next (Some fault) follows is rest = rest made (subst (IsRosterAfter desks made) (sym is) follows)
after_more t h hs desks made roster next None follows is rest =
    let later : IsRosterAfter desks (made ++ h ∷ []) next = subst (IsRosterAfter desks (made ++ h ∷ [])) (sym is) (after_handover h desks made roster follows) in
    subst (λ all. IsRosterAfter desks all (after_all t next hs)) (append_assoc made (h ∷ []) (accepted t next hs)) (rest (made ++ h ∷ []) later)

pub after_handovers : (t : TableRows) (hs : List Handover) (desks : List (List ℕ)) (made : List Handover) (roster : List RosterLine) → IsRosterAfter desks made roster
    → IsRosterAfter desks (made ++ accepted t roster hs) (after_all t roster hs)
after_handovers t [] desks made roster follows = subst (λ all. IsRosterAfter desks all roster) (sym (append-nil made)) follows
after_handovers t (h ∷ hs) desks made roster follows =
    after_more t h hs desks made roster (after_one t roster h) (refusal_of t roster h) follows refl
    (λ more later. after_handovers t hs desks more (after_one t roster h) later)

again_by : (t : TableRows) (h : Handover) (hs : List Handover) (roster next : List RosterLine) (fault : Option ReliefFault) → next ≡ after_one t roster h
    → next ≡ if_refused fault roster (changed_by roster h) → after_all t next (accepted t next hs) ≡ after_all t next hs
    → after_all t roster (if_refused fault (accepted t next hs) (h ∷ accepted t next hs)) ≡ after_all t next hs
again_by t h hs roster next (Some fault) one is rest = subst (λ r. after_all t r (accepted t next hs) ≡ after_all t next hs) is rest
again_by t h hs roster next None one is rest = subst (λ r. after_all t r (accepted t next hs) ≡ after_all t next hs) one rest

-- the accepted handovers alone come to the same roster
pub same_again : (t : TableRows) (hs : List Handover) (roster : List RosterLine) → after_all t roster (accepted t roster hs) ≡ after_all t roster hs
same_again t [] roster = refl
same_again t (h ∷ hs) roster =
    again_by t h hs roster (after_one t roster h) (refusal_of t roster h) refl refl (same_again t hs (after_one t roster h))
