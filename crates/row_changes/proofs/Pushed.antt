-- Changes that are pushed one after another.
use Rattle.std.proofs.Common.{◌≡◌, ℕ, List, [], ◌∷◌, ◌++◌, map, Option, None, Some, refl, ap, ◌∙◌}
use Rattle.std.proofs.lemmas.List.{append_assoc}
use Rattle.desk_io.specs.declared.rows.Change.{Change}
use Rattle.desk_io.specs.declared.rows.Change.TheVariants.{Remove}
use Rattle.facts.specs.declared.report.Report.{Report}
use Rattle.desk_state.specs.declared.effect.Sweep.{Sweep}
use Rattle.desk_state.specs.Events.{reports_after}
use Rattle.row_changes.specs.Changes.{report_changes, swept_reports}
use Rattle.desk_state.specs.Sound.{AreApart}

ids_removed : (rs : List Report) → map (λ id. Remove 1 id) (map (λ r. r.id) rs) ≡ map (λ r. Remove 1 r.id) rs
ids_removed [] = refl
ids_removed (r ∷ rs) = ap (λ rest. Remove 1 r.id ∷ rest) (ids_removed rs)

-- the rows of some reports go, by their ids
pub removed_ids : (front fresh : List Change) (ids : List ℕ) (rs : List Report) → fresh ≡ front ++ map (λ id. Remove 1 id) ids → ids ≡ map (λ r. r.id) rs
    → fresh ≡ front ++ map (λ r. Remove 1 r.id) rs
removed_ids front fresh ids rs pushed same = pushed ∙ ap (λ xs. front ++ map (λ id. Remove 1 id) xs) same ∙ ap (λ xs. front ++ xs) (ids_removed rs)

-- where no report comes, a sweep is of the reports that are held
swept_held : (report : Option Report) (sweep : Option Sweep) (rs : List Report) → AreApart report sweep → swept_reports sweep rs ≡ swept_reports sweep (reports_after report rs)
swept_held None sweep rs apart = refl
swept_held (Some r) None rs apart = refl
swept_held (Some r) (Some w) rs apart = absurd apart

pub two_pushed : (front middle fresh one two : List Change) → middle ≡ front ++ one → fresh ≡ middle ++ two → fresh ≡ front ++ (one ++ two)
two_pushed front middle fresh one two first second = second ∙ ap (λ xs. xs ++ two) first ∙ append_assoc front one two

pub reports_pushed : (front middle fresh : List Change) (report : Option Report) (sweep : Option Sweep) (rs : List Report) → AreApart report sweep
    → middle ≡ front ++ report_changes report → fresh ≡ middle ++ swept_reports sweep rs → fresh ≡ front ++ (report_changes report ++ swept_reports sweep (reports_after report rs))
reports_pushed front middle fresh report sweep rs apart first second =
    two_pushed front middle fresh (report_changes report) (swept_reports sweep rs) first second
    ∙ ap (λ xs. front ++ (report_changes report ++ xs)) (swept_held report sweep rs apart)

pub five_pushed : (front a b c d fresh one two three four five : List Change) → a ≡ front ++ one → b ≡ a ++ two → c ≡ b ++ three → d ≡ c ++ four → fresh ≡ d ++ five
    → fresh ≡ front ++ (one ++ two ++ three ++ four ++ five)
five_pushed front a b c d fresh one two three four five first second third fourth fifth =
    two_pushed front d fresh (one ++ two ++ three ++ four) five
    (two_pushed front c d (one ++ two ++ three) four (two_pushed front b c (one ++ two) three (two_pushed front a b one two first second) third) fourth) fifth
