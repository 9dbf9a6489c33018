-- What reads returned, by the record of what crossed a link.
use Rattle.std.proofs.Common.{◌≡◌, ℕ, List, [], ◌∷◌, ◌++◌, refl, ap, sym, ◌∙◌}
use Rattle.std.proofs.lemmas.List.{append_assoc}
use Rattle.desk_io.proofs.Each.{each_append}
use Rattle.desk_net.specs.declared.crossed.Crossed.{Crossed}
use Rattle.desk_net.specs.declared.crossed.Crossed.TheVariants.{Came, Took}
use Rattle.desk_http.specs.Received.{came, IsCame, CameIn, EndedIn}

pub came-append : (xs ys : List Crossed) → came (xs ++ ys) ≡ came xs ++ came ys
came-append [] ys = refl
came-append (Came piece ∷ xs) ys = ap (λ t. piece ++ t) (came-append xs ys) ∙ sym (append_assoc piece (came xs) (came ys))
came-append (Took piece ∷ xs) ys = came-append xs ys

pub came_more : (old mid new : List Crossed) (one two : List ℕ) → CameIn old one mid → CameIn mid two new → CameIn old (one ++ two) new
came_more old mid new one two a b = record {
  entries = a.entries ++ b.entries;
  added = b.added ∙ ap (λ x. x ++ b.entries) a.added ∙ append_assoc old a.entries b.entries;
  came_all = each_append IsCame a.entries b.entries a.came_all b.came_all;
  read_is = ap (λ x. x ++ two) a.read_is ∙ ap (λ x. came a.entries ++ x) b.read_is ∙ sym (came-append a.entries b.entries);
}

pub ended_on : (old mid new : List Crossed) (read : List ℕ) → CameIn old read mid → EndedIn mid new → EndedIn old new
ended_on old mid new read a (entries, is) =
    let last : List Crossed = Came [] ∷ [] in (
      a.entries ++ entries,
      is ∙ ap (λ x. x ++ (entries ++ last)) a.added ∙ append_assoc old a.entries (entries ++ last) ∙ ap (λ x. old ++ x) (sym (append_assoc a.entries entries last)),
    )
