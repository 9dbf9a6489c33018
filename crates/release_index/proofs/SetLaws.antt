-- A set of keys that some leave and others come into.
use Rattle.std.proofs.Common.{◌≡◌, refl, sym, ap, ◌∙◌, ℕ, ◌+◌, ◌<◌, ◌≤◌, Bool, true, false, ◌||◌, ◌&&◌, not, List, length, drop, get_or}
use Rattle.std.proofs.lemmas.List.{drop_more, drop_all}
use Rattle.std.specs.BTreeMap.{is_at}
use Rattle.facts.specs.Index.{key_cmp}
use Rattle.desk_io.specs.Keys.{is_held}

pub or_none : (b : Bool) → (b || false) ≡ b
or_none true = refl
or_none false = refl

gives : (b rest held : Bool) → (rest || (b || held)) ≡ ((b || rest) || held)
gives true true held = refl
gives true false held = refl
gives false true held = refl
gives false false held = refl

spares : (b rest comes held : Bool) → ((not (b || rest) || comes) && held) ≡ ((not rest || comes) && ((not b || comes) && held))
spares true true true held = refl
spares true true false held = refl
spares true false true held = refl
spares true false false held = refl
spares false rest comes held = refl

module _ (q : ℕ × ℕ) where
  left : (xs : List (ℕ × ℕ)) (i : ℕ) (d : ℕ × ℕ) → i < length xs → is_held key_cmp q (drop i xs) ≡ (is_at (key_cmp q) (get_or xs i d) || is_held key_cmp q (drop (i + 1) xs))
  left xs i d within = ap (is_held key_cmp q) (drop_more xs i d within)

  -- one more comes
  pub enter_one : (xs : List (ℕ × ℕ)) (i : ℕ) (d : ℕ × ℕ) (held fresh : List (ℕ × ℕ)) (was : Bool) → i < length xs
      → is_held key_cmp q fresh ≡ (is_at (key_cmp q) (get_or xs i d) || is_held key_cmp q held)
      → (is_held key_cmp q (drop i xs) || is_held key_cmp q held) ≡ was → (is_held key_cmp q (drop (i + 1) xs) || is_held key_cmp q fresh) ≡ was
  enter_one xs i d held fresh was within each before =
      ap (λ b. is_held key_cmp q (drop (i + 1) xs) || b) each
      ∙ gives (is_at (key_cmp q) (get_or xs i d)) (is_held key_cmp q (drop (i + 1) xs)) (is_held key_cmp q held)
      ∙ ap (λ b. b || is_held key_cmp q held) (sym (left xs i d within)) ∙ before

  -- all have come
  pub entered_all : (xs : List (ℕ × ℕ)) (i : ℕ) (held : List (ℕ × ℕ)) (was : Bool) → length xs ≤ i
      → (is_held key_cmp q (drop i xs) || is_held key_cmp q held) ≡ was → is_held key_cmp q held ≡ was
  entered_all xs i held was end is = ap (λ ys. is_held key_cmp q ys || is_held key_cmp q held) (sym (drop_all i xs end)) ∙ is

  -- one more leaves, but where it comes
  pub spare_one : (xs : List (ℕ × ℕ)) (i : ℕ) (d : ℕ × ℕ) (held fresh : List (ℕ × ℕ)) (comes was : Bool) → i < length xs
      → is_held key_cmp q fresh ≡ ((not (is_at (key_cmp q) (get_or xs i d)) || comes) && is_held key_cmp q held)
      → ((not (is_held key_cmp q (drop i xs)) || comes) && is_held key_cmp q held) ≡ was
      → ((not (is_held key_cmp q (drop (i + 1) xs)) || comes) && is_held key_cmp q fresh) ≡ was
  spare_one xs i d held fresh comes was within each before =
      ap (λ b. (not (is_held key_cmp q (drop (i + 1) xs)) || comes) && b) each
      ∙ sym (spares (is_at (key_cmp q) (get_or xs i d)) (is_held key_cmp q (drop (i + 1) xs)) comes (is_held key_cmp q held))
      ∙ ap (λ b. (not b || comes) && is_held key_cmp q held) (sym (left xs i d within)) ∙ before

  -- all others have left
  pub spared_all : (xs : List (ℕ × ℕ)) (i : ℕ) (held : List (ℕ × ℕ)) (comes was : Bool) → length xs ≤ i
      → ((not (is_held key_cmp q (drop i xs)) || comes) && is_held key_cmp q held) ≡ was → is_held key_cmp q held ≡ was
  spared_all xs i held comes was end is = ap (λ ys. (not (is_held key_cmp q ys) || comes) && is_held key_cmp q held) (sym (drop_all i xs end)) ∙ is
