-- What is held among keys is what has a value among entries.
use Rattle.std.proofs.Common.{Bor, ◌≡◌, refl, sym, ap, ◌∙◌, Bool, true, false, cond, ◌||◌, ◌&&◌, not, List, [], ◌∷◌, filter, Option, Some, None}
use Rattle.std.specs.List.{list_any}
use Rattle.std.specs.Option.{is_some, option_copied}
use Rattle.std.specs.Map.{lookup, keys_of}

pub copied_some : {V : Type 0} (o : Option (Bor V)) → is_some o ≡ is_some (option_copied o)
copied_some None = refl
copied_some (Some b) = refl

module _ {K V : Type 0} (p : K → Bool) where
  pub held_is : (es : List (K × V)) → is_some (lookup p es) ≡ list_any p (keys_of es)
  held_is [] = refl
  held_is (e ∷ es) = by (p e.0) (held_is es)
    where
      by : (b : Bool) → is_some (lookup p es) ≡ list_any p (keys_of es) → is_some (cond b (Some e.1) (lookup p es)) ≡ (b || list_any p (keys_of es))
      by true rest = refl
      by false rest = rest

  with_key : (b : Bool) (v : V) (o : Option V) → is_some (cond b (Some v) o) ≡ (b || is_some o)
  with_key true v o = refl
  with_key false v o = refl

  without_key : (b : Bool) (o : Option V) → is_some (cond b None o) ≡ (not b && is_some o)
  without_key true o = refl
  without_key false o = refl

  -- what is held once a key is put in, or taken away
  pub held_with : (b : Bool) (v : V) (old fresh : List (K × V)) (keys : List K) → keys_of old ≡ keys → lookup p fresh ≡ cond b (Some v) (lookup p old) → list_any p (keys_of fresh) ≡ (b || list_any p keys)
  held_with b v old fresh keys view is = sym (held_is fresh) ∙ ap is_some is ∙ with_key b v (lookup p old) ∙ ap (λ h. b || h) (held_is old) ∙ ap (λ ks. b || list_any p ks) view

  pub held_without : (b : Bool) (old fresh : List (K × V)) (keys : List K) → keys_of old ≡ keys → lookup p fresh ≡ cond b None (lookup p old) → list_any p (keys_of fresh) ≡ (not b && list_any p keys)
  held_without b old fresh keys view is = sym (held_is fresh) ∙ ap is_some is ∙ without_key b (lookup p old) ∙ ap (λ h. not b && h) (held_is old) ∙ ap (λ ks. not b && list_any p ks) view

  -- whether a value was there
  pub held_found : (es : List (K × V)) (keys : List K) (o : Option V) → keys_of es ≡ keys → o ≡ lookup p es → is_some o ≡ list_any p keys
  held_found es keys o view is = ap is_some is ∙ held_is es ∙ ap (list_any p) view

  -- the keys of the entries whose keys pass
  pub keys_passing : (es : List (K × V)) → keys_of (filter (λ e. p e.0) es) ≡ filter p (keys_of es)
  keys_passing [] = refl
  keys_passing (e ∷ es) = by (p e.0) (keys_passing es)
    where
      by : (b : Bool) → keys_of (filter (λ f. p f.0) es) ≡ filter p (keys_of es) → keys_of (cond b (e ∷ filter (λ f. p f.0) es) (filter (λ f. p f.0) es)) ≡ cond b (e.0 ∷ filter p (keys_of es)) (filter p (keys_of es))
      by true rest = ap (λ ks. e.0 ∷ ks) rest
      by false rest = rest
