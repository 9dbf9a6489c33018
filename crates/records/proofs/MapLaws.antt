-- The members of an object are read one after another.
use Rattle.std.proofs.Common.{◌≡◌, ℕ, List, [], ◌∷◌, ◌++◌, Option, None, Some, String, string_bytes, refl, sym, ap, ◌∙◌}
use Rattle.std.specs.declared.alloc.Global.{Global}
use Rattle.std.proofs.lemmas.List.{append_assoc}
use Rattle.serde_json.specs.View.{view, members_view}
use Rattle.serde_json.specs.declared.value.Value.{Value}
use Rattle.desk_time.specs.Digits.{◌>>=◌}
use Rattle.asks.specs.declared.kept.Floor.{Floor}
use Rattle.asks.proofs.Lists.{onto}
use Rattle.records.specs.Reading.{floor_of, floors_in}

onto_one : (before : List Floor) (f : Floor) (rest : Option (List Floor)) → onto (before ++ f ∷ []) rest ≡ onto before (rest >>= λ fs. Some (f ∷ fs))
onto_one before f None = refl
onto_one before f (Some fs) = ap Some (append_assoc before (f ∷ []) fs)

-- one more is read
pub floor_read_on : (before made : List Floor) (f : Floor) (key : String Global) (v : Value) (name : List ℕ) (members rest : List (String Global × Value)) → members ≡ (key, v) ∷ rest → name ≡ string_bytes key
    → floor_of name (view v) ≡ Some f → made ≡ before ++ f ∷ [] → onto made (floors_in (members_view rest)) ≡ onto before (floors_in (members_view members))
floor_read_on before made f key v name members rest there named found more =
    ap (λ fs. onto fs (floors_in (members_view rest))) more ∙ onto_one before f (floors_in (members_view rest))
    ∙ ap (λ o. onto before (o >>= λ g. floors_in (members_view rest) >>= λ fs. Some (g ∷ fs))) (sym found ∙ ap (λ n. floor_of n (view v)) named)
    ∙ ap (λ ms. onto before (floors_in (members_view ms))) (sym there)
