-- `of` makes a value of no bytes, whose list is what the argument tells.
use mathlib.Core.Path.{refl}
use mir.Syntax.{a_type, dcons, dnil, named, Fn}
use mir.Val.{Val, vptr, vstruct, vcons, vnil}
use mir.MapTy.{inst_fn}
use mathlib.Core.List.{[], ◌∷◌}
use base.Logic.{SProp}
use base.Fml.{Fml}
use prog.Wp.{Tables, WpFn}
use contract.Running.{tables, tables_of}
use sound.WpLaws.{WpFn-mono}
use types.Kit.{‵, raw, ◌⊛◌, ◌$◌, ◌∵◌, !, qed, move, keep, split, join, fjoin, use0, suffices, done}
use types.Run.{no_more, and_then, returns, enter}
use types.Part.{agg}
use types.ByLocal.{alloc_all, pass_all, free_all, look_at, get, sets}
use denote.RattleType.{RattleType, owns}
use denote.Exit.{yes}
use denote.Param.{param, bounded}
use denote.Shadow.{makes_shadow}
use denote.Builtin.{RefOf}
use denote.Ref.{shr_vals, shr_Tells}
use denote.Signature.{types_at, plain}
use denote.Steps.{nothing}
use denote.Triple.Clauses.{closing}
use denote.Triple.Entry.{alive}
use denote.Triple.Spec.{triple_of}
use denote.Triple.Table.{entered}
use denote.Triple.Walked.{says, Stays, stay_dropped, walk_of, walked, ends_at, Goes-dropped, walk_Meets}
use Rattle.desk_io.specs.contracts.record.Record as made
use Rattle.desk_io.specs.contracts.record.Record.of.{ended, clauses}
use Rattle.desk_io.specs.contracts.record.Record.of.Key.{name as #self}
use Rattle.desk_io.proofs.record.Record.of.Statement.{statement}
use Rattle.desk_io.proofs.record.Record.of.Code as code

pub of_spec : {M : Type 1} → statement M
unfolding tables_of
of_spec 𝓤 𝓛 𝓜 𝓡 wired T X LT LX g d _ =
    let H = 𝓛.H in
    let 𝓣 : Tables 𝓤 H = tables_of 𝓤 H 𝓜 (tables 𝓤 H 𝓜 𝓡 𝓡.env) in
    let R : RattleType = param 1 X in
    let En = ended T X g d in
    let inst = bounded (a_type ∷ a_type ∷ []) (T, (X, tt)) (dcons d dnil) in
    let fn : Fn = inst_fn inst code.function in
    let c = clauses T X g d 𝓛 𝓜.mem 𝓡.returns in
    let arg = RefOf (0 ∷ []) tt (plain (λ _. R)) (λ _. tt) in
    let hs : Stays En.signature.params En.kept = (stay_dropped arg yes, tt) in
    entered 𝓤 H (triple_of 𝓛 En.signature (closing 𝓛 En c)) 𝓣.C 𝓣.Λ (#self inst) fn (code.unfolded 𝓤 H 𝓜 𝓡 wired (T, (X, tt)) d)
    (walk_Meets 𝓛 En hs (Goes-dropped 𝓛 3 arg yes (λ κs x f. refl), tt) c (WpFn 𝓤 H 𝓣.C 𝓣.Λ fn) (WpFn-mono 𝓤 H 𝓛.laws 𝓣 fn)
    (walked 𝓛 En hs c (WpFn 𝓤 H 𝓣.C 𝓣.Λ fn) (λ κs. (shr_vals, tt)) (λ κs. (shr_Tells (named 0) κs.0 R, tt)) (λ κs qs bounds a gh are.
    let p : Val = vptr a.0.ref_ptr.0 a.0.ref_ptr.1 in
    let v : Val = vstruct (vcons (vstruct vnil) vnil) in
    let r : (made.the_row (param 0 T)).Denot = record { marker = record {}; list = g.told a.0.now } in
    let F : Fml = (made.the_row (param 0 T)).own_val r (v ∷ []) in
    let y : (walk_of 𝓛 En hs c).Ghost = ((κs, qs, bounds, a, (p ∷ [], tt)), gh) in
    let Post : Val → SProp 𝓤 = (walk_of 𝓛 En hs c).post y in
    qed 𝓛 ((raw (alive 𝓛 En.signature κs qs) ⊛ ‵ (owns (types_at En.signature.params κs) a (p ∷ [], tt))) ∷ raw ((c κs a).requires gh) ∷ []) ∵ split ! $ keep ! (0 ∷ []) $
    enter ! 𝓣.C 𝓣.Λ fn (p ∷ []) Post $ alloc_all ! (λ l. pass_all ! refl ((tt, tt), tt) $
    sets ! (agg ! (no_more !)) refl (tt, tt) $ sets ! (agg ! (and_then ! (get ! refl) (no_more !))) refl (tt, (tt, tt)) $
    returns ! (look_at ! 0 refl) $ free_all ! refl $
    use0 𝓛 (‵ F) (makes_shadow 𝓛 F ((λ vss. (tt, ((λ uss. (tt, tt)), tt))), tt) (((vstruct vnil ∷ [], tt), (refl, ((tt, (refl, tt)), tt))), tt)) $
    suffices ! _ (ends_at 𝓛 En hs c y v r (tt, tt) (tt, tt)) $ says ! refl $
    nothing ! $ nothing ! $ fjoin ! $ join ! $ move ! (1 ∷ 0 ∷ []) $ join ! $ done !))))
