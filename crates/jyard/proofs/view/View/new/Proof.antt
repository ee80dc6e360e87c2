-- A view of the table's yard, without reads.
use Rattle.atomic_table.proofs.Names.{◌≡◌, List, [], ◌∷◌, ℕ, refl, a_type, named, Val, vptr, inst_fn, SProp, emp, ‵, raw, ◌⊛◌, ◌$◌, ◌∵◌, !, qed, by, keep, split, fjoin, use0, no_more, and_then, agg, returns, enter, alloc_all, pass_all, free_all, look_at, get, sets, tables, yes, RattleType, owns, types_at, plain, nothing, alive, param, layouts, RefOf, shr_vals, shr_Tells, Stays, stay_dropped, walk_of, Goes-dropped, fact, fact_i}
use Rattle.atomic_table.proofs.Walks.{proved, leaves}
use Rattle.jyard.specs.Units.{Spent}
use Rattle.jyard.specs.contracts.table.Table as table
use Rattle.jyard.specs.contracts.view.View as view
use Rattle.jyard.proofs.Fields.{token, token_good, ViewData, view_made}
use Rattle.jyard.specs.contracts.view.View.new.{ended, clauses}
use Rattle.jyard.specs.contracts.view.View.new.Key.{name as #self}
use Rattle.jyard.proofs.view.View.new.Statement.{statement}
use Rattle.jyard.proofs.view.View.new.Code as code

pub new_spec : {M : Type 1} → statement M
new_spec 𝓤 𝓛 𝓜 𝓡 wired X LX =
    let H = 𝓛.H in let 𝓣 = tables 𝓤 H 𝓜 𝓡 𝓡.env in let R : RattleType = param 0 X in let En = ended X in let c = clauses X 𝓛 𝓜.mem 𝓡.returns in
    let inst = layouts (a_type ∷ []) (X, tt) in let fn = inst_fn inst code.function in let Row : RattleType = table.the_row R in let Vr : RattleType = view.the_row in
    let lent = RefOf (0 ∷ []) tt (plain (λ _. Row)) (λ _. tt) in let hs : Stays En.signature.params En.kept = (stay_dropped lent yes, tt) in
    proved 𝓛 En hs c 𝓜 𝓡 (Goes-dropped 𝓛 2 lent yes (λ κs x f. refl), tt) (#self inst) fn (code.unfolded 𝓤 H 𝓜 𝓡 wired (X, tt))
    (λ κs. (shr_vals, tt)) (λ κs. (shr_Tells (named 0) κs.0 Row, tt)) (λ κs qs bounds a gh are.
    let b : ℕ = a.0.ref_ptr.0 in let o : ℕ = a.0.ref_ptr.1 in let none : List Spent = [] in let v : Vr.Denot = record { marker = record {}; yard = a.0.now.ids; spent = none } in let Told : Type 0 = (v.yard ≡ v.yard) × (v.spent ≡ none) in
    let y : (walk_of 𝓛 En hs c).Ghost = ((κs, qs, bounds, a, (vptr b o ∷ [], tt)), gh) in let Post : Val → SProp 𝓤 = (walk_of 𝓛 En hs c).post y in
    qed 𝓛 ((raw (alive 𝓛 En.signature κs qs) ⊛ ‵ (owns (types_at En.signature.params κs) a y.0.4)) ∷ raw ((c κs a).requires gh) ∷ []) ∵
    split ! $ keep ! (0 ∷ []) $ nothing ! $ use0 𝓛 (‵ (ViewData.own_val (tt, tt) (token ∷ []))) (view_made 𝓛) $ fjoin ! $
    enter ! 𝓣.C 𝓣.Λ fn (vptr b o ∷ []) Post $ alloc_all ! (λ l. pass_all ! refl ((tt, tt), tt) $
    sets ! (agg ! (no_more !)) refl (tt, tt) $ sets ! (agg ! (and_then ! (get ! refl) (no_more !))) refl token_good $
    use0 𝓛 (raw (fact 𝓤 Told)) (fact_i 𝓤 Told (emp 𝓤) (refl, refl)) $ nothing ! $ nothing ! $ fjoin ! $
    returns ! (look_at ! 0 refl) $ free_all ! refl $ keep ! (3 ∷ 0 ∷ 2 ∷ 1 ∷ []) $ by ! (leaves 𝓛 En hs c y token v (tt, tt) (tt, tt))))
