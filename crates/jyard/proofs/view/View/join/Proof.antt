-- The one view goes, and the other has its reads.
use Rattle.atomic_table.proofs.Names.{◌≡◌, [], ◌∷◌, ◌++◌, refl, Val, SProp, emp, ‵, raw, ◌⊛◌, ◌$◌, ◌∵◌, !, qed, by, move, keep, split, fsplit, fsplit3, fjoin, use0, use2, of_opd, returns, enter, alloc_all, pass_all, free_all, look_at, get, sets, tables, yes, RattleType, owns, types_at, plain, nothing, alive, Stays, stay_dropped, walk_of, Goes-dropped, fact, fact_i}
use Rattle.atomic_table.proofs.Walks.{proved, leaves}
use Rattle.jyard.specs.Units.{spents_own}
use Rattle.jyard.proofs.Spents.{spents_join}
use Rattle.jyard.specs.contracts.view.View as view
use Rattle.jyard.proofs.Fields.{token, token_good, view_told}
use Rattle.jyard.specs.contracts.view.View.join.{ended, clauses}
use Rattle.jyard.specs.contracts.view.View.join.Key.{name as #self}
use Rattle.jyard.proofs.view.View.join.Statement.{statement}
use Rattle.jyard.proofs.view.View.join.Code as code

pub join_spec : {M : Type 1} → statement M
join_spec 𝓤 𝓛 𝓜 𝓡 wired =
    let H = 𝓛.H in let 𝓣 = tables 𝓤 H 𝓜 𝓡 𝓡.env in let En = ended in let c = clauses 𝓛 𝓜.mem 𝓡.returns in let fn = code.function in let Vr : RattleType = view.the_row in
    let one = plain (λ _. Vr) in let hs : Stays En.signature.params En.kept = (stay_dropped one yes, (stay_dropped one yes, tt)) in
    proved 𝓛 En hs c 𝓜 𝓡 (Goes-dropped 𝓛 0 one yes (λ κs x f. refl), (Goes-dropped 𝓛 0 one yes (λ κs x f. refl), tt)) #self fn (code.unfolded 𝓤 H 𝓜 𝓡 wired)
    (λ κs. ((λ v. token ∷ []), ((λ v. token ∷ []), tt))) (λ κs. ((λ v vs so. view_told vs so.0), ((λ v vs so. view_told vs so.0), tt))) (λ κs qs bounds a gh are.
    let u : Vr.Denot = a.0 in let v : Vr.Denot = record u { spent = u.spent ++ a.1.0.spent } in let Told : Type 0 = (u.yard ≡ u.yard) × (v.spent ≡ v.spent) in
    let y : (walk_of 𝓛 En hs c).Ghost = ((κs, qs, bounds, a, (token ∷ [], (token ∷ [], tt))), gh) in let Post : Val → SProp 𝓤 = (walk_of 𝓛 En hs c).post y in
    qed 𝓛 ((raw (alive 𝓛 En.signature κs qs) ⊛ ‵ (owns (types_at En.signature.params κs) a y.0.4)) ∷ raw ((c κs a).requires gh) ∷ []) ∵
    split ! $ move ! (1 ∷ []) $ fsplit3 ! $ keep ! (0 ∷ 1 ∷ 3 ∷ []) $ fsplit ! $ move ! (2 ∷ []) $ fsplit ! $
    -- [the field and the seats of the other; those of the one; the tokens]
    move ! (3 ∷ 1 ∷ []) $ use2 𝓛 (‵ (spents_own v.spent)) (spents_join 𝓛 u.spent a.1.0.spent) $ move ! (1 ∷ 0 ∷ []) $ fjoin ! $ keep ! (0 ∷ 2 ∷ []) $
    enter ! 𝓣.C 𝓣.Λ fn (token ∷ token ∷ []) Post $ alloc_all ! (λ l. pass_all ! refl (token_good, (token_good, tt)) $
    sets ! (of_opd ! (get ! refl)) refl token_good $
    use0 𝓛 (raw (fact 𝓤 Told)) (fact_i 𝓤 Told (emp 𝓤) (refl, refl)) $ nothing ! $ nothing ! $ fjoin ! $ nothing ! $ fjoin ! $
    returns ! (look_at ! 0 refl) $ free_all ! refl $ keep ! (3 ∷ 0 ∷ 2 ∷ 1 ∷ []) $ by ! (leaves 𝓛 En hs c y token v (tt, (tt, tt)) (tt, (tt, tt)))))
