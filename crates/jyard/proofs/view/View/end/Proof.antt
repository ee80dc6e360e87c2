-- One seat more is with the pass's.
use Rattle.atomic_table.proofs.Names.{◌≡◌, ℕ, [], ◌∷◌, ◌++◌, refl, heard, rewrite, use2, drop, a_type, Val, inst_fn, SProp, emp, ‵, raw, ◌⊛◌, ◌$◌, ◌∵◌, !, qed, by, move, keep, split, fsplit, fsplit3, fjoin, use0, of_opd, returns, enter, alloc_all, pass_all, free_all, look_at, get, sets, tables, no, yes, RattleType, owns, types_at, plain, nothing, param, layouts, alive, Stays, stay_dropped, walk_of, Goes-dropped, fact, fact_i}
use Rattle.atomic_table.proofs.Walks.{proved, leaves}
use Rattle.jyard.specs.Units.{sits, holder, spents_own}
use Rattle.jyard.proofs.Spents.{spents_more}
use Rattle.jyard.specs.contracts.table.Seat as seat
use Rattle.jyard.specs.contracts.view.View as view
use Rattle.jyard.proofs.Fields.{token, token_good, seat_told, view_told}
use Rattle.jyard.specs.contracts.view.View.end.{ended, clauses}
use Rattle.jyard.specs.contracts.view.View.end.Key.{name as #self}
use Rattle.jyard.proofs.view.View.end.Statement.{statement}
use Rattle.jyard.proofs.view.View.end.Code as code

pub end_spec : {M : Type 1} → statement M
end_spec 𝓤 𝓛 𝓜 𝓡 wired X LX =
    let H = 𝓛.H in let 𝓣 = tables 𝓤 H 𝓜 𝓡 𝓡.env in let R : RattleType = param 0 X in let En = ended X in let c = clauses X 𝓛 𝓜.mem 𝓡.returns in
    let inst = layouts (a_type ∷ []) (X, tt) in let fn = inst_fn inst code.function in let Sr : RattleType = seat.the_row R in let Vr : RattleType = view.the_row in let sitter = plain (λ _. Sr) in let group = plain (λ _. Vr) in
    let hs : Stays En.signature.params En.kept = (stay_dropped group yes, (stay_dropped sitter no, tt)) in
    proved 𝓛 En hs c 𝓜 𝓡 (Goes-dropped 𝓛 1 group yes (λ κs x f. refl), (Goes-dropped 𝓛 1 sitter no (λ κs x f. refl), tt)) (#self inst) fn (code.unfolded 𝓤 H 𝓜 𝓡 wired (X, tt))
    (λ κs. ((λ e. token ∷ []), ((λ e. token ∷ []), tt))) (λ κs. ((λ e vs so. view_told vs so.0), ((λ e vs so. seat_told R vs so.0), tt))) (λ κs qs bounds a gh are.
    let h : Sr.Denot = a.1.0 in let u : Vr.Denot = a.0 in let v : Vr.Denot = record u { spent = u.spent ++ record { id = h.id; seat = h.seat; steps = h.steps } ∷ [] } in let Told : Type 0 = (u.yard ≡ u.yard) × (v.spent ≡ v.spent) in let Asked : Type 0 = h.right ≡ 0 in
    let y : (walk_of 𝓛 En hs c).Ghost = ((κs, qs, bounds, a, (token ∷ [], (token ∷ [], tt))), gh) in let Post : Val → SProp 𝓤 = (walk_of 𝓛 En hs c).post y in
    qed 𝓛 ((raw (alive 𝓛 En.signature κs qs) ⊛ ‵ (owns (types_at En.signature.params κs) a y.0.4)) ∷ raw (fact 𝓤 _) ∷ raw (fact 𝓤 Asked) ∷ []) ∵
    keep ! (2 ∷ 0 ∷ []) $ heard ! Asked (λ none. split ! $ move ! (1 ∷ []) $ fsplit3 ! $ fsplit ! $ move ! (2 ∷ []) $ fsplit ! $ keep ! (1 ∷ 3 ∷ 2 ∷ 5 ∷ []) $
    -- [what the seat has; the pass's seats; the pass's field; the tokens]
    fsplit ! $ drop ! $ rewrite ! 0 (λ (r : ℕ). ‵ (sits h.id h.seat (holder r h.steps))) none refl $ move ! (1 ∷ 0 ∷ []) $
    use2 𝓛 (‵ (spents_own v.spent)) (spents_more 𝓛 u.spent h.id h.seat h.steps) $ move ! (1 ∷ 0 ∷ []) $ fjoin ! $
    enter ! 𝓣.C 𝓣.Λ fn (token ∷ token ∷ []) Post $ alloc_all ! (λ l. pass_all ! refl (token_good, (token_good, tt)) $
    sets ! (of_opd ! (get ! refl)) refl token_good $
    use0 𝓛 (raw (fact 𝓤 Told)) (fact_i 𝓤 Told (emp 𝓤) (refl, refl)) $ nothing ! $ nothing ! $ fjoin ! $ nothing ! $ fjoin ! $
    returns ! (look_at ! 0 refl) $ free_all ! refl $ keep ! (3 ∷ 0 ∷ 2 ∷ 1 ∷ []) $ by ! (leaves 𝓛 En hs c y token v (tt, (tt, tt)) (tt, (tt, tt))))))
