-- One seat more is with the others.
use Rattle.atomic_table.proofs.Names.{◌≡◌, [], ◌∷◌, refl, a_type, Val, inst_fn, SProp, emp, ‵, raw, ◌⊛◌, ◌$◌, ◌∵◌, !, qed, by, move, keep, split, fsplit, fsplit3, fjoin, use0, of_opd, returns, enter, alloc_all, pass_all, free_all, look_at, get, sets, tables, no, RattleType, owns, types_at, plain, nothing, param, layouts, alive, Stays, stay_dropped, walk_of, Goes-dropped, fact, fact_i}
use Rattle.atomic_table.proofs.Walks.{proved, leaves}
use Rattle.jyard.specs.Seats.{seat_of}
use Rattle.jyard.specs.contracts.table.Seat as seat
use Rattle.jyard.specs.contracts.seats.Seats as seats
use Rattle.jyard.proofs.Fields.{token, token_good, seat_told, SeatsData, seats_told, seats_made}
use Rattle.jyard.specs.contracts.seats.Seats.add.{ended, clauses}
use Rattle.jyard.specs.contracts.seats.Seats.add.Key.{name as #self}
use Rattle.jyard.proofs.seats.Seats.add.Statement.{statement}
use Rattle.jyard.proofs.seats.Seats.add.Code as code

pub add_spec : {M : Type 1} → statement M
add_spec 𝓤 𝓛 𝓜 𝓡 wired X LX =
    let H = 𝓛.H in let 𝓣 = tables 𝓤 H 𝓜 𝓡 𝓡.env in let R : RattleType = param 0 X in let En = ended X in let c = clauses X 𝓛 𝓜.mem 𝓡.returns in
    let inst = layouts (a_type ∷ []) (X, tt) in let fn = inst_fn inst code.function in let Sr : RattleType = seat.the_row R in let Gr : RattleType = seats.the_row R in let sitter = plain (λ _. Sr) in let group = plain (λ _. Gr) in
    let hs : Stays En.signature.params En.kept = (stay_dropped group no, (stay_dropped sitter no, tt)) in
    proved 𝓛 En hs c 𝓜 𝓡 (Goes-dropped 𝓛 1 group no (λ κs x f. refl), (Goes-dropped 𝓛 1 sitter no (λ κs x f. refl), tt)) (#self inst) fn (code.unfolded 𝓤 H 𝓜 𝓡 wired (X, tt))
    (λ κs. ((λ e. token ∷ []), ((λ e. token ∷ []), tt))) (λ κs. ((λ e vs so. seats_told R vs so.0), ((λ e vs so. seat_told R vs so.0), tt))) (λ κs qs bounds a gh are.
    let h : Sr.Denot = a.1.0 in let g : Gr.Denot = record { marker = record {}; all = seat_of h ∷ a.0.all } in let Told : Type 0 = g.all ≡ g.all in
    let y : (walk_of 𝓛 En hs c).Ghost = ((κs, qs, bounds, a, (token ∷ [], (token ∷ [], tt))), gh) in let Post : Val → SProp 𝓤 = (walk_of 𝓛 En hs c).post y in
    qed 𝓛 ((raw (alive 𝓛 En.signature κs qs) ⊛ ‵ (owns (types_at En.signature.params κs) a y.0.4)) ∷ raw ((c κs a).requires gh) ∷ []) ∵
    split ! $ move ! (1 ∷ []) $ fsplit3 ! $ fsplit ! $ move ! (2 ∷ []) $ fsplit ! $ keep ! (1 ∷ 3 ∷ 5 ∷ []) $
    -- [what the seat has; what the others have; the tokens]
    fjoin ! $ use0 𝓛 (‵ ((SeatsData R).own_val (tt, tt) (token ∷ []))) (seats_made R 𝓛) $ fjoin ! $
    enter ! 𝓣.C 𝓣.Λ fn (token ∷ token ∷ []) Post $ alloc_all ! (λ l. pass_all ! refl (token_good, (token_good, tt)) $
    sets ! (of_opd ! (get ! refl)) refl token_good $
    use0 𝓛 (raw (fact 𝓤 Told)) (fact_i 𝓤 Told (emp 𝓤) refl) $ nothing ! $ nothing ! $ fjoin ! $ nothing ! $ fjoin ! $
    returns ! (look_at ! 0 refl) $ free_all ! refl $ keep ! (3 ∷ 0 ∷ 2 ∷ 1 ∷ []) $ by ! (leaves 𝓛 En hs c y token g (tt, (tt, tt)) (tt, (tt, tt)))))
