-- The seat that came last goes its own way again.
use Rattle.atomic_table.proofs.Names.{◌≡◌, ◌<◌, List, [], ◌∷◌, ◌++◌, length, refl, a_type, Val, vstruct, of_list, inst_fn, SProp, emp, fsep, ‵, raw, ◌⊛◌, ◌$◌, ◌∵◌, !, qed, by, move, keep, split, fsplit, fjoin, fjoin3, fpack, feq_i, use0, rewrite, heard, no_more, and_then, agg, returns, enter, alloc_all, pass_all, free_all, look_at, get, sets, tables, no, RattleType, owns, Valss, types_at, plain, nothing, param, layouts, alive, Stays, stay_dropped, walk_of, Goes-dropped, fact, fact_i}
use base.Fml.{feq}
use Rattle.std.proofs.Common.{arith}
use Rattle.atomic_table.proofs.Walks.{proved, leaves}
use Rattle.jyard.specs.Seats.{seat_of}
use Rattle.jyard.specs.Units.{SeatOf, seats_own}
use Rattle.jyard.specs.contracts.table.Seat as seat
use Rattle.jyard.specs.contracts.seats.Seats as seats
use Rattle.jyard.proofs.Fields.{token, token_good, tokens_of, tokens_good, SeatData, seat_made, SeatsData, seats_told, seats_made}
use Rattle.jyard.specs.contracts.seats.Seats.part.{ended, clauses}
use Rattle.jyard.specs.contracts.seats.Seats.part.Key.{name as #self}
use Rattle.jyard.proofs.seats.Seats.part.Statement.{statement}
use Rattle.jyard.proofs.seats.Seats.part.Code as code

first_of : {A : Type 0} (l : List A) → 0 < length l → (s : A) × (ss : List A) × (l ≡ s ∷ ss)
first_of [] h = absurd (omega (arith, h))
first_of (s ∷ ss) h = (s, ss, refl)

pub part_spec : {M : Type 1} → statement M
part_spec 𝓤 𝓛 𝓜 𝓡 wired X LX =
    let H = 𝓛.H in let 𝓣 = tables 𝓤 H 𝓜 𝓡 𝓡.env in let R : RattleType = param 0 X in let En = ended X in let c = clauses X 𝓛 𝓜.mem 𝓡.returns in
    let inst = layouts (a_type ∷ []) (X, tt) in let fn = inst_fn inst code.function in let Sr : RattleType = seat.the_row R in let Gr : RattleType = seats.the_row R in let group = plain (λ _. Gr) in
    let hs : Stays En.signature.params En.kept = (stay_dropped group no, tt) in
    proved 𝓛 En hs c 𝓜 𝓡 (Goes-dropped 𝓛 1 group no (λ κs x f. refl), tt) (#self inst) fn (code.unfolded 𝓤 H 𝓜 𝓡 wired (X, tt))
    (λ κs. ((λ e. token ∷ []), tt)) (λ κs. ((λ e vs so. seats_told R vs so.0), tt)) (λ κs qs bounds a gh are.
    let all : List (SeatOf X.Denot) = a.0.all in let r : Val = tokens_of in
    let y : (walk_of 𝓛 En hs c).Ghost = ((κs, qs, bounds, a, (token ∷ [], tt)), gh) in let Post : Val → SProp 𝓤 = (walk_of 𝓛 En hs c).post y in
    qed 𝓛 ((raw (alive 𝓛 En.signature κs qs) ⊛ ‵ (owns (types_at En.signature.params κs) a y.0.4)) ∷ raw (fact 𝓤 _) ∷ raw (fact 𝓤 (0 < length all)) ∷ []) ∵
    keep ! (2 ∷ 0 ∷ []) $ heard ! (0 < length all) (λ some. let got = first_of all some in let s : SeatOf X.Denot = got.0 in let ss : List (SeatOf X.Denot) = got.1 in
    let h : Sr.Denot = record { marker = record {}; id = s.id; right = s.right; round = s.round; value = s.value; seat = s.seat; steps = s.steps } in let g : Gr.Denot = record { marker = record {}; all = ss } in let Told : Type 0 = all ≡ seat_of h ∷ ss in
    split ! $ move ! (1 ∷ []) $ fsplit ! $ fsplit ! $ keep ! (1 ∷ 3 ∷ []) $ rewrite ! 0 (λ (l : List (SeatOf X.Denot)). ‵ (seats_own R l)) got.2 refl $ fsplit ! $
    -- [what the seat has; what the others have; the tokens]
    use0 𝓛 (‵ ((SeatData R).own_val (tt, tt) (token ∷ []))) (seat_made R 𝓛) $ fjoin ! $ move ! (1 ∷ []) $ use0 𝓛 (‵ ((SeatsData R).own_val (tt, tt) (token ∷ []))) (seats_made R 𝓛) $ fjoin ! $
    nothing ! $ move ! (2 ∷ 1 ∷ 0 ∷ []) $ fjoin3 ! $ feq_i ! (List Val) (r ∷ []) (r ∷ []) refl $ fjoin ! $
    fpack ! (Valss (Sr ∷ Gr ∷ [])) (λ uss. fsep (feq (List Val) (r ∷ []) (vstruct (of_list (uss.0 ++ (uss.1.0 ++ []))) ∷ [])) (owns (Sr ∷ Gr ∷ []) (h, (g, tt)) uss)) (token ∷ [], (token ∷ [], tt)) $
    enter ! 𝓣.C 𝓣.Λ fn (token ∷ []) Post $ alloc_all ! (λ l. pass_all ! refl (token_good, tt) $
    sets ! (agg ! (no_more !)) refl (tt, tt) $ sets ! (agg ! (and_then ! (get ! refl) (no_more !))) refl token_good $ sets ! (agg ! (no_more !)) refl (tt, tt) $ sets ! (agg ! (and_then ! (get ! refl) (no_more !))) refl token_good $
    sets ! (agg ! (and_then ! (get ! refl) (and_then ! (get ! refl) (no_more !)))) refl tokens_good $
    use0 𝓛 (raw (fact 𝓤 Told)) (fact_i 𝓤 Told (emp 𝓤) got.2) $ nothing ! $ nothing ! $ fjoin ! $
    returns ! (look_at ! 0 refl) $ free_all ! refl $ keep ! (3 ∷ 0 ∷ 2 ∷ 1 ∷ []) $ by ! (leaves 𝓛 En hs c y r (h, g) (tt, tt) (tt, tt)))))
