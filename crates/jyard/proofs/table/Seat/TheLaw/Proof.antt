-- A `&` to a seat shows its value, where the seat has a right to it. Assumes `Logic`.
use denote.RattleType.{RattleType}
use mathlib.Core.List.{[], ◌++◌}
use base.Fml.{Incl-trans}
use contract.BorrowLft.{meet_⊑_left}
use denote.Shares.{Shares-less}
use denote.Param.Laws.{Laws}
use denote.Param.Shared.{copy_shared}
use denote.Struct.Laws.{field_copy}
use denote.Struct.Lending.{of_Lends}
use Rattle.core.specs.contracts.marker.PhantomData as P
use Rattle.jyard.specs.Units.{place}
use Rattle.jyard.specs.contracts.table.Seat as C
use Rattle.jyard.proofs.table.Seat.TheLaw.Statement.{statement}
use Rattle.jyard.proofs.Laws.{seat_shows_laws, Lends-holder}

pub shares : (T : RattleType) (L : Laws T) → statement T L
shares T L = of_Lends (C.struct T) (C.the_codes T.Denot T.coded (P.the_row T).coded) (C.the_heap T) (C.the_lent T)
    (λ d p. seat_shows_laws T L.shr_laws (place d.id) d.id d.right d.round d.value) (copy_shared (P.the_field T) (field_copy (P.the_type T) tt), tt)
    (λ M 𝓤 𝓛 d p. let l = (C.the_row T).lives in
    Lends-holder T L.shr_laws (place d.id) d.id 𝓛 l (Shares-less 𝓛 T T.lives l (Incl-trans (meet_⊑_left (T.lives ++ []) (((T.lives ++ []) ++ []) ++ [])) (meet_⊑_left T.lives [])) (L.shares 𝓛)) d.right d.round d.value d.seat d.steps)
