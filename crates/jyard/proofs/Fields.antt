-- The data fields of a `Table`, a `Seat` and a `View`. Assumes `Logic`.
use Rattle.std.proofs.Common.{◌≡◌, ℕ, ◌^◌, ◌<◌, w64, T, List, [], ◌∷◌, ◌++◌, refl, ap, ◌∙◌}
use seplogic.Ra.Ura.{Ura}
use mir.Syntax.{Ty, ty_int, ty_ptr, ty_struct, tcons, tnil}
use mir.Val.{Val, vint, vstruct, vcons, vnil, of_list, has_ty, WT}
use base.Logic.{ent, emp}
use types.Logic.{Logic, sem}
use denote.RattleType.{RattleType}
use denote.Laws.{Is}
use denote.Opens.{Opens}
use denote.Copied.{Struct-Copied}
use denote.RawPtr.{Ptr, block_ptr, null_ptr, ptr_val}
use denote.Shadow.{makes_shadow}
use denote.Struct.Laws.{RawPtr-copy}
use denote.Struct.Struct.{Struct}
use denote.Struct.Owning.{shape}
use Rattle.jyard.specs.contracts.table.Table as table
use Rattle.jyard.specs.contracts.table.Seat as seat
use Rattle.jyard.specs.contracts.seats.Seats as seats
use Rattle.jyard.specs.contracts.view.View as view

abbrev pub pair_of : Ptr → Ptr → Val
pair_of w p = vstruct (vcons (ptr_val w) (vcons (ptr_val p) vnil))

abbrev pub strip_of : Ptr → Val
strip_of p = vstruct (vcons (ptr_val p) vnil)

-- a value of no bytes
abbrev pub token : Val
token = vstruct (vcons (vstruct vnil) vnil)

abbrev token_ty : Ty
token_ty = ty_struct [] (tcons (ty_struct [] tnil) tnil)

pub ptr_good : (p : Ptr) → T (has_ty ty_ptr (ptr_val p)) × WT (ptr_val p)
ptr_good (block_ptr b o) = (tt, tt)
ptr_good null_ptr = (tt, record { fits = lib.Dec.lit< tt })

pub strip_good : (p : Ptr) → T (has_ty (ty_struct [] (tcons ty_ptr tnil)) (strip_of p)) × WT (strip_of p)
strip_good (block_ptr b o) = (tt, (tt, tt))
strip_good null_ptr = (tt, (record { fits = lib.Dec.lit< tt }, tt))

pub token_good : T (has_ty token_ty token) × WT token
token_good = (tt, (tt, tt))

pub pair_good : (w p : Ptr) → T (has_ty (ty_struct [] (tcons ty_ptr (tcons ty_ptr tnil))) (pair_of w p)) × WT (pair_of w p)
pair_good (block_ptr b o) (block_ptr c e) = (tt, (tt, (tt, tt)))
pair_good (block_ptr b o) null_ptr = (tt, (tt, (record { fits = lib.Dec.lit< tt }, tt)))
pair_good null_ptr (block_ptr c e) = (tt, (record { fits = lib.Dec.lit< tt }, (tt, tt)))
pair_good null_ptr null_ptr = (tt, (record { fits = lib.Dec.lit< tt }, (record { fits = lib.Dec.lit< tt }, tt)))

abbrev pub strips_of : Ptr → Ptr → Val
strips_of w p = vstruct (vcons (strip_of w) (vcons (strip_of p) vnil))

pub strips_good : (w p : Ptr) → T (has_ty (ty_struct [] (tcons (ty_struct [] (tcons ty_ptr tnil)) (tcons (ty_struct [] (tcons ty_ptr tnil)) tnil))) (strips_of w p)) × WT (strips_of w p)
strips_good (block_ptr b o) (block_ptr c e) = (tt, ((tt, tt), ((tt, tt), tt)))
strips_good (block_ptr b o) null_ptr = (tt, ((tt, tt), ((record { fits = lib.Dec.lit< tt }, tt), tt)))
strips_good null_ptr (block_ptr c e) = (tt, ((record { fits = lib.Dec.lit< tt }, tt), ((tt, tt), tt)))
strips_good null_ptr null_ptr = (tt, ((record { fits = lib.Dec.lit< tt }, tt), ((record { fits = lib.Dec.lit< tt }, tt), tt)))

abbrev pub found_of : ℕ → Val
found_of n = vstruct (vcons (vint w64 n) (vcons token vnil))

pub found_good : (n : ℕ) → n < 2 ^ 64 → T (has_ty (ty_struct [] (tcons (ty_int w64) (tcons token_ty tnil))) (found_of n)) × WT (found_of n)
found_good n f = (tt, (record { fits = f }, ((tt, tt), tt)))

module _ (R : RattleType) where
  abbrev pub TableData : RattleType
  TableData = Struct (shape (table.the_type R))

  abbrev pub SeatData : RattleType
  SeatData = Struct (shape (seat.the_type R))

  pub table_told : (w p : Ptr) (vs : List Val) → Is TableData (w, (p, tt)) vs → vs ≡ pair_of w p ∷ []
  table_told w p vs is = is.1.0 ∙ ap (λ (ws : List Val). vstruct (of_list (ws ++ (is.0.1.0 ++ []))) ∷ []) is.1.1.0 ∙ ap (λ (ws : List Val). vstruct (of_list (ptr_val w ∷ (ws ++ []))) ∷ []) is.1.1.1.0

  pub seat_told : (vs : List Val) → Is SeatData (tt, tt) vs → vs ≡ token ∷ []
  seat_told vs is = is.1.0 ∙ ap (λ (ws : List Val). vstruct (of_list (ws ++ [])) ∷ []) is.1.1.0.1.0

  module _ {M : Type 1} {𝓤 : Ura M} (𝓛 : Logic 𝓤) where
    pub table_made : (w p : Ptr) → ent 𝓤 (emp 𝓤) (sem 𝓛 (TableData.own_val (w, (p, tt)) (pair_of w p ∷ [])))
    table_made w p = makes_shadow 𝓛 (TableData.own_val (w, (p, tt)) (pair_of w p ∷ [])) (λ vss. (tt, (tt, (tt, tt)))) ((ptr_val w ∷ [], (ptr_val p ∷ [], tt)), (refl, (refl, (refl, tt))))

    pub seat_made : ent 𝓤 (emp 𝓤) (sem 𝓛 (SeatData.own_val (tt, tt) (token ∷ [])))
    seat_made = makes_shadow 𝓛 (SeatData.own_val (tt, tt) (token ∷ [])) (λ vss. (tt, ((λ uss. (tt, tt)), tt))) ((vstruct vnil ∷ [], tt), (refl, ((tt, (refl, tt)), tt)))

    pub table_opens : Opens 𝓛 TableData
    table_opens = (Struct-Copied 𝓛 (shape (table.the_type R)) (refl, (refl, tt)) (RawPtr-copy.copied M 𝓤 𝓛, (RawPtr-copy.copied M 𝓤 𝓛, tt))).opens

abbrev pub ViewData : RattleType
ViewData = Struct (shape view.the_type)

pub view_told : (vs : List Val) → Is ViewData (tt, tt) vs → vs ≡ token ∷ []
view_told vs is = is.1.0 ∙ ap (λ (ws : List Val). vstruct (of_list (ws ++ [])) ∷ []) is.1.1.0.1.0

pub view_made : {M : Type 1} {𝓤 : Ura M} (𝓛 : Logic 𝓤) → ent 𝓤 (emp 𝓤) (sem 𝓛 (ViewData.own_val (tt, tt) (token ∷ [])))
view_made 𝓛 = makes_shadow 𝓛 (ViewData.own_val (tt, tt) (token ∷ [])) (λ vss. (tt, ((λ uss. (tt, tt)), tt))) ((vstruct vnil ∷ [], tt), (refl, ((tt, (refl, tt)), tt)))

module _ (R : RattleType) where
  abbrev pub SeatsData : RattleType
  SeatsData = Struct (shape (seats.the_type R))

  pub seats_told : (vs : List Val) → Is SeatsData (tt, tt) vs → vs ≡ token ∷ []
  seats_told vs is = is.1.0 ∙ ap (λ (ws : List Val). vstruct (of_list (ws ++ [])) ∷ []) is.1.1.0.1.0

  pub seats_made : {M : Type 1} {𝓤 : Ura M} (𝓛 : Logic 𝓤) → ent 𝓤 (emp 𝓤) (sem 𝓛 (SeatsData.own_val (tt, tt) (token ∷ [])))
  seats_made 𝓛 = makes_shadow 𝓛 (SeatsData.own_val (tt, tt) (token ∷ [])) (λ vss. (tt, ((λ uss. (tt, tt)), tt))) ((vstruct vnil ∷ [], tt), (refl, ((tt, (refl, tt)), tt)))

abbrev pub tokens_of : Val
tokens_of = vstruct (vcons token (vcons token vnil))

pub tokens_good : T (has_ty (ty_struct [] (tcons token_ty (tcons token_ty tnil))) tokens_of) × WT tokens_of
tokens_good = (tt, ((tt, tt), ((tt, tt), tt)))
