-- One block of memory that has a row of n words and after it a row of n values, as a struct of two arrays lies.
use Rattle.std.specs.Prelude.{◌≡◌, ℕ, ◌+◌, ◌*◌, ◌^◌, ◌<◌, [], max}
use Rattle.std.specs.Mem.{type_size}
use Rattle.std.specs.Align.{type_align}
use mir.Syntax.{Ty, w64, ty_int, ty_array, ty_struct, tcons, tnil}
use mir.Raw.{raw}
use base.Fml.{Fml, fsep, fwand}
use prog.Memory.{up}
use denote.RattleType.{RattleType}
use denote.Memory.{lone}
use denote.RawPtr.{Ptr, room_for}
use Rattle.core.specs.Allocator.{HasLayout}
use Rattle.atomic_table.specs.Seated.{fact}

module _ (R : RattleType) (n : ℕ) where
  -- the types of the two rows, and of the block
  abbrev pub words_type : Ty
  words_type = ty_array (ty_int w64) n

  abbrev pub values_type : Ty
  values_type = ty_array (raw (lone R.mir)) n

  abbrev pub block_type : Ty
  block_type = ty_struct [] (tcons words_type (tcons values_type tnil))

  -- the block has s bytes and is aligned to a, and its values begin at d
  abbrev pub IsPlan : ℕ → ℕ → ℕ → Type 0
  IsPlan s a d = (d ≡ up (type_align R) (n * 8)) × (a ≡ max 8 (type_align R)) × (s ≡ up a (d + n * type_size R)) × (s < 2 ^ 63) × (n * type_size R < 2 ^ 63) × (n * 8 < 2 ^ 63)

-- room for n values from p on, whatever lies there
abbrev pub blank : RattleType → Ptr → ℕ → Fml
blank R p n = fsep (fact (n * type_size R < 2 ^ 63)) (room_for (values_type R n) p)

-- what frees the block: the right to it, and the way in which its two rows, empty, are the whole of it
abbrev pub deed_owns : (Ty → Ptr → Fml) → (R : RattleType) → Ptr → Ptr → ℕ → ℕ → ℕ → Fml
deed_owns t R w p n s a = fsep (fact (HasLayout (block_type R n) s a)) (fsep (t (block_type R n) w)
    (fwand (fsep (room_for (words_type R n) w) (room_for (values_type R n) p)) (room_for (block_type R n) w)))
