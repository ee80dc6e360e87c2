-- A table may be shared and a seat may go to another thread, where the value may do both.
use Rattle.std.proofs.Common.{ℕ, zero, suc, ◌+◌, ◌*◌, List, [], ◌∷◌}
use base.Fml.{Lft}
use base.Shift.{Keyless}
use denote.RattleType.{RattleType}
use denote.RawPtr.{Ptr, block_of, count_of}
use denote.Param.Send.{IsSend, IsSync}
use Rattle.std_alloc.proofs.SendSync.{lies, seen}
use types.Keyed.{entry_keyless}
use Rattle.atomic_table.specs.Seated.{halved}
use Rattle.atomic_table.proofs.Sent.{roster_keyless}
use Rattle.jyard.specs.Logs.{Entry, Sitter, sitter_coded, seats_after}
use Rattle.jyard.specs.Units.{BlockId, Phase, free, emptying, alone, shared, state, parts, seat_owns, seat_has, seat_shares, seat_shows, history, sits, holder, Spent, spents_own, Inv, place, inner, blocks_own, blocks_share, table_owns, table_shares}

history_keyless : (z : BlockId) (n : ℕ) → Keyless (history z n)
history_keyless z n = λ log. (roster_keyless sitter_coded.code z.log_name 0 (seats_after log), λ _. tt)

pub sits_keyless : (z : BlockId) (i : ℕ) (v : Sitter) → Keyless (sits z i v)
sits_keyless z i v = entry_keyless halved z.log_name i _

pub spents_keyless : (ss : List Spent) → Keyless (spents_own ss)
spents_keyless [] = tt
spents_keyless (s ∷ ss) = (sits_keyless s.id s.seat _, spents_keyless ss)

module _ (R : RattleType) (s : IsSend R) (y : IsSync R) (p : Ptr) (z : BlockId) where
  parts_keyless : (a : ℕ) (x : R.Denot) (k : ℕ) → Keyless (parts R p z a x k)
  parts_keyless a x k = ((λ e c. tt), ((λ e c. tt), seen R y p x (a ∷ [])))

  pub seat_keyless : (right a : ℕ) (x : R.Denot) → Keyless (seat_owns R p z right a x)
  seat_keyless zero a x = tt
  seat_keyless (suc zero) a x = parts_keyless a x 1
  seat_keyless (suc (suc zero)) a x = ((tt, tt), lies R s p x)
  seat_keyless (suc (suc (suc k))) a x = ((tt, tt), lies R s p x)

  pub holder_keyless : (right a : ℕ) (x : R.Denot) (i : ℕ) (steps : List Entry) → Keyless (seat_has R p z right a x i steps)
  holder_keyless right a x i steps = (seat_keyless right a x, sits_keyless z i (holder right steps))

  module _ (empty : R.Denot) where
    state_keyless : (n : ℕ) (ph : Phase R.Denot) → Keyless (state R p z empty n ph)
    state_keyless n free = ((λ _. tt), ((λ _. tt), (((tt, tt), (tt, tt)), lies R s p empty)))
    state_keyless n emptying = ((λ _. tt), ((λ _. tt), (tt, tt)))
    state_keyless n alone = ((λ _. tt), ((λ _. tt), (tt, tt)))
    state_keyless n (shared u a x) = ((λ _. tt), (parts_keyless a x _, (((tt, tt), (tt, tt)), lies R s p x)))

    pub inv_keyless : (b o : ℕ) → Keyless (Inv R p z empty b o)
    inv_keyless b o = λ n. (tt, (state_keyless n, history_keyless z n))

module _ (R : RattleType) (s : IsSend R) (y : IsSync R) (p w : Ptr) (empty : R.Denot) where
  inside : (k : ℕ) (z : BlockId) → Keyless (inner R p w empty k z)
  inside k z = inv_keyless R s y (place z) z empty (block_of w) (k * 8 + count_of w)

  blocks_keyless : (k : ℕ) (zs : List BlockId) → Keyless (blocks_own R p w empty k zs)
  blocks_keyless k [] = tt
  blocks_keyless k (z ∷ zs) = ((tt, (((λ _. tt), inside k z), inside k z)), blocks_keyless (suc k) zs)

  pub table_keyless : (zs : List BlockId) → Keyless (table_owns R p w empty zs)
  table_keyless zs = ((λ _. tt), blocks_keyless 0 zs)

  blocks_common : (k : ℕ) (zs : List BlockId) (κ : Lft) → Keyless (blocks_share R p w empty k zs κ)
  blocks_common k [] κ = tt
  blocks_common k (z ∷ zs) κ = (((λ _. tt), ((λ _. tt), inside k z)), blocks_common (suc k) zs κ)

  pub table_common : (zs : List BlockId) (κ : Lft) → Keyless (table_shares R p w empty zs κ)
  table_common zs κ = (tt, blocks_common 0 zs κ)

module _ (R : RattleType) (y : IsSync R) (p : Ptr) (z : BlockId) where
  pub seat_common : (right a : ℕ) (x : R.Denot) (κ : Lft) → Keyless (seat_shares R p z right a x κ)
  seat_common zero a x κ = tt
  seat_common (suc zero) a x κ = (tt, ((λ q. tt), seen R y p x (a ∷ [])))
  seat_common (suc (suc k)) a x κ = (tt, seen R y p x κ)

  pub seat_shown : (right a : ℕ) (x : R.Denot) (κ : Lft) → Keyless (seat_shows R p z right a x κ)
  seat_shown right a x κ = (seat_common right a x κ, tt)
