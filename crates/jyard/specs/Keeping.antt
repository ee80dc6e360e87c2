-- What contracts see of a hold that keeps an owner of its yard.
use Rattle.std.specs.Prelude.{ℕ, List, [], ◌∷◌, ◌++◌, Option, Some, None}
use base.Stored.{Coded, coded×, coded_ℕ, coded_via}
use Rattle.std.specs.Coded.{coded_option}
use Rattle.jyard.specs.Logs.{Entry, entry, looking, steps_coded}
use Rattle.jyard.specs.Units.{BlockId, ids_coded}
use Rattle.jyard.specs.declared.hold.Hold.{Hold}

-- Its yard and its block there, the payload while it hasn't left, its seat among the block's seats, and all steps that this made
pub record Keeping (T : Type 0) : Type 0 where
  pub yard : List BlockId
  pub block : ℕ
  pub payload : Option T
  pub seat : ℕ
  pub steps : List Entry

abbrev pub keeping_coded : {T : Type 0} → Coded T → Coded (Keeping T)
keeping_coded {T} c = coded_via (coded× ids_coded (coded× coded_ℕ (coded× (coded_option c) (coded× coded_ℕ steps_coded))))
    (λ (k : Keeping T). (k.yard, (k.block, (k.payload, (k.seat, k.steps)))))
    (λ x y e i. record { yard = (e i).0; block = (e i).1.0; payload = (e i).1.1.0; seat = (e i).1.1.1.0; steps = (e i).1.1.1.1 })

module _ {T : Type 0} where
  abbrev pub kept_as : List BlockId → Hold T → Keeping T
  kept_as ids h = record { yard = ids; block = h.block; payload = h.seat.value; seat = h.seat.seat; steps = h.seat.steps }

  abbrev pub keeping : List BlockId → Option (Hold T) → Keeping T
  keeping ids (Some h) = kept_as ids h
  keeping ids None = record { yard = ids; block = 0; payload = None; seat = 0; steps = [] }

  -- it looked, and found the word n
  abbrev pub looked_at : Keeping T → ℕ → Keeping T
  looked_at k n = record k { steps = k.steps ++ entry looking k.seat n n 0 ∷ [] }

  -- it looked, found that it is the only one, and has another payload
  abbrev pub replaced_by : Keeping T → T → Keeping T
  replaced_by k w = record (looked_at k 2) { payload = Some w }
