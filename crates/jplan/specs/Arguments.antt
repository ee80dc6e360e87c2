-- The arguments of a verb in cells of its ranks (J Dictionary, "Verbs"; NuVoc, "Rank", "Agreement"): cell i of the frame
-- of both has a cell of each, and those of the shorter frame are repeated.
use Rattle.std.specs.Prelude.{◌≡◌, ℕ, ℤ, Option, Some, None, List, Result, Ok, option_map}
use Rattle.std.specs.Option.{ForSome}
use Rattle.jdata.specs.Noun.{shape}
use Rattle.jdata.specs.declared.fault.Fault.{Fault}
use Rattle.jdata.specs.declared.noun.Noun.{Noun}
use Rattle.jshape.specs.Agreement.{agreed, repeated}
use Rattle.jshape.specs.Frames.{frame_of}
use Rattle.jframe.specs.Cells.{parted, filled_cell}
use Rattle.jframe.specs.Ranks.{paired}
use Rattle.jplan.specs.declared.arguments.Argument.{Argument}

-- the frame of the arguments, or why they have none
abbrev pub frame : Option ℤ → Option ℤ → Option Noun → Noun → Result (List ℕ) Fault
frame left right (Some x) y = agreed (frame_of left (shape x)) (frame_of right (shape y))
frame left right None y = Ok (frame_of right (shape y))

-- the arguments of cell i
abbrev pub x_of_cell : Option ℤ → Option Noun → List ℕ → ℕ → Option Noun
x_of_cell left x whole i = option_map (λ a. paired left whole a i) x

abbrev pub y_of_cell : Option ℤ → Noun → List ℕ → ℕ → Noun
y_of_cell right y whole i = paired right whole y i

-- the arguments where the frame has a 0: cells of fills
abbrev pub x_of_fills : Option ℤ → Option Noun → Option Noun
x_of_fills left x = option_map (filled_cell left) x

abbrev pub y_of_fills : Option ℤ → Noun → Noun
y_of_fills right y = filled_cell right y

-- an argument that was parted at a rank, beside the frame of all
pub record IsParted (rank : Option ℤ) (whole : List ℕ) (a : Argument) : Type 0 where
  pub cells : a.cells ≡ parted rank (shape a.value)
  pub repeats : a.repeats ≡ repeated (frame_of rank (shape a.value)) whole

abbrev pub x_in : Option Argument → Option Noun
x_in a = option_map (λ x. x.value) a

-- arguments that were parted at their ranks
pub record AreParted (left right : Option ℤ) (whole : List ℕ) (x : Option Argument) (y : Argument) : Type 0 where
  pub frame_is : frame left right (x_in x) y.value ≡ Ok whole
  pub x_is : ForSome x (λ (a : Argument). IsParted left whole a)
  pub y_is : IsParted right whole y
