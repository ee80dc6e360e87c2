-- Frames, cells and agreement (J Dictionary, "Verbs"; NuVoc, "Rank" and "Agreement").
use Rattle.std.specs.Prelude.{◌≡◌, ◌-◌, ℕ, suc, ℤ, pos, negsuc, min, ◌⊎◌, Option, Some, None, List, ◌++◌, length, take, drop}

-- how many of so many axes are the frame: a rank counts the axes of a cell, a negative one those of the
-- frame, and without a rank there is no limit to the cell
abbrev pub frame_length : Option ℤ → ℕ → ℕ
frame_length None axes = 0
frame_length (Some (pos rank)) axes = axes - rank
frame_length (Some (negsuc rank)) axes = min (suc rank) axes

-- the first axes are the frame, and the last the cell's
abbrev pub frame_of : Option ℤ → List ℕ → List ℕ
frame_of rank axes = take (frame_length rank (length axes)) axes

abbrev pub cell_of : Option ℤ → List ℕ → List ℕ
cell_of rank axes = drop (frame_length rank (length axes)) axes

-- the first frame is a prefix of the second
abbrev pub IsPrefix : List ℕ → List ℕ → Type 0
IsPrefix short long = (rest : List ℕ) × (long ≡ short ++ rest)

-- two frames agree where one is a prefix of the other
abbrev pub Agree : List ℕ → List ℕ → Type 0
Agree left right = IsPrefix left right ⊎ IsPrefix right left

-- and the frame of both is the longer one
abbrev pub IsLonger : List ℕ → List ℕ → List ℕ → Type 0
IsLonger left right longer = (IsPrefix left right × (longer ≡ right)) ⊎ (IsPrefix right left × (longer ≡ left))
