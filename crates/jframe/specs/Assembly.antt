-- Assembly of results into one array (J Dictionary, "Verbs"; NuVoc, "Framing Fill"): results of lower rank get leading
-- axes of 1, and shorter axes are filled.
use Rattle.std.specs.Prelude.{◌≡◌, ℕ, ◌-◌, ◌/◌, ◌%◌, max, nat_lt, Bool, true, false, if◌then◌else◌, List, [], ◌∷◌, ◌++◌, length, map, replicate, get_or, Result, Err}
use Rattle.std.specs.List.{range_with_len, filter, list_all}
use Rattle.jdata.specs.Fills.{fill_of}
use Rattle.jdata.specs.Indexes.{index_at, at_or}
use Rattle.jdata.specs.Kinds.{same_kind}
use Rattle.jdata.specs.Noun.{shape, kind, atoms, noun, product, greatest}
use Rattle.jdata.specs.Limits.{limited}
use Rattle.jdata.specs.Tabulated.{tabulated}
use Rattle.jdata.specs.declared.noun.Noun.{Noun}
use Rattle.jdata.specs.declared.noun.Kind.{Kind}
use Rattle.jdata.specs.declared.noun.Kind.TheVariants as sort
use Rattle.jdata.specs.declared.noun.Atom.{Atom}
use Rattle.jdata.specs.declared.fault.Fault.{Fault}
use Rattle.jdata.specs.declared.fault.Fault.TheVariants as fault

-- a shape with leading axes of 1 up to a rank
abbrev pub raised : ℕ → List ℕ → List ℕ
raised rank axes = replicate (rank - length axes) 1 ++ axes

abbrev pub greatest_rank : List Noun → ℕ
greatest_rank vs = greatest (map (λ v. length (shape v)) vs)

-- the greatest length of the raised results on an axis
abbrev pub greatest_on : List Noun → ℕ → ℕ
greatest_on vs axis = greatest (map (λ v. get_or (raised (greatest_rank vs) (shape v)) axis 1) vs)

-- the shape in which each result is put
abbrev pub common_shape : List Noun → List ℕ
common_shape vs = map (greatest_on vs) (range_with_len 0 (greatest_rank vs))

abbrev pub has_atoms : Noun → Bool
has_atoms v = nat_lt 0 (length (atoms v))

abbrev pub first_kind : List Noun → Kind
first_kind [] = sort.Int
first_kind (v ∷ vs) = kind v

-- the kind that has atoms or, where none has, that of the first result
abbrev pub common_kind : List Noun → Kind
common_kind vs = first_kind (filter has_atoms vs ++ vs)

-- whether all but one kind have no atoms
abbrev pub kinds_agree : List Noun → Bool
kinds_agree vs = list_all (λ v. same_kind (kind v) (common_kind vs)) (filter has_atoms vs)

-- a result where there is none
abbrev pub no_result : Noun
no_result = noun [] sort.Int []

-- the atom of a result at an index of the common shape, or the fill
abbrev pub atom_of_result : List Noun → Noun → List ℕ → Atom
atom_of_result vs v index = at_or (fill_of (common_kind vs)) (raised (greatest_rank vs) (shape v)) (atoms v) index

-- the atom at a place of the whole: c places for each result, and within these the index j
abbrev pub whole_atom : List Noun → ℕ → Atom
whole_atom vs place =
    let c = product (common_shape vs) in
    atom_of_result vs (get_or vs (place / c) no_result) (index_at (common_shape vs) (place % c))

abbrev pub whole : List ℕ → List Noun → Noun
whole frame vs =
    let axes = frame ++ common_shape vs in
    tabulated axes (common_kind vs) (whole_atom vs)

-- the results in one array, or why they are none: their kinds differ, or it is beyond the limits of an array
unfoldable pub assembled : List ℕ → List Noun → Result Noun Fault
assembled frame vs = if kinds_agree vs then limited (whole frame vs) else Err fault.Domain

-- as many results as the frame has cells or, where it has a 0, just the one of the cell of fills
abbrev pub AreResults : List ℕ → List Noun → Type 0
AreResults frame vs = length vs ≡ max (product frame) 1
