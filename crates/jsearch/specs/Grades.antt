-- Grade Up, Grade Down and Sort (NuVoc "/:" and "\:"): the places of the items in order.
use Rattle.std.specs.Prelude.{ℕ, zero, suc, ◌≡◌, ◌≤◌, ℤ, pos, drop, IfOk, if◌then◌else◌, List, [], ◌∷◌, length, map, Result, Ok, Err}
use Rattle.std.specs.List.{range_with_len}
use Rattle.std.specs.List.Sorted.{IsPermutation, IsSorted}
use Rattle.std.specs.Ordering.{is_lt}
use Rattle.std.specs.declared.cmp.Ordering.{Ordering}
use Rattle.jdata.specs.Answers.{Answers}
use Rattle.jdata.specs.Firsts.{and_then}
use Rattle.jdata.specs.Limits.{most_atoms}
use Rattle.jdata.specs.Noun.{shape, product}
use Rattle.jdata.specs.declared.fault.Fault.{Fault}
use Rattle.jdata.specs.declared.fault.Fault.TheVariants as fault
use Rattle.jdata.specs.declared.fault.Trouble.{Trouble}
use Rattle.jdata.specs.declared.noun.Noun.{Noun}
use Rattle.jselect.specs.Items.{item_count, list_axes}
use Rattle.jselect.specs.Listing.{items_named}
use Rattle.jsearch.specs.Order.{has_order, rising, falling}
use Rattle.jsearch.specs.Steps.{place_list}

-- all places below n, each once, in this order. A law says that there is exactly one such list
pub record IsGrade (order : ℕ → ℕ → Ordering) (n : ℕ) (places : List ℕ) : Type 0 where
  pub all : IsPermutation (range_with_len 0 n) places
  pub in_order : IsSorted order places

-- a place put in front of the first that comes after it
abbrev pub placed : (ℕ → ℕ → Ordering) → ℕ → List ℕ → List ℕ
placed order p [] = p ∷ []
placed order p (q ∷ places) = if is_lt (order p q) then p ∷ q ∷ places else q ∷ placed order p places

-- that list, put together from one place after the other
unfoldable pub in_order : (ℕ → ℕ → Ordering) → ℕ → List ℕ
in_order order zero = []
in_order order (suc n) = placed order n (in_order order n)

-- the places of the items of y in order
abbrev pub graded : (Noun → ℕ → ℕ → Ordering) → Noun → Result (List ℕ) Fault
graded order y = if has_order y then Ok (in_order (order y) (item_count y)) else Err fault.Nonce

abbrev pub grade : (Noun → ℕ → ℕ → Ordering) → Noun → Result Noun Fault
grade order y = and_then (graded order y) (λ places. Ok (place_list places))

abbrev pub grade_up : Noun → Result Noun Fault
grade_up = grade rising

abbrev pub grade_down : Noun → Result Noun Fault
grade_down = grade falling

-- the items of x at these places
abbrev pub items_in : Noun → List ℕ → Result Noun Fault
items_in x places = items_named (length places ∷ []) (map pos places) x

-- the items of x in the order of those of y
abbrev pub sorted : (Noun → ℕ → ℕ → Ordering) → Noun → Noun → Result Noun Fault
sorted order x y = and_then (graded order y) (items_in x)

abbrev pub sorted_up : Noun → Noun → Result Noun Fault
sorted_up = sorted rising

abbrev pub sorted_down : Noun → Noun → Result Noun Fault
sorted_down = sorted falling

-- the places as integers
abbrev pub numbers_graded : (Noun → ℕ → ℕ → Ordering) → Noun → Result (List ℤ) Fault
numbers_graded order y = and_then (graded order y) (λ places. Ok (map pos places))

-- an array has so many items of so many atoms
pub record HasItems (y : Noun) (size count : ℕ) : Type 0 where
  pub size_is : size ≡ product (drop 1 (list_axes (shape y)))
  pub count_is : count ≡ item_count y

-- they are the answer, and an array has no more of them
pub record GradedAs (order : Noun → ℕ → ℕ → Ordering) (y : Noun) (result : Result (List ℤ) Trouble) : Type 0 where
  pub places : Answers (numbers_graded order y) result
  pub few : IfOk result (λ l. length l ≤ most_atoms)
