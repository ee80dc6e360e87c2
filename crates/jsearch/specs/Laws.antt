-- What holds of the order of items (NuVoc "/:"): each array has one grade, and items are equal in the order where they match;
-- and of the nub (NuVoc "~."): it has each item once, where it comes first.
use Rattle.std.specs.Prelude.{ℕ, ◌≡◌, ◌<◌, ◌≤◌, ◌↔◌, true, List, map}
use Rattle.std.specs.declared.cmp.Ordering.{Ordering}
use Rattle.std.specs.declared.cmp.Ordering.TheVariants.{Equal}
use Rattle.jdata.specs.Match.{IsMatch}
use Rattle.jdata.specs.Noun.{atoms}
use Rattle.jdata.specs.declared.noun.Atom.{Atom}
use Rattle.jdata.specs.declared.noun.Noun.{Noun}
use Rattle.jselect.specs.Items.{item_count}
use Rattle.jsearch.specs.Finding.{is_new, item}
use Rattle.jsearch.specs.Grades.{IsGrade, in_order}
use Rattle.jsearch.specs.Order.{compared}

-- of all lists of places just one has each place once and in order
abbrev pub EachHasOneGrade : (Noun → ℕ → ℕ → Ordering) → Type 0
EachHasOneGrade order = (y : Noun) (places : List ℕ) → IsGrade (order y) (item_count y) places ↔ (places ≡ in_order (order y) (item_count y))

-- of an array of one kind of atoms
abbrev pub EqualItemsMatch : {A : Type 0} → (A → Atom) → Type 0
EqualItemsMatch {A} kind_of = (y : Noun) (l : List A) (p q : ℕ) → atoms y ≡ map kind_of l → (compared (item y p) (item y q) ≡ Equal) ↔ IsMatch (item y p) (item y q)

-- each item matches one that the nub keeps, which isn't behind it
abbrev pub EachIsKept : Type 0
EachIsKept = (y : Noun) (i : ℕ) → i < item_count y → (j : ℕ) × (j ≤ i) × (is_new y j ≡ true) × IsMatch (item y i) (item y j)

-- and no two that it keeps match
abbrev pub KeptAreDifferent : Type 0
KeptAreDifferent = (y : Noun) (i j : ℕ) → i < item_count y → j < item_count y → is_new y i ≡ true → is_new y j ≡ true → IsMatch (item y i) (item y j) → i ≡ j
