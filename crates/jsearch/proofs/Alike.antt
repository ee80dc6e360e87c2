-- The laws of the order of items: one grade, and equal items match.
use Rattle.std.specs.Prelude.{ℕ, ◌*◌, ◌≡◌, ◌↔◌, ℤ, pos, List, [], ◌∷◌, map, take, drop}
use Rattle.std.specs.declared.cmp.Ordering.TheVariants.{Equal}
use Rattle.std.specs.declared.cmp.Ordering.{Ordering}
use Rattle.std.specs.Cmp.{int_cmp_total, tied_itself}
use Rattle.std.specs.Cmp.Lexicographic.{slice_cmp, lists_total}
use Rattle.std.specs.FinMap.{int_cmp-IsAntisymmetric, slice_cmp-IsAntisymmetric}
use Rattle.std.specs.Ordering.{int_cmp}
use Rattle.std.proofs.Common.{sym, ◌∙◌, ap, refl, subst}
use Rattle.jdata.specs.Match.{IsMatch, plain, plain_atom}
use Rattle.jdata.specs.Noun.{noun, shape, kind, atoms, product}
use Rattle.jdata.specs.declared.noun.Atom.{Atom, out-Atom}
use Rattle.jdata.specs.declared.noun.Atom.TheVariants as atom
use Rattle.jdata.specs.declared.noun.Noun.{Noun}
use Rattle.jdata.proofs.Lists.{range-map}
use Rattle.jdata.proofs.Matching.{match_atoms, ints_back, chars_back}
use Rattle.jselect.specs.Items.{item_count, list_axes}
use Rattle.jsearch.specs.Finding.{item}
use Rattle.jsearch.specs.Grades.{IsGrade, in_order}
use Rattle.jsearch.specs.Laws.{EachHasOneGrade, EqualItemsMatch}
use Rattle.jsearch.specs.Order.{compared, number_of, numbers_in, rising, falling, lists_in}
use Rattle.jsearch.specs.declared.ordering.Direction.TheVariants.{Rising, Falling}
use Rattle.jsearch.proofs.KeyLists.{map-map}
use Rattle.jsearch.proofs.OneGrade.{IsStrict, one_grade, graded_is}
use Rattle.jsearch.proofs.OrderLaws.{by_keys_strict, lists_in_total}

one_grade_of : (order : ℕ → ℕ → Ordering) → IsStrict order → (n : ℕ) (places : List ℕ) → IsGrade order n places ↔ (places ≡ in_order order n)
one_grade_of order strict n places =
    let this = graded_is order strict.total n in
    (λ g. one_grade order strict n places (in_order order n) g this, λ e. subst (IsGrade order n) (sym e) this)

pub rising_has_one : EachHasOneGrade rising
rising_has_one y places = one_grade_of (rising y) (by_keys_strict (lists_in Rising) (λ p. numbers_in (item y p)) (lists_in_total Rising)) (item_count y) places

pub falling_has_one : EachHasOneGrade falling
falling_has_one y places = one_grade_of (falling y) (by_keys_strict (lists_in Falling) (λ p. numbers_in (item y p)) (lists_in_total Falling)) (item_count y) places

-- the numbers of a part of a list of atoms of one kind
pub numbers_of_part : {T : Type 0} (kind_of : T → Atom) (number : T → ℤ) → ((t : T) → number_of (out-Atom (kind_of t)) ≡ number t) → (l : List T) (n m : ℕ) →
    map (λ a. number_of (out-Atom a)) (take n (drop m (map kind_of l))) ≡ map number (take n (drop m l))
numbers_of_part kind_of number each l n m =
    ap (map (λ a. number_of (out-Atom a))) (sym (range-map kind_of m n l)) ∙ map-map (λ a. number_of (out-Atom a)) kind_of (take n (drop m l))
    ∙ (λ i. map (λ t. each t i) (take n (drop m l)))

pub int_number : (z : ℤ) → number_of (out-Atom (atom.Int z)) ≡ z
int_number z = ap number_of (atom.outs-Int z)

pub char_number : (c : ℕ) → number_of (out-Atom (atom.Char c)) ≡ pos c
char_number c = ap number_of (atom.outs-Char c)

-- items whose atoms are parts of one list
items_match : {T : Type 0} (kind_of : T → Atom) (number : T → ℤ) → ((t : T) → number_of (out-Atom (kind_of t)) ≡ number t) →
    ((k l : List T) → map number k ≡ map number l → k ≡ l) → ((k l : List T) → map plain_atom (map kind_of k) ≡ map plain_atom (map kind_of l) → k ≡ l) →
    (y : Noun) (l : List T) (p q : ℕ) → atoms y ≡ map kind_of l → (compared (item y p) (item y q) ≡ Equal) ↔ IsMatch (item y p) (item y q)
items_match {T} kind_of number each alike back y l p q e =
    let axes = drop 1 (list_axes (shape y)) in
    let n = product axes in
    let part : ℕ → List T = λ i. take n (drop (i * n) l) in
    let numbers : (i : ℕ) → numbers_in (item y i) ≡ map number (part i) = λ i. ap (λ a. map (λ b. number_of (out-Atom b)) (take n (drop (i * n) a))) e ∙ numbers_of_part kind_of number each l n (i * n) in
    let these : (i : ℕ) → atoms (item y i) ≡ map kind_of (part i) = λ i. ap (λ a. take n (drop (i * n) a)) e ∙ sym (range-map kind_of (i * n) n l) in (
      λ equal.
          let same : numbers_in (item y p) ≡ numbers_in (item y q) = slice_cmp-IsAntisymmetric int_cmp-IsAntisymmetric (numbers_in (item y p)) (numbers_in (item y q)) equal in
          let parts : part p ≡ part q = alike (part p) (part q) (sym (numbers p) ∙ same ∙ numbers q) in
          let whole : atoms (item y p) ≡ atoms (item y q) = these p ∙ ap (map kind_of) parts ∙ sym (these q) in
          ap (λ a. plain (noun axes (kind y) a)) whole,
      λ match.
          let parts : part p ≡ part q = back (part p) (part q) (ap (map plain_atom) (sym (these p)) ∙ match_atoms (item y p) (item y q) match ∙ ap (map plain_atom) (these q)) in
          let same : numbers_in (item y p) ≡ numbers_in (item y q) = numbers p ∙ ap (map number) parts ∙ sym (numbers q) in
          ap (λ k. slice_cmp int_cmp k (numbers_in (item y q))) same ∙ tied_itself (lists_total int_cmp_total) (numbers_in (item y q)),
    )

map-id : (l : List ℤ) → map (λ z. z) l ≡ l
map-id [] = refl
map-id (z ∷ l) = ap (λ r. z ∷ r) (map-id l)

chars_alike : (k l : List ℕ) → map pos k ≡ map pos l → k ≡ l
chars_alike [] [] e = refl
chars_alike [] (m ∷ l) e = cc
chars_alike (n ∷ k) [] e = cc
chars_alike (n ∷ k) (m ∷ l) e =
    let here : n ≡ m = cc in
    let rest : map pos k ≡ map pos l = cc in
    (λ i. here i ∷ chars_alike k l rest i)

pub integers_match : EqualItemsMatch atom.Int
integers_match = items_match atom.Int (λ z. z) int_number (λ k l e. sym (map-id k) ∙ e ∙ map-id l) ints_back

pub characters_match : EqualItemsMatch atom.Char
characters_match = items_match atom.Char pos char_number chars_alike chars_back
