-- Contents of boxes, by what the code keeps of them.
use Rattle.std.specs.Prelude.{◌≡◌, ◌↔◌, ◌||◌, Bool, true, false, if◌then◌else◌, IsTrue, List, [], ◌∷◌, map}
use Rattle.std.proofs.Common.{refl, sym, ap, ◌∙◌}
use Rattle.std.specs.List.{list_any}
use Rattle.std.proofs.lemmas.Bool.Decides.{same_from_decides, Decides-like}
use Rattle.jarray.specs.Matches.{is_box, matches}
use Rattle.jarray.proofs.Equality.{matches_decides}
use Rattle.jdata.specs.Match.{IsMatch}
use Rattle.jdata.specs.Noun.{atoms}
use Rattle.jdata.specs.Trees.{atom_of}
use Rattle.jdata.specs.declared.noun.Noun.{Noun}
use Rattle.jdata.specs.declared.noun.Atom.{out-Atom}
use Rattle.jdata.specs.declared.noun.Atom.TheVariants as atom
use Rattle.jdata.specs.declared.path.PyxId.{PyxId}
use Rattle.jdata.specs.declared.tree.Cell.{Cell}
use Rattle.jkept.specs.Taken.{has_content, holds_content, is_boxed, is_taken}
use Rattle.jkept.proofs.Atoms.{box_in, pyx_in}

-- ---- match

-- a test that tells whether two arrays match is the test of a match
pub same_test : (b : Bool) (v w : Noun) → (IsTrue b ↔ IsMatch v w) → b ≡ matches v w
same_test b v w h = same_from_decides b (matches v w) (h.0, h.1) (matches_decides v w)

other_way : (v w : Noun) → matches v w ≡ matches w v
other_way v w = same_from_decides (matches v w) (matches w v) (Decides-like _ (λ h. sym h) (λ h. sym h) (matches_decides v w)) (matches_decides w v)

-- ---- a cell

pub box_passes : (test : Noun → Bool) (v : Noun) → is_box test (out-Atom (atom.Box v)) ≡ test v
box_passes test v = ap (is_box test) (box_in v)

pub pyx_fails : (test : Noun → Bool) (p : PyxId) → is_box test (out-Atom (atom.Pyx p)) ≡ false
pyx_fails test p = ap (is_box test) (pyx_in p)

-- ---- the cells of an array

abbrev pub some_cell : (Noun → Bool) → List Cell → Bool
some_cell test l = list_any (λ c. is_box test (out-Atom (atom_of c))) l

of_cells : (test : Noun → Bool) (l : List Cell) → has_content test (map atom_of l) ≡ some_cell test l
of_cells test [] = refl
of_cells test (c ∷ l) = ap (λ b. is_box test (out-Atom (atom_of c)) || b) (of_cells test l)

boxed : (test : Noun → Bool) (v : Noun) (l : List Cell) → is_boxed v ≡ true → map atom_of l ≡ atoms v → holds_content test v ≡ some_cell test l
boxed test v l k e = ap (λ b. if b then has_content test (atoms v) else test v) k ∙ ap (has_content test) (sym e) ∙ of_cells test l

alone : (test : Noun → Bool) (v : Noun) → is_boxed v ≡ false → holds_content test v ≡ test v
alone test v k = ap (λ b. if b then has_content test (atoms v) else test v) k

-- ---- a case

module _ (s v : Noun) where
  pub boxes_and_boxes : (l m : List Cell) → is_boxed s ≡ true → is_boxed v ≡ true → map atom_of l ≡ atoms s → map atom_of m ≡ atoms v →
      some_cell (λ content. some_cell (matches content) m) l ≡ is_taken s v
  unfolding is_taken
  boxes_and_boxes l m ks kv es ev =
      sym (boxed (λ content. holds_content (matches content) v) s l ks es
      ∙ (λ i. some_cell (λ content. boxed (matches content) v m kv ev i) l))

  pub boxes_and_one : (l : List Cell) → is_boxed s ≡ true → is_boxed v ≡ false → map atom_of l ≡ atoms s →
      some_cell (matches v) l ≡ is_taken s v
  unfolding is_taken
  boxes_and_one l ks kv es =
      sym (boxed (λ content. holds_content (matches content) v) s l ks es
      ∙ (λ i. some_cell (λ content. (alone (matches content) v kv ∙ other_way content v) i) l))

  pub one_and_boxes : (m : List Cell) → is_boxed s ≡ false → is_boxed v ≡ true → map atom_of m ≡ atoms v →
      some_cell (matches s) m ≡ is_taken s v
  unfolding is_taken
  one_and_boxes m ks kv ev =
      sym (alone (λ content. holds_content (matches content) v) s ks ∙ boxed (matches s) v m kv ev)

  pub one_and_one : is_boxed s ≡ false → is_boxed v ≡ false → matches s v ≡ is_taken s v
  unfolding is_taken
  one_and_one ks kv = sym (alone (λ content. holds_content (matches content) v) s ks ∙ alone (matches s) v kv)
