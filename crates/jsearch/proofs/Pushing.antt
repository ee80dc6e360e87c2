-- Codes that are pushed one after another.
use Rattle.std.specs.Prelude.{ℕ, zero, suc, ◌+◌, ◌*◌, ◌<◌, ◌≤◌, ◌≡◌, max, ℤ, pos, List, [], ◌∷◌, ◌++◌, length, map, take, get_or}
use Rattle.std.proofs.Common.{arith, sym, ◌∙◌, ap, refl}
use Rattle.std.proofs.lemmas.List.{append_assoc, map-append, take_more, append-nil, length-map}
use Rattle.std.proofs.Math.Nat.{mul-le-mul_left, mul-le-mul_right}
use Rattle.jdata.proofs.Extents.{extent_some}
use Rattle.jdata.specs.Noun.{extent, noun}
use Rattle.jdata.specs.declared.noun.Kind.{Kind}
use Rattle.jdata.specs.declared.noun.Atom.{Atom, fold-roll-Atom}
use Rattle.jdata.specs.declared.noun.Noun.{Noun}
use Rattle.jdata.specs.declared.noun.Atom.TheOpen as one
use Rattle.jdata.specs.declared.noun.Atom.TheVariants as atom
use Rattle.jdata.specs.declared.path.PyxId.{PyxId}
use Rattle.jsearch.specs.Codes.{code, atom_code, code_step, atom_code_step, counted_code, head_code, joined}
use Rattle.jsearch.proofs.Coding.{code_is}

pub code_of_int : (n : ℤ) → atom_code (atom.Int n) ≡ pos 0 ∷ n ∷ []
code_of_int n = ap atom_code (sym (atom.rolls-Int n)) ∙ fold-roll-Atom (List ℤ) (List ℤ) atom_code_step code_step (one.Int n)

pub code_of_char : (n : ℕ) → atom_code (atom.Char n) ≡ pos 1 ∷ pos n ∷ []
code_of_char n = ap atom_code (sym (atom.rolls-Char n)) ∙ fold-roll-Atom (List ℤ) (List ℤ) atom_code_step code_step (one.Char n)

pub code_of_box : (v : Noun) → atom_code (atom.Box v) ≡ pos 2 ∷ code v
code_of_box v = ap atom_code (sym (atom.rolls-Box v)) ∙ fold-roll-Atom (List ℤ) (List ℤ) atom_code_step code_step (one.Box v)

pub code_of_pyx : (p : PyxId) → atom_code (atom.Pyx p) ≡ pos 3 ∷ pos p.number ∷ counted_code p.path
code_of_pyx p = ap atom_code (sym (atom.rolls-Pyx p)) ∙ fold-roll-Atom (List ℤ) (List ℤ) atom_code_step code_step (one.Pyx p)

joined-append : (l m : List (List ℤ)) → joined (l ++ m) ≡ joined l ++ joined m
joined-append [] m = refl
joined-append (x ∷ l) m = ap (λ r. x ++ r) (joined-append l m) ∙ sym (append_assoc x (joined l) (joined m))

-- the code of the next thing behind those of the things before
joined_more : {A : Type 0} (f : A → Atom) (l : List A) (i : ℕ) (d : A) → i < length l →
    joined (map atom_code (map f (take (i + 1) l))) ≡ joined (map atom_code (map f (take i l))) ++ atom_code (f (get_or l i d))
joined_more f l i d h =
    ap (λ k. joined (map atom_code (map f k))) (take_more l i d h)
    ∙ ap (λ k. joined (map atom_code k)) (map-append f (take i l) (get_or l i d ∷ []))
    ∙ ap joined (map-append atom_code (map f (take i l)) (f (get_or l i d) ∷ []))
    ∙ joined-append (map atom_code (map f (take i l))) (atom_code (f (get_or l i d)) ∷ [])
    ∙ ap (λ r. joined (map atom_code (map f (take i l))) ++ r) (append-nil (atom_code (f (get_or l i d))))

pub pushed_code : {A : Type 0} (f : A → Atom) (l : List A) (i : ℕ) (d : A) (before now longer : List ℤ) → i < length l →
    now ≡ before ++ joined (map atom_code (map f (take i l))) → longer ≡ now ++ atom_code (f (get_or l i d)) → longer ≡ before ++ joined (map atom_code (map f (take (i + 1) l)))
pushed_code f l i d before now longer h was more =
    more ∙ ap (λ r. r ++ atom_code (f (get_or l i d))) was ∙ append_assoc before (joined (map atom_code (map f (take i l)))) (atom_code (f (get_or l i d)))
    ∙ ap (λ r. before ++ r) (sym (joined_more f l i d h))

-- the head and the atoms are the whole code
pub whole_code : (axes : List ℕ) (k : Kind) (l : List Atom) (kn : Kind) (n : ℕ) (before head done : List ℤ) (m : List Atom) → kn ≡ k → n ≡ length l → m ≡ l →
    head ≡ before ++ head_code axes kn n → done ≡ head ++ joined (map atom_code m) → done ≡ before ++ code (noun axes k l)
whole_code axes k l kn n before head done m same_kind many same front e =
    e ∙ (λ i. front i ++ joined (map atom_code (same i)))
    ∙ (λ i. (before ++ head_code axes (same_kind i) ((many ∙ sym (length-map l atom_code)) i)) ++ joined (map atom_code l))
    ∙ append_assoc before (head_code axes k (length (map atom_code l))) (joined (map atom_code l))
    ∙ ap (λ r. before ++ r) (sym (code_is (noun axes k l)))

pub boxed_code : (v : Noun) (before with_tag done : List ℤ) → with_tag ≡ before ++ pos 2 ∷ [] → done ≡ with_tag ++ code v → done ≡ before ++ atom_code (atom.Box v)
boxed_code v before with_tag done tag e =
    e ∙ ap (λ r. r ++ code v) tag ∙ append_assoc before (pos 2 ∷ []) (code v) ∙ ap (λ r. before ++ r) (sym (code_of_box v))

pub take_all : {A : Type 0} (l : List A) (n : ℕ) → length l ≤ n → take n l ≡ l
take_all [] zero h = refl
take_all [] (suc n) h = refl
take_all (x ∷ l) zero h = absurd (omega arith)
take_all (x ∷ l) (suc n) h = ap (λ r. x ∷ r) (take_all l n (omega arith))

-- the next of what is made of each thing
pub mapped_more : {A B : Type 0} (f : A → B) (l : List A) (i : ℕ) (x : A) (n : B) (now longer : List B) → i < length l → x ≡ get_or l i x → n ≡ f x →
    longer ≡ now ++ n ∷ [] → now ≡ map f (take i l) → longer ≡ map f (take (i + 1) l)
mapped_more f l i x n now longer h at is e was =
    e ∙ (λ k. was k ++ is k ∷ []) ∙ sym (map-append f (take i l) (x ∷ [])) ∙ ap (λ y. map f (take i l ++ y ∷ [])) at ∙ ap (map f) (sym (take_more l i x h))

-- an axis is within the limits of a shape
pub axis_within : (axes : List ℕ) (i : ℕ) (m : ℕ) → extent axes ≤ m → i < length axes → get_or axes i 0 ≤ m
axis_within [] i m h k = absurd (omega arith)
axis_within (n ∷ axes) zero m h k = let some = extent_some axes in let large : max n 1 * 1 ≤ max n 1 * extent axes = mul-le-mul_left (max n 1) some in omega (arith, large)
axis_within (n ∷ axes) (suc i) m h k =
    let small : 1 * extent axes ≤ max n 1 * extent axes = mul-le-mul_right (extent axes) (omega arith) in
    axis_within axes i m (omega (arith, small)) (omega arith)
