-- The test of a match tells whether two arrays match.
use Rattle.std.specs.Prelude.{ℕ, ℤ, Bool, false, ◌≡◌, ◌&&◌, List, [], ◌∷◌, map}
use Rattle.std.proofs.Common.{sym, ◌∙◌, ap, refl, subst, true≢false}
use Rattle.std.specs.Str.{bytes_eq}
use Rattle.std.specs.Bool.{Decides}
use Rattle.std.proofs.lemmas.Bool.Decides.{Decides-eqb, Decides-int_eq, Decides-and, Decides-like, Decides-at}
use Rattle.std.proofs.lemmas.Slice.Eq.{bytes_eq-Decides}
use Rattle.jdata.specs.Kinds.{kinds_match, same_kind}
use Rattle.jdata.specs.Noun.{noun, shape, kind, atoms}
use Rattle.jdata.specs.Match.{IsMatch, plain, plain_atom, plain_kind}
use Rattle.jdata.specs.declared.noun.Kind.{Kind}
use Rattle.jdata.specs.declared.noun.Kind.TheVariants as sort
use Rattle.jdata.specs.declared.noun.Noun.{Noun, Noun-F, roll-Noun, ind-Noun, fold-roll-Noun}
use Rattle.jdata.specs.declared.noun.Atom.{Atom, Atom-F, map-Atom, roll-Atom, out-Atom, roll-out-Atom, ind-Atom, fold-roll-Atom}
use Rattle.jdata.specs.declared.noun.Atom.TheOpen as one
use Rattle.jdata.specs.declared.noun.Atom.TheVariants as atom
use Rattle.jdata.specs.declared.path.PyxId.{PyxId}
use Rattle.jdata.proofs.Matching.{plain_is, plain_int, plain_char, plain_box, plain_pyx, match_shape, match_atoms, same_box}
use Rattle.jarray.specs.Matches.{matches, equal_atoms, atom_step, noun_step, each_passes, is_int, is_char, is_box, is_pyx}

abbrev pub Equal : Atom → Type 0
Equal a = (b : Atom) → Decides (equal_atoms a b) (plain_atom a ≡ plain_atom b)

abbrev pub Matching : Noun → Type 0
Matching v = (w : Noun) → Decides (matches v w) (IsMatch v w)

-- an atom without the kinds that don't count, one layer of it
abbrev plainly : Atom-F Atom Noun → Atom
plainly (one.Int n) = atom.Int n
plainly (one.Char n) = atom.Char n
plainly (one.Box v) = atom.Box (plain v)
plainly (one.Pyx p) = atom.Pyx p

plain_layer : (a : Atom-F Atom Noun) → plain_atom (roll-Atom a) ≡ plainly a
plain_layer (one.Int n) = ap plain_atom (atom.rolls-Int n) ∙ plain_int n
plain_layer (one.Char n) = ap plain_atom (atom.rolls-Char n) ∙ plain_char n
plain_layer (one.Box v) = ap plain_atom (atom.rolls-Box v) ∙ plain_box v
plain_layer (one.Pyx p) = ap plain_atom (atom.rolls-Pyx p) ∙ plain_pyx p

never : {P : Type 0} → (P → ⊥) → Decides false P
never none = (λ h. absurd (true≢false (sym h)), λ p. absurd (none p))

int_decides : (n : ℤ) (b : Atom-F Atom Noun) → Decides (is_int n b) (atom.Int n ≡ plainly b)
int_decides n (one.Int m) = Decides-like _ (λ e. ap atom.Int e) (λ e. cc) (Decides-int_eq n m)
int_decides n (one.Char m) = never (λ e. cc)
int_decides n (one.Box v) = never (λ e. cc)
int_decides n (one.Pyx p) = never (λ e. cc)

char_decides : (n : ℕ) (b : Atom-F Atom Noun) → Decides (is_char n b) (atom.Char n ≡ plainly b)
char_decides n (one.Char m) = Decides-like _ (λ e. ap atom.Char e) (λ e. cc) (Decides-eqb n m)
char_decides n (one.Int m) = never (λ e. cc)
char_decides n (one.Box v) = never (λ e. cc)
char_decides n (one.Pyx p) = never (λ e. cc)

box_decides : (v : Noun) → Matching v → (b : Atom-F Atom Noun) → Decides (is_box (matches v) b) (atom.Box (plain v) ≡ plainly b)
box_decides v h (one.Box w) = Decides-like _ (λ e. ap (λ x. atom.Box x) e) (λ e. same_box _ _ e) (h w)
box_decides v h (one.Int m) = never (λ e. cc)
box_decides v h (one.Char m) = never (λ e. cc)
box_decides v h (one.Pyx p) = never (λ e. cc)

pyx_decides : (p : PyxId) (b : Atom-F Atom Noun) → Decides (is_pyx p b) (atom.Pyx p ≡ plainly b)
pyx_decides p (one.Pyx q) =
    let one_name : (p.path ≡ q.path) × (p.number ≡ q.number) → p ≡ q = λ h i. record { path = h.0 i; number = h.1 i } in
    Decides-like _
    (λ h. ap atom.Pyx (one_name h))
    (λ e. let same : p ≡ q = cc in (ap (λ x. x.path) same, ap (λ x. x.number) same))
    (Decides-and _ _ (bytes_eq-Decides p.path q.path) (Decides-eqb p.number q.number))
pyx_decides p (one.Int m) = never (λ e. cc)
pyx_decides p (one.Char m) = never (λ e. cc)
pyx_decides p (one.Box v) = never (λ e. cc)

abbrev Held : Type 0
Held = (a : Atom) × Equal a

abbrev Known : Type 0
Known = (v : Noun) × Matching v

abbrev layer_of : Atom-F Held Known → Atom-F Atom Noun
layer_of = map-Atom Held Known Atom Noun (λ e. e.0) (λ e. e.0)

layer_decides : (y : Atom-F Held Known) (b : Atom) → Decides (atom_step (map-Atom Atom Noun (Atom → Bool) (Noun → Bool) equal_atoms matches (layer_of y)) b) (plainly (layer_of y) ≡ plainly (out-Atom b))
layer_decides (one.Int n) b = int_decides n (out-Atom b)
layer_decides (one.Char n) b = char_decides n (out-Atom b)
layer_decides (one.Box v) b = box_decides v.0 v.1 (out-Atom b)
layer_decides (one.Pyx p) b = pyx_decides p (out-Atom b)

plain_out : (b : Atom) → plain_atom b ≡ plainly (out-Atom b)
plain_out b = ap plain_atom (sym (roll-out-Atom b)) ∙ plain_layer (out-Atom b)

equal_layer : (y : Atom-F Held Known) → Equal (roll-Atom (layer_of y))
equal_layer y b =
    let a = layer_of y in
    let test : equal_atoms (roll-Atom a) b ≡ atom_step (map-Atom Atom Noun (Atom → Bool) (Noun → Bool) equal_atoms matches a) b = ap (λ (f : Atom → Bool). f b) (fold-roll-Atom (Atom → Bool) (Noun → Bool) atom_step noun_step a) in
    Decides-at _ _ test (Decides-like _ (λ e. plain_layer a ∙ e ∙ sym (plain_out b)) (λ e. sym (plain_layer a) ∙ e ∙ plain_out b) (layer_decides y b))

-- the atoms of a list and of its tests
abbrev firsts : List Held → List Atom
firsts = map (λ (e : Held). e.0)

each_decides : (l : List Held) (m : List Atom) → Decides (each_passes (map equal_atoms (firsts l)) m) (map plain_atom (firsts l) ≡ map plain_atom m)
each_decides [] [] = (λ _. refl, λ _. refl)
each_decides [] (b ∷ m) = never (λ e. cc)
each_decides (a ∷ l) [] = never (λ e. cc)
each_decides (a ∷ l) (b ∷ m) = Decides-like _
    (λ h i. h.0 i ∷ h.1 i)
    (λ e. let head : plain_atom a.0 ≡ plain_atom b = cc in let tail : map plain_atom (firsts l) ≡ map plain_atom m = cc in (head, tail))
    (Decides-and _ _ (a.1 b) (each_decides l m))

kind_decides : (k m : Kind) → Decides (same_kind k m) (k ≡ m)
kind_decides sort.Int sort.Int = (λ _. refl, λ _. refl)
kind_decides sort.Int sort.Char = never (λ e. cc)
kind_decides sort.Int sort.Boxed = never (λ e. cc)
kind_decides sort.Char sort.Int = never (λ e. cc)
kind_decides sort.Char sort.Char = (λ _. refl, λ _. refl)
kind_decides sort.Char sort.Boxed = never (λ e. cc)
kind_decides sort.Boxed sort.Int = never (λ e. cc)
kind_decides sort.Boxed sort.Char = never (λ e. cc)
kind_decides sort.Boxed sort.Boxed = (λ _. refl, λ _. refl)

kinds_decide : (k m : Kind) (l : List Atom) → Decides (kinds_match k m l) (plain_kind k (map plain_atom l) ≡ plain_kind m (map plain_atom l))
kinds_decide k m [] = (λ _. refl, λ _. refl)
kinds_decide k m (a ∷ l) = kind_decides k m

abbrev kept : Noun-F Held Known → Noun
kept y = noun y.shape y.kind (firsts y.atoms)

matching_layer : (y : Noun-F Held Known) → Matching (kept y)
matching_layer y w =
    let v = kept y in
    let test : matches v w ≡ (bytes_eq y.shape (shape w) && (kinds_match y.kind (kind w) (atoms w) && each_passes (map equal_atoms (firsts y.atoms)) (atoms w))) =
    ap (λ (f : Noun → Bool). f w) (fold-roll-Noun (Atom → Bool) (Noun → Bool) atom_step noun_step (record { shape = y.shape; kind = y.kind; atoms = firsts y.atoms })) in
    let parts = Decides-and _ _ (bytes_eq-Decides y.shape (shape w)) (Decides-and _ _ (kinds_decide y.kind (kind w) (atoms w)) (each_decides y.atoms (atoms w))) in
    Decides-at _ _ test (Decides-like _
    (λ h. plain_is v ∙ (λ i. noun (h.0 i) (plain_kind y.kind (h.1.1 i)) (h.1.1 i)) ∙ ap (λ k. noun (shape w) k (map plain_atom (atoms w))) h.1.0 ∙ sym (plain_is w))
    (λ e. let m = match_atoms v w e in (match_shape v w e, (ap (plain_kind y.kind) (sym m) ∙ ap kind (sym (plain_is v) ∙ e ∙ plain_is w), m)))
    parts)

pub matches_decides : (v w : Noun) → Decides (matches v w) (IsMatch v w)
matches_decides = ind-Noun Equal Matching
    (λ x y is. subst (λ z. Equal (roll-Atom z)) is (equal_layer y))
    (λ x y is. subst (λ z. Matching (roll-Noun z)) is (matching_layer y))

pub equal_decides : (a b : Atom) → Decides (equal_atoms a b) (plain_atom a ≡ plain_atom b)
equal_decides = ind-Atom Equal Matching
    (λ x y is. subst (λ z. Equal (roll-Atom z)) is (equal_layer y))
    (λ x y is. subst (λ z. Matching (roll-Noun z)) is (matching_layer y))
