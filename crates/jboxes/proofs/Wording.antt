-- The words of a text, in boxes.
use Rattle.std.specs.Prelude.{ℕ, zero, suc, ◌+◌, ◌-◌, ◌*◌, ◌<◌, ◌≤◌, ◌≡◌, Bool, true, false, if◌then◌else◌, List, [], ◌∷◌, ◌++◌, length, map, take, drop, get_or, Result, Ok, Err}
use Rattle.std.proofs.Common.{arith, sym, ◌∙◌, ap, refl, subst}
use Rattle.std.proofs.lemmas.List.{length-map, length-take, length-drop}
use Rattle.jdata.specs.Kinds.{is_of_kind, kinds_match}
use Rattle.jdata.specs.Limits.{limited, most_atoms, IsArray, IsShape}
use Rattle.jdata.specs.Noun.{noun, kind, atoms, product}
use Rattle.jdata.specs.Trees.{atom_of}
use Rattle.jdata.specs.declared.fault.Fault.TheVariants as fault
use Rattle.jdata.specs.declared.noun.Noun.{Noun}
use Rattle.jdata.specs.declared.noun.Kind.{Kind}
use Rattle.jdata.specs.declared.noun.Kind.TheVariants as sort
use Rattle.jdata.specs.declared.noun.Atom.{Atom, out-Atom}
use Rattle.jdata.specs.declared.noun.Atom.TheVariants as atom
use Rattle.jdata.specs.declared.tree.Cell.{Cell}
use Rattle.jdata.proofs.Levels.{level_is, level_of_chars}
use Rattle.jwords.specs.Formed.{spans_of}
use Rattle.jwords.specs.declared.word.Word.{Word}
use Rattle.jboxes.specs.Worded.{worded, words_boxed, bytes_in, byte_of, boxed_texts, word_text, text_list}

chosen : {A : Type 0} (b : Bool) (x y : A) → b ≡ true → (if b then x else y) ≡ x
chosen true x y e = refl
chosen false x y e = cc

otherwise : {A : Type 0} (b : Bool) (x y : A) → b ≡ false → (if b then x else y) ≡ y
otherwise true x y e = cc
otherwise false x y e = refl

bytes_back : (l : List ℕ) → map (λ a. byte_of (out-Atom a)) (map atom.Char l) ≡ l
bytes_back [] = refl
bytes_back (c ∷ l) = λ i. ap byte_of (atom.outs-Char c) i ∷ bytes_back l i

pub worded_text : (y : Noun) (l : List ℕ) → atoms y ≡ map atom.Char l → is_of_kind sort.Char y ≡ true → words_boxed l (spans_of l) ≡ worded y
unfolding worded
worded_text y l e text =
    sym (chosen (is_of_kind sort.Char y) (words_boxed (bytes_in y) (spans_of (bytes_in y))) (Err fault.Domain) text
    ∙ (λ i. words_boxed ((ap (map (λ a. byte_of (out-Atom a))) e ∙ bytes_back l) i) (spans_of ((ap (map (λ a. byte_of (out-Atom a))) e ∙ bytes_back l) i))))

pub not_text : (y : Noun) → is_of_kind sort.Char y ≡ false → worded y ≡ Err fault.Domain
unfolding worded
not_text y e = otherwise (is_of_kind sort.Char y) (words_boxed (bytes_in y) (spans_of (bytes_in y))) (Err fault.Domain) e

chars_match : (l : List Atom) → kinds_match sort.Char sort.Char l ≡ true
chars_match [] = refl
chars_match (a ∷ l) = refl

pub is_text : (y : Noun) → kind y ≡ sort.Char → is_of_kind sort.Char y ≡ true
is_text y e = ap (λ k. kinds_match k sort.Char (atoms y)) e ∙ chars_match (atoms y)

none_match : (k m : Kind) (l : List Atom) → length l ≡ 0 → kinds_match k m l ≡ true
none_match k m [] e = refl
none_match k m (a ∷ l) e = absurd (omega arith)

none_are : (l : List Atom) → length l ≡ 0 → l ≡ map atom.Char []
none_are [] e = refl
none_are (a ∷ l) e = absurd (omega arith)

pub worded_nothing : (y : Noun) → length (atoms y) ≡ 0 → words_boxed [] (spans_of []) ≡ worded y
worded_nothing y e = worded_text y [] (none_are (atoms y) e) (none_match (kind y) sort.Char (atoms y) e)

ints_differ : (l : List Atom) → 0 < length l → kinds_match sort.Int sort.Char l ≡ false
ints_differ [] e = absurd (omega arith)
ints_differ (a ∷ l) e = refl

pub integers_are_no_text : (y : Noun) → kind y ≡ sort.Int → 0 < length (atoms y) → is_of_kind sort.Char y ≡ false
integers_are_no_text y e some = ap (λ k. kinds_match k sort.Char (atoms y)) e ∙ ints_differ (atoms y) some

boxes_differ : (l : List Atom) → 0 < length l → kinds_match sort.Boxed sort.Char l ≡ false
boxes_differ [] e = absurd (omega arith)
boxes_differ (a ∷ l) e = refl

pub boxes_are_no_text : (y : Noun) → kind y ≡ sort.Boxed → 0 < length (atoms y) → is_of_kind sort.Char y ≡ false
boxes_are_no_text y e some = ap (λ k. kinds_match k sort.Char (atoms y)) e ∙ boxes_differ (atoms y) some

pub word_short : (text : List ℕ) (w : Word) → length (word_text text w) ≤ length text
word_short text w = omega (arith, length-take (w.end - w.start) (drop w.start text), length-drop w.start text)

map-map : {A B C : Type 0} (f : B → C) (h : A → B) (l : List A) → map f (map h l) ≡ map (λ x. f (h x)) l
map-map f h [] = refl
map-map f h (x ∷ l) = ap (λ r. f (h x) ∷ r) (map-map f h l)

-- boxes of words as an array
pub texts_made : (text : List ℕ) (words : List Word) (cells : List Cell) (axes : List ℕ) → map atom_of cells ≡ map (λ w. atom.Box (text_list (word_text text w))) words → axes ≡ length cells ∷ [] →
    boxed_texts (map (word_text text) words) ≡ noun axes sort.Boxed (map atom_of cells)
texts_made text words cells axes e same =
    let many : length (map (word_text text) words) ≡ length cells = length-map words (word_text text) ∙ sym (length-map words (λ w. atom.Box (text_list (word_text text w)))) ∙ ap length (sym e) ∙ length-map cells atom_of in
    (λ i. noun ((ap (λ n. n ∷ []) many ∙ sym same) i) sort.Boxed ((map-map (λ t. atom.Box (text_list t)) (word_text text) words ∙ sym e) i))

pub texts_whole : (cells : List Cell) (axes : List ℕ) → axes ≡ length cells ∷ [] → length (map atom_of cells) ≡ product axes
texts_whole cells axes same = let one : length cells ≡ length cells * 1 = omega arith in length-map cells atom_of ∙ one ∙ ap product (sym same)

pub taken_all : {A : Type 0} (l : List A) (n : ℕ) → length l ≤ n → take n l ≡ l
taken_all [] zero h = refl
taken_all [] (suc n) h = refl
taken_all (x ∷ l) zero h = absurd (omega arith)
taken_all (x ∷ l) (suc n) h = ap (λ r. x ∷ r) (taken_all l n (omega arith))

-- a text is an array
pub text_is_array : (axes bytes : List ℕ) → axes ≡ length bytes ∷ [] → length bytes ≤ most_atoms → IsArray (noun axes sort.Char (map atom.Char bytes))
text_is_array axes bytes same few =
    let one : length bytes ≡ length bytes * 1 = omega arith in
    let level_is_none = level_is (noun axes sort.Char (map atom.Char bytes)) ∙ level_of_chars bytes in
    record {
      whole = length-map bytes atom.Char ∙ one ∙ ap product (sym same);
      within = subst IsShape (sym same) (record { rank = omega arith; extent_at_most = omega arith });
      level_at_most = omega (arith, level_is_none);
    }
