-- Lemmas on what the rest of a line begins with: names and inflected words.
use Rattle.std.proofs.Common.{◌≡◌, ℕ, ◌+◌, ◌-◌, ◌<◌, ◌≤◌, Bool, true, false, cond, eqb, nat_eq, List, [], ◌∷◌, length, take, drop, refl, sym, ap, ◌∙◌, subst, rules, arith, Ok, Err, Result}
use Rattle.std.specs.Prelude.{codes, IfOk, MatchBool}
use Rattle.std.specs.List.{prefix_len}
use Rattle.std.specs.Str.{bytes_eq}
use Rattle.std.proofs.lemmas.List.{take_rest}
use Rattle.std.proofs.lemmas.Bool.{eq-eqb, ne_eqb}
use Rattle.jwords.specs.declared.word.Word.{Word}
use Rattle.jwords.specs.declared.word.WordKind.{WordKind}
use Rattle.jwords.specs.declared.word.WordKind.TheVariants.{Name, Inflected}
use Rattle.jwords.specs.declared.word.WordFault.{WordFault}
use Rattle.jwords.specs.declared.word.WordFault.TheVariants.{Spelling}
use Rattle.jwords.specs.Alphabet.{first, is_letter, is_digit, is_alphanumeric, is_name_byte, is_inflection}
use Rattle.jwords.specs.Names.{IsName}
use Rattle.jwords.specs.Listed.{IsInflectedWord}
use Rattle.jwords.specs.Runs.{name_length, inflected_length}
use Rattle.jwords.specs.Cuts.{word_of}
use Rattle.jwords.specs.Words.{Judged, FindsName}
use Rattle.jwords.proofs.NameParts.{letter_is_alphanumeric, alphanumeric_is_name}
use Rattle.jwords.proofs.NumberLists.{prefix_some}

-- an answer as the test of the word gave it
pub judged_from : (b : Bool) (found : Result Word WordFault) (holds : Type 0) (word : Word) (fault : WordFault) → found ≡ cond b (Ok word) (Err fault) → (b ≡ true → holds) → (holds → b ≡ true) → Judged found holds word fault
judged_from true found holds word fault e yes_so if_so = subst (λ (r : Result Word WordFault). Judged r holds word fault) (sym e) (yes_so refl, refl)
judged_from false found holds word fault e yes_so if_so = subst (λ (r : Result Word WordFault). Judged r holds word fault) (sym e) ((λ p. absurd (cc (if_so p))), refl)

pub name_size : (rest : List ℕ) (name more : ℕ) → name ≡ name_length rest → more ≡ prefix_len is_inflection (take (length rest - name) (drop name rest)) → name + more ≡ inflected_length rest
name_size rest name more e f =
    let g : take (length rest - name) (drop name rest) ≡ drop (name_length rest) rest = take_rest rest name ∙ ap (λ n. drop n rest) e in
    let h : more ≡ prefix_len is_inflection (drop (name_length rest) rest) = f ∙ ap (λ xs. prefix_len is_inflection xs) g in
    omega (arith, e, h)

pub finds_plain : (at size : ℕ) (rest : List ℕ) (found : Result Word WordFault) (b : Bool) → size ≡ inflected_length rest → size ≡ name_length rest → found ≡ cond b (Ok (word_of Name at size)) (Err (Spelling at)) → (b ≡ true → IsName (take size rest)) → (IsName (take size rest) → b ≡ true) → FindsName at rest found
finds_plain at size rest found b e n f told tells =
    let same : nat_eq (inflected_length rest) (name_length rest) ≡ true = eq-eqb (inflected_length rest) (name_length rest) (sym e ∙ n) in
    let j : Judged found (IsName (take (inflected_length rest) rest)) (word_of Name at (inflected_length rest)) (Spelling at) =
    subst (λ (k : ℕ). Judged found (IsName (take k rest)) (word_of Name at k) (Spelling at)) e
    (judged_from b found (IsName (take size rest)) (word_of Name at size) (Spelling at) f told tells) in
    rw same j

pub finds_inflected : (at size : ℕ) (rest : List ℕ) (found : Result Word WordFault) (b : Bool) → size ≡ inflected_length rest → (size ≡ name_length rest → ⊥) → bytes_eq (take size rest) (codes "NB.") ≡ false → found ≡ cond b (Ok (word_of Inflected at size)) (Err (Spelling at)) → (b ≡ true → IsInflectedWord (take size rest)) → (IsInflectedWord (take size rest) → b ≡ true) → FindsName at rest found
finds_inflected at size rest found b e n c f told tells =
    let other : nat_eq (inflected_length rest) (name_length rest) ≡ false = ne_eqb (inflected_length rest) (name_length rest) (λ s. n (e ∙ s)) in
    let no_comment : bytes_eq (take (inflected_length rest) rest) (codes "NB.") ≡ false = subst (λ (k : ℕ). bytes_eq (take k rest) (codes "NB.") ≡ false) e c in
    let j : Judged found (IsInflectedWord (take (inflected_length rest) rest)) (word_of Inflected at (inflected_length rest)) (Spelling at) =
    subst (λ (k : ℕ). Judged found (IsInflectedWord (take k rest)) (word_of Inflected at k) (Spelling at)) e
    (judged_from b found (IsInflectedWord (take size rest)) (word_of Inflected at size) (Spelling at) f told tells) in
    rw other (rw no_comment j)

pub zero_is_no_name_byte : is_name_byte 0 ≡ false
unfolding is_name_byte is_alphanumeric is_letter is_digit
zero_is_no_name_byte = refl

-- a letter's word takes some bytes
pub name_is_some : (rest : List ℕ) → is_letter (first rest) ≡ true → 0 < name_length rest
name_is_some rest h = prefix_some is_name_byte rest zero_is_no_name_byte (alphanumeric_is_name (first rest) (letter_is_alphanumeric (first rest) h))

pub judged_size : (b : Bool) (found : Result Word WordFault) (kind : WordKind) (at size most : ℕ) → found ≡ cond b (Ok (word_of kind at size)) (Err (Spelling at)) → 0 < size → size ≤ most → IfOk found (λ word. (at < word.end) × (word.end ≤ at + most))
judged_size true found kind at size most e some few =
    subst (λ (r : Result Word WordFault). IfOk r (λ word. (at < word.end) × (word.end ≤ at + most))) (sym e) ((omega arith), (omega arith))
judged_size false found kind at size most e some few =
    subst (λ (r : Result Word WordFault). IfOk r (λ word. (at < word.end) × (word.end ≤ at + most))) (sym e) tt
