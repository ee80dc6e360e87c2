-- Lemmas on cutting: one blank more, one word more, and a fault, of the slice that the code takes.
use Rattle.std.proofs.Common.{◌≡◌, ℕ, ◌+◌, ◌-◌, ◌<◌, Bool, true, false, cond, List, [], ◌∷◌, ◌++◌, length, get_or, take, drop, refl, sym, ap, ◌∙◌, subst, Ok, Err, Result}
use Rattle.std.proofs.lemmas.List.{take_rest}
use Rattle.jwords.specs.declared.word.Word.{Word}
use Rattle.jwords.specs.Alphabet.{is_blank}
use Rattle.jwords.specs.Cuts.{IsCut, nothing, blank, word, IsFault, StandsAt}

pub cut_start : {F : Type 0} (finds : ℕ → List ℕ → Result Word F → Type 0) (text : List ℕ) (words : List Word) → words ≡ [] → IsCut finds text 0 words
cut_start finds text words e = subst (IsCut finds text 0) (sym e) nothing

pub cut_word : {F : Type 0} (finds : ℕ → List ℕ → Result Word F → Type 0) (text : List ℕ) (at : ℕ) (words items : List Word) (next : Word) → IsCut finds text at words → at < length text → is_blank (get_or text at 0) ≡ false → finds at (take (length text - at) (drop at text)) (Ok next) → items ≡ words ++ (next ∷ []) → IsCut finds text next.end items
cut_word finds text at words items next c l b f e =
    subst (IsCut finds text next.end) (sym e)
    (word at words next c (record { within = l; no_blank = b }) (subst (λ (rest : List ℕ). finds at rest (Ok next)) (take_rest text at) f))

pub cut_fault : {F : Type 0} (finds : ℕ → List ℕ → Result Word F → Type 0) (text : List ℕ) (at : ℕ) (words : List Word) (fault : F) → IsCut finds text at words → at < length text → is_blank (get_or text at 0) ≡ false → finds at (take (length text - at) (drop at text)) (Err fault) → IsFault finds text fault
cut_fault finds text at words fault c l b f = record {
  at = at;
  words = words;
  before = c;
  stands = record { within = l; no_blank = b };
  found = subst (λ (rest : List ℕ). finds at rest (Err fault)) (take_rest text at) f;
}
