-- Names and locatives (J Dictionary, "Words"; NuVoc, "Locatives").
use Rattle.std.specs.Prelude.{◌≡◌, ℕ, ◌+◌, suc, true, ◌⊎◌, List, [], ◌∷◌, ◌++◌, slice_index, All}
use Rattle.jwords.specs.Alphabet.{underscore, is_letter, is_alphanumeric, is_name_byte, first}

-- a plain name: a letter, then letters, digits and underscores, with a letter or a digit after each
-- underscore, so that no two stand together and none at the end
pub record IsPlain (name : List ℕ) : Type 0 where
  pub starts : is_letter (first name) ≡ true
  pub bytes : All (λ byte. is_name_byte byte ≡ true) name
  pub parted : (i : ℕ) → slice_index name i ≡ underscore → is_alphanumeric (slice_index name (i + 1)) ≡ true

-- so many plain names, joined by two underscores: one is the name itself, more are an indirect locative
pub data IsJoined : ℕ → List ℕ → Type 0 where
  one : (name : List ℕ) → IsPlain name → IsJoined 1 name
  more : (count : ℕ) (whole name others : List ℕ) → IsPlain name → IsJoined count others →
      whole ≡ name ++ underscore ∷ underscore ∷ others → IsJoined (suc count) whole

-- a direct locative: a plain name, an underscore, the locale's letters and digits (none for the locale
-- `base`), and an underscore
pub record IsDirect (whole : List ℕ) : Type 0 where
  pub name : List ℕ
  pub locale : List ℕ
  pub parts : whole ≡ name ++ underscore ∷ (locale ++ underscore ∷ [])
  pub plain : IsPlain name
  pub letters : All (λ byte. is_alphanumeric byte ≡ true) locale

-- a name, of one of the three forms
abbrev pub IsName : List ℕ → Type 0
IsName whole = ((count : ℕ) × IsJoined count whole) ⊎ IsDirect whole
