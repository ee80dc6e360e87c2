-- Quoted texts (J Dictionary, "Words"): a quote, bytes and doubled quotes, and a quote that closes.
use Rattle.std.specs.Prelude.{◌≡◌, ◌≢◌, ℕ, ◌+◌, List, [], ◌∷◌, ◌++◌, length}
use Rattle.jwords.specs.Alphabet.{quote, first}

-- what stands between the quotes: bytes that are no quotes, and quotes that are doubled
pub data IsInside : List ℕ → Type 0 where
  nothing : IsInside []
  plain : (byte : ℕ) (others : List ℕ) → byte ≢ quote → IsInside others → IsInside (byte ∷ others)
  doubled : (others : List ℕ) → IsInside others → IsInside (quote ∷ quote ∷ others)

-- the bytes begin with a quoted text that takes so many of them: its closing quote is the first that stands alone
pub record IsQuoted (bytes : List ℕ) (size : ℕ) : Type 0 where
  pub inside : List ℕ
  pub after : List ℕ
  pub parts : bytes ≡ quote ∷ (inside ++ quote ∷ after)
  pub between : IsInside inside
  pub closed : first after ≢ quote
  pub whole : size ≡ length inside + 2
