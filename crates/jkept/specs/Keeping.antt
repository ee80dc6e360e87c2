-- What a body keeps between its steps (J Dictionary, "Control Structures"): the result, which is the value of the last
-- sentence outside of tests, and for each test the value of its last sentence, by the number of the test's word. Such a
-- value stays until the test starts again, and with it for the loop or `select.` of that word.
use Rattle.std.specs.Prelude.{ℕ, Option, Some, None, [], ◌∷◌, unwrap_or, refl}
use Rattle.std.specs.Coded.{Coded, code_by, coded×, coded_ℕ}
use Rattle.std.specs.FinMap as map
use Rattle.std.specs.Ordering.{nat_cmp}
use Rattle.jdata.specs.Noun.{noun}
use Rattle.jdata.specs.declared.noun.Noun.{Noun}
use Rattle.jdata.specs.declared.noun.Kind.TheVariants as sort

pub record Keeping : Type 0 where
  pub result : Noun
  pub values : map.FinMap nat_cmp Noun

-- the code of it, from that of nouns
abbrev pub code : Coded Noun → Coded Keeping
code nouns = code_by (Noun × map.FinMap nat_cmp Noun) (coded× nouns (map.code coded_ℕ nouns)) (λ k. (k.result, k.values)) (λ p. record { result = p.0; values = p.1 }) (λ _. refl)

-- the value of a test in which no sentence ended
abbrev pub empty_list : Noun
empty_list = noun (0 ∷ []) sort.Int []

-- the result of a body in which no sentence ended outside of tests, `i. 0 0`
abbrev pub empty_table : Noun
empty_table = noun (0 ∷ 0 ∷ []) sort.Int []

-- before the first step
abbrev pub first : Keeping
first = record { result = empty_table; values = map.empty }

-- once a sentence ended with a value, in a test or outside of tests
abbrev pub kept_after : Option ℕ → Noun → Keeping → Keeping
kept_after None value k = record k { result = value }
kept_after (Some word) value k = record k { values = map.insert k.values word value }

-- once a test started
abbrev pub started : ℕ → Keeping → Keeping
started word k = record k { values = map.remove k.values word }

abbrev pub value_of : ℕ → Keeping → Noun
value_of word k = unwrap_or (map.get k.values word) empty_list
