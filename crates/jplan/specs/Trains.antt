-- Trains (J Dictionary, "Trains"; NuVoc, "Hook", "Fork", "Cap"). The right verb is applied first.
use Rattle.std.specs.Prelude.{Bool, true, false, if◌then◌else◌, Option, Some, None}
use Rattle.jdata.specs.declared.noun.Noun.{Noun}
use Rattle.jdata.specs.declared.primitive.Primitive.{Primitive}
use Rattle.jdata.specs.declared.primitive.Primitive.TheVariants as primitive
use Rattle.jterm.specs.declared.term.Term.{Term}
use Rattle.jterm.specs.declared.term.Term.TheVariants as term
use Rattle.jplan.specs.Derivations.{Derivation, applying, applying_last}

-- the left argument or, where there is none, the right one
abbrev pub left_or : Option Noun → Noun → Noun
left_or (Some x) y = x
left_or None y = y

-- `(g h)`: `y g h y`, and `x g h y`
abbrev pub hook : Term → Term → Option Noun → Noun → Derivation
hook g h x y = applying h None y (λ b. applying_last g (Some (left_or x y)) b)

-- `[:`
abbrev pub is_cap_verb : Primitive → Bool
is_cap_verb primitive.LeftBracketColon = true
is_cap_verb other = false

abbrev pub is_cap : Term → Bool
is_cap (term.Verb v) = is_cap_verb v
is_cap other = false

-- `(f g h)`: `(f y) g (h y)`, and `(x f y) g (x h y)`
abbrev pub whole_fork : Term → Term → Term → Option Noun → Noun → Derivation
whole_fork f g h x y = applying h x y (λ b. applying f x y (λ a. applying_last g (Some a) b))

-- `([: g h)`: `g h y`, and `g x h y`; `(n g h)`: `n g h y`, and `n g x h y`
abbrev pub half_fork : Option Noun → Term → Term → Option Noun → Noun → Derivation
half_fork left g h x y = applying h x y (λ b. applying_last g left b)

abbrev pub noun_in : Term → Option Noun
noun_in (term.Noun n) = Some n
noun_in other = None

abbrev pub fork_by : Option Noun → Term → Term → Term → Option Noun → Noun → Derivation
fork_by (Some n) f g h x y = half_fork (Some n) g h x y
fork_by None f g h x y = if is_cap f then half_fork None g h x y else whole_fork f g h x y

abbrev pub fork : Term → Term → Term → Option Noun → Noun → Derivation
fork f g h x y = fork_by (noun_in f) f g h x y
