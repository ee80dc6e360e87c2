-- What names stand for once bindings were written.
use Rattle.std.specs.Prelude.{◌≡◌, ℕ, List, [], map, Option, Some, None, All, Contains}
use Rattle.jterm.specs.declared.term.Term.{Term}
use Rattle.juses.specs.Entries.{entry}
use Rattle.juses.specs.Told.{Passed, Replied}
use Rattle.juses.specs.declared.uses.Entry.{Entry}
use Rattle.juses.specs.declared.uses.Reply.TheVariants.{Done}
use Rattle.juses.specs.declared.uses.Use.{Use}
use Rattle.juses.specs.declared.uses.Use.TheVariants.{Write}
use Rattle.pass_callers.specs.declared.bindings.Binding.{Binding}

abbrev pub binding : List ℕ → List ℕ → Term → Binding
binding place name value = record { place = place; name = name; value = value }

abbrev pub use_of : Binding → Use
use_of b = Write b.place b.name b.value

-- main wrote it on this thread
abbrev pub written : ℕ → Binding → Entry
written thread b = entry [] thread (use_of b) Done

-- main wrote each, in this order, and nothing else passed
abbrev pub writing : ℕ → List Binding → Passed
writing thread bs = record { told = map (λ b. Replied (written thread b)) bs; handed = []; closed = [] }

-- What a name of a locale stands for where these were written, each once and in any order, and no others: for what one
-- of them says; and for nothing where none is of this name.
abbrev pub IsLeft : List Binding → List ℕ → List ℕ → Option Term → Type 0
IsLeft bs place name None = All (λ (b : Binding). (b.place ≡ place) × (b.name ≡ name) → ⊥) bs
IsLeft bs place name (Some value) = Contains bs (binding place name value)
