-- The uses that an activity makes of names: they are sought and written in its current locale (J Dictionary,
-- "Locatives").
use Rattle.std.specs.Prelude.{ℕ, List, []}
use Rattle.jterm.specs.declared.term.Term.{Term}
use Rattle.juses.specs.declared.uses.Reply.{Reply}
use Rattle.juses.specs.Wishes.{Wish, Read, Write, Print}
use Rattle.juses.specs.declared.uses.Use.{Use}
use Rattle.juses.specs.declared.uses.Use.TheVariants as asked
use Rattle.jeval.specs.Action.{Action, asks}

abbrev pub read : List ℕ → Action Reply
read name s = asks (Read s.here name) s

abbrev pub written : List ℕ → Term → Action Reply
written name value s = asks (Write s.here name value) s

-- the uses that an evaluation makes: no task is started and no pyx is opened yet
abbrev pub IsAsked : Use → Type 0
IsAsked (asked.Read from name) = Unit {0}
IsAsked (asked.Write place name value) = Unit {0}
IsAsked (asked.Print bytes) = Unit {0}
IsAsked _ = ⊥

-- what such a use asks, as a piece of work asks it
abbrev pub wish_of : Use → Wish
wish_of (asked.Read from name) = Read from name
wish_of (asked.Write place name value) = Write place name value
wish_of (asked.Print bytes) = Print bytes
wish_of _ = Print []
