-- Whether a run is quiet, as a test.
use Rattle.std.specs.Prelude.{ℕ, List, [], ◌∷◌, Bool, true, false, ◌&&◌, if◌then◌else◌, Option, Some, None}
use Rattle.std.specs.List.{list_any}
use Rattle.juses.specs.Desk.{depends_on}
use Rattle.juses.specs.Entries.{started_by}
use Rattle.juses.specs.Histories.{after}
use Rattle.juses.specs.Keys.{same, changed_by}
use Rattle.juses.specs.declared.uses.Entry.{Entry}
use Rattle.juses.specs.declared.uses.Use.{Use}
use Rattle.juses.specs.declared.uses.Use.TheVariants.{Start, Print, PoolState, Current}
use Rattle.juses.specs.declared.uses.Reply.{Reply}
use Rattle.juses.specs.declared.uses.Reply.TheVariants.{Refused}

-- whether each entry passes the test, with those before it
abbrev pub each_passes : (Entry → List Entry → Bool) → List Entry → Bool
each_passes test [] = true
each_passes test (e ∷ h) = test e h && each_passes test h

abbrev pub is_granted : Use → Reply → Bool
is_granted (Start pool work) (Refused fault) = false
is_granted _ _ = true

abbrev pub is_silent : List ℕ → Use → Bool
is_silent who (PoolState pool) = false
is_silent (k ∷ path) (Print bytes) = false
is_silent (k ∷ path) Current = false
is_silent _ _ = true

-- whether the one entry changes nothing that the other, made after these, depends on
abbrev pub leaves_alone : ℕ → Entry → Entry → List Entry → Bool
leaves_alone workers f e h = if list_any (λ k. changed_by f k) (depends_on (after workers h) e.asked) then false else true

abbrev pub are_apart : ℕ → Entry → List Entry → Entry → List Entry → Bool
are_apart workers f g e h = leaves_alone workers f e h && leaves_alone workers e f g

-- whether an entry is apart from each of the task, of this run
abbrev pub apart_from : ℕ → List Entry → Entry → List Entry → List ℕ → Bool
apart_from workers r f g task = each_passes (λ e h. if same task e.who then are_apart workers f g e h else true) r

abbrev pub apart_after : ℕ → List Entry → Entry → List Entry → Option (List ℕ) → Bool
apart_after workers r f g (Some task) = if same task f.who then true else apart_from workers r f g task
apart_after workers r f g None = true

-- whether each entry is apart from each task of another that was started before it
abbrev pub keeps_apart : ℕ → List Entry → Bool
keeps_apart workers r = each_passes (λ f g. each_passes (λ s h. apart_after workers r f g (started_by s.asked s.reply)) g) r

abbrev pub is_quiet : ℕ → List Entry → Bool
is_quiet workers r = each_passes (λ e h. is_granted e.asked e.reply && is_silent e.who e.asked) r && keeps_apart workers r
