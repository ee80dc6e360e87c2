-- What one call makes of a pass on a thread.
use Rattle.std.proofs.Common.{◌≡◌, arith, refl, sym, inl, inr, ℕ, List, [], ◌∷◌, ◌++◌, if◌then◌else◌, append-nil, Option, None, Result, Ok, Err, IfOk, IfErr}
use Rattle.jturn.specs.Laws.{grew_none}
use Rattle.jturn.specs.Pass.{Pass}
use Rattle.juses.specs.Entries.{entry}
use Rattle.juses.specs.Told.{Handed, nothing, refusing, replied, asked_for}
use Rattle.juses.specs.declared.uses.Entry.{Entry}
use Rattle.juses.specs.declared.uses.Halt.{Halt}
use Rattle.juses.specs.declared.uses.Halt.TheVariants.{Wait, NoMemory, Closed}
use Rattle.juses.specs.declared.uses.Reply.{Reply}
use Rattle.juses.specs.declared.uses.Use.{Use}
use Rattle.juses.specs.declared.uses.Why.{Why}
use Rattle.juses.specs.declared.uses.Why.TheVariants.{Started, Opening, Working, Ending}
use Rattle.juses.specs.declared.uses.Work.{Work}
use Rattle.jpass.specs.Parts.{IsSame}
use Rattle.jpass.specs.Stood.{newest}
use Rattle.jpass.specs.Timed.{MayHelp, HelpsAll, helped_by, is_opening}
use Rattle.jpass.specs.TimedLaws.{once_self}
use Rattle.jpass.specs.Used.{Used, Asked, Sought, Refused, Taken, Leads, out_of}

-- the pass is still one of its turn
pub turn_asked : (thread : ℕ) (p q : Pass Entry) (who : List ℕ) (asked : Use) (answer : Result Reply Halt) → Asked thread p who asked q answer → q.turn ≡ p.turn
turn_asked thread p q who asked (Ok r) a = (a.0 []).grew.turn
turn_asked thread p q who asked (Err halt) a = (a.0 []).grew.turn

turn_taken : (thread : ℕ) (p q : Pass Entry) (why : Why) (given : Option (List ℕ × Work)) → ((helped : List (List ℕ)) → MayHelp helped why → Used thread helped p (asked_for thread why given) q) → q.turn ≡ p.turn
turn_taken thread p q (Started pyx) given a = (a [] tt).grew.turn
turn_taken thread p q (Opening pyx) given a = (a [] (omega arith)).grew.turn
turn_taken thread p q (Working on) given a = (a [] tt).grew.turn
turn_taken thread p q Ending given a = (a [] tt).grew.turn

pub turn_sought : (thread : ℕ) (p q : Pass Entry) (why : Why) (answer : Result (Option (List ℕ × Work)) Halt) → Sought Refused thread p why q answer → q.turn ≡ p.turn
turn_sought thread p q why (Ok given) a = turn_taken thread p q why given a.0
turn_sought thread p q why (Err halt) a = (a.0 []).grew.turn

-- what it was told
pub led_refused : (s t : Taken) (who : List ℕ) (asked : Use) (halt : Halt) → Asked s.thread s.pass who asked t.pass (Err halt) → t.thread ≡ s.thread → t.helped ≡ s.helped → Leads s (refusing halt) t
led_refused s t who asked Wait a on helped = absurd a.1
led_refused s t who asked NoMemory a on helped = (a.0 s.helped, on, helped)
led_refused s t who asked (Closed cause) a on helped = (a.0 s.helped, on, helped)

pub helped_is : (helped : List (List ℕ)) (why : Why) (task : List ℕ) (thread : ℕ) (work : Work) → (if is_opening why then helped ++ task ∷ [] else helped) ≡ helped_by helped (Handed why task thread work)
helped_is helped (Started pyx) task thread work = refl
helped_is helped (Opening pyx) task thread work = refl
helped_is helped (Working on) task thread work = refl
helped_is helped Ending task thread work = refl

pub led_none : (s t : Taken) (why : Why) → Sought Refused s.thread s.pass why t.pass (Ok None) → MayHelp s.helped why → t.thread ≡ s.thread → t.helped ≡ s.helped → Leads s (asked_for s.thread why None) t
led_none s t why a may on helped = (a.0 s.helped may, on, helped)

pub led_delay : (s t : Taken) (why : Why) (halt : Halt) → Sought Refused s.thread s.pass why t.pass (Err halt) → t.thread ≡ s.thread → t.helped ≡ s.helped → Leads s nothing t
led_delay s t why halt a on helped = (a.0 s.helped, on, helped)

-- it helps as many as it may
pub led_full : (s : Taken) (why : Why) → HelpsAll s.helped why → Leads s (asked_for s.thread why None) s
led_full s why full = (
  record {
    grew = grew_none s.pass;
    timed = ([], sym (append-nil s.pass.own), (newest s.pass.seen, once_self (newest s.pass.seen), inr full, (refl, once_self (newest s.pass.seen))));
    out = λ m c. (c, sym (append-nil (out_of s.pass)));
    none_out = λ m. refl;
    closing = λ m. inl refl;
  },
  refl,
  refl,
)

-- a use leaves the turn, the parts and the marker as they are
pub same_call : (s t : Taken) (who : List ℕ) (thread : ℕ) (asked : Use) (answer : Result Reply Halt) → IfOk answer (λ r. Leads s (replied (entry who thread asked r)) t) → IfErr answer (λ halt. Leads s (refusing halt) t) → IsSame s t
same_call s t who thread asked (Ok r) a b = (a.0.grew.turn, a.0.grew.parts, a.0.grew.is_marker)
same_call s t who thread asked (Err halt) a b = (b.0.grew.turn, b.0.grew.parts, b.0.grew.is_marker)
