-- What a session tells by its status.
use Rattle.std.proofs.Common.{◌≡◌, ◌⊎◌, ◌≤◌, ◌+◌, ℕ, List, [], ◌∷◌, ◌++◌, length, false, Option, Some, None, IfSome, Result, Ok, Err, inl, inr, arith, refl, ap, sym, ◌∙◌, subst, append-nil, length-append}
use Rattle.std.specs.Io.KnownBytes.{Consumes, IsAtEnd}
use Rattle.jeval.specs.declared.state.State.{State}
use Rattle.jio.specs.Counts.{Rises}
use Rattle.jio.specs.Sink.{Writes}
use Rattle.jio.specs.Source.{Reads}
use Rattle.jio.proofs.Writing.{appends_nothing}
use Rattle.jsession.specs.Items.{sentences, ended, items_of}
use Rattle.jsession.specs.Broke.{IsWhy, Broke, Went}
use Rattle.jsession.specs.Ran.{Answer, Wrote, Moment, moment, RanThrough, final}
use Rattle.jsession.specs.Reads.{IsRead}
use Rattle.jsession.specs.Script.{first_state}
use Rattle.jsession.specs.Sessions.{SessionRan}
use Rattle.jsession.specs.declared.reading.Reading.{Reading}
use Rattle.jsession.specs.declared.reading.Reading.TheVariants as how
use Rattle.jsession.specs.declared.status.Status.{Status}
use Rattle.jsession.specs.declared.status.Status.TheVariants as status
use Rattle.jsession.proofs.Programs.{does_begun}
use Rattle.jsession.specs.Script.{nothing_refused}
use Rattle.juses.specs.Keeping.{first_kept}
use Rattle.juses.specs.Leading.{Leads}
use Rattle.juses.specs.Standing.{Kept, Refuses}
use Rattle.juses.specs.Told.{Passed}
use Rattle.juses.specs.declared.uses.Halt.{Halt}
use Rattle.juses.specs.declared.uses.Use.{Use}
use Rattle.juses.proofs.Runs.{a_run, once_run, whole_run}
use Rattle.jconsole.specs.Session.{main_program, WroteRun, WrotePart, WereRead, IsScript, WroteWhole, AreOfScript, AreOfFront, BrokeInside, Told, GivesWhatIsLeft}
use Rattle.jconsole.proofs.Solos.{part_of, whole_of, all_of, some_of, took_all}

consumes_nothing : (left : Option (List ℕ)) → Consumes left left []
consumes_nothing None = tt
consumes_nothing (Some bytes) = refl

-- nothing was read, run or written
pub nothing_told : (source : Reads) (sink : Writes) → Told source source sink sink status.NoMemory
nothing_told source sink =
    let wrote : WroteRun sink.took sink.took [] = ([], whole_run (main_program []) 0 [] tt tt refl, appends_nothing sink.took) in
    let run = a_run (main_program []) 0 in
    let part : WrotePart sink.took sink.took sink.whole [] = (run.0, run.1, [], once_run (main_program []) 0 run.0 run.1 [] tt, ([], refl, appends_nothing sink.took), λ whole. appends_nothing sink.took) in
    record {
      broke = record {
        items = [];
        are_items = inr (record { front = []; more = []; were_read = record { left = consumes_nothing source.left; given = omega arith }; are = refl });
        wrote = (part, all_of sink.took sink.took [] wrote);
        pieces = omega arith;
      };
      faults = refl;
    }

pub gives_nothing : (source : Reads) → GivesWhatIsLeft source source
gives_nothing source = given source.left
  where
    given : (left : Option (List ℕ)) → IfSome left (λ script. source.given ≤ source.given + length script)
    given None = tt
    given (Some script) = omega arith

given_of : (left left' : Option (List ℕ)) (all : List ℕ) (given given' : ℕ) → Consumes left left' all → given' ≡ given + length all → IfSome left (λ script. given' ≤ given + length script)
given_of None left' all given given' h e = tt
given_of (Some script) None all given given' h e = absurd h
given_of (Some script) (Some rest) all given given' h e = omega (arith, e, ap length h, length-append all rest)

gives : (source source' : Reads) (how : Reading) (bytes : List ℕ) → IsRead source source' how bytes → GivesWhatIsLeft source source'
gives source source' how bytes read = given_of source.left source'.left read.all source.given source'.given read.consumed read.given

all_left : (left left' : Option (List ℕ)) (all : List ℕ) → Consumes left left' all → IsAtEnd left' → IfSome left (λ bytes. bytes ≡ all)
all_left None left' all h end = tt
all_left (Some script) None all h end = absurd h
all_left (Some script) (Some rest) all h end = h ∙ (ap (λ zs. all ++ zs) end ∙ append-nil all)

were_read : (source source' : Reads) (how : Reading) (bytes read : List ℕ) (is : IsRead source source' how bytes) → is.all ≡ read → WereRead source source' read
were_read source source' how bytes read is all =
    let P : List ℕ → Type 0 = λ zs. WereRead source source' zs in
    subst P all (record { left = is.consumed; given = is.given })

is_script : (source source' : Reads) (bytes : List ℕ) → IsRead source source' how.Whole bytes → IsScript source source' bytes
is_script source source' bytes is =
    let P : List ℕ → Type 0 = λ zs. IfSome source.left (λ script. script ≡ zs) in
    record {
      were_read = were_read source source' how.Whole bytes bytes is (sym is.reason.0);
      whole = subst P (sym is.reason.0) (all_left source.left source'.left is.all is.consumed is.reason.1.at_end);
      read = is.reason.1;
    }

-- the items of what was read
items_read : (source source' : Reads) (how : Reading) (bytes : List ℕ) → IsRead source source' how bytes → AreOfScript source source' (items_of how bytes) ⊎ AreOfFront source source' (items_of how bytes)
items_read source source' how.Whole bytes is = inl (record { script = bytes; is_script = is_script source source' bytes is; are = refl })
items_read source source' how.Broken bytes is =
    inr (record { front = bytes; more = []; were_read = were_read source source' how.Broken bytes (bytes ++ []) is (sym is.reason.0 ∙ sym (append-nil bytes)); are = refl })
items_read source source' how.Long bytes is =
    inr (record { front = bytes; more = is.reason.0 ∷ []; were_read = were_read source source' how.Long bytes (bytes ++ is.reason.0 ∷ []) is is.reason.1; are = refl })
items_read source source' how.Short bytes is =
    inr (record { front = []; more = is.all; were_read = were_read source source' how.Short bytes is.all is refl; are = refl })

-- why a session broke off
abbrev Came : Status → Writes → Writes → Type 0
Came status.WriteFault sink sink' = Rises sink.faults sink'.faults × (sink'.whole ≡ false)
Came status.NoMemory sink sink' = sink'.faults ≡ sink.faults
Came status.Done sink sink' = ⊥
Came status.Usage sink sink' = ⊥
Came status.ReadFault sink sink' = ⊥
Came status.TooLong sink sink' = ⊥

came_unwritten : (why : Status) (p q : Writes) (bytes : List ℕ) → Wrote p bytes (Err why) q → Came why p q
came_unwritten status.WriteFault p q bytes h = (h.faults, h.whole)
came_unwritten status.NoMemory p q bytes h = h.faults
came_unwritten status.Done p q bytes h = h
came_unwritten status.Usage p q bytes h = h
came_unwritten status.ReadFault p q bytes h = h
came_unwritten status.TooLong p q bytes h = h

came_by : (halted : Result State Halt) (written : Answer) (why : Status) (p q : Writes) (bytes : List ℕ) → IsWhy halted written why → Wrote p bytes written q → Came why p q
came_by (Ok a) (Err said) why p q bytes is h = subst (λ s. Came s p q) (sym is) (came_unwritten said p q bytes h)
came_by (Err halt) (Err said) why p q bytes is h = subst (λ s. Came s p q) (sym is) (came_unwritten said p q bytes h)
came_by (Err halt) (Ok done) why p q bytes is h = subst (λ s. Came s p q) (sym is) h.faults
came_by (Ok a) (Ok done) why p q bytes is h = absurd is

came_since : (why : Status) (first p q : Writes) → p.faults ≡ first.faults → Came why p q → Came why first q
came_since status.WriteFault first p q same h = let P : ℕ → Type 0 = λ n. Rises n q.faults in (subst P same h.0, h.1)
came_since status.NoMemory first p q same h = h ∙ same
came_since status.Done first p q same h = h
came_since status.Usage first p q same h = h
came_since status.ReadFault first p q same h = h
came_since status.TooLong first p q same h = h

module _ (source source' : Reads) (sink : Writes) (new : Moment Kept) where
  abbrev start : Moment Kept
  start = moment (first_kept 0) (first_state 10000000) sink

  abbrev FewPieces : List (List ℕ) → Type 0
  FewPieces items = new.sink.calls ≤ sink.calls + length items + 1

  wrote_whole : (items : List (List ℕ)) → RanThrough Leads 10000000 items start new → new.uses.waiting ≡ [] → FewPieces items → WroteWhole sink new.sink items
  wrote_whole items ran out few = record {
    wrote = whole_of new.uses ran.events ran.bytes [] ran.led items sink.took new.sink.took new.state ran.did out ran.wrote.took;
    all = record { faults = ran.wrote.faults; whole = ran.wrote.whole };
    pieces = few;
  }

  told_well : (how : Reading) (bytes : List ℕ) (done : Unit {0}) → IsRead source source' how bytes → RanThrough Leads 10000000 (items_of how bytes) start new
      → new.uses.waiting ≡ [] → FewPieces (items_of how bytes) → Told source source' sink new.sink (final how (Ok done))
  told_well how.Whole bytes done read ran out few = record { script = bytes; is_script = is_script source source' bytes read; wrote = wrote_whole (sentences bytes) ran out few }
  told_well how.Broken bytes done read ran out few =
      record { front = bytes; were_read = were_read source source' how.Broken bytes bytes read (sym read.reason.0); read = read.reason.1; wrote = wrote_whole (sentences (ended bytes)) ran out few }
  told_well how.Long bytes done read ran out few = record {
    front = bytes;
    last = read.reason.0;
    long = read.reason.2;
    were_read = were_read source source' how.Long bytes (bytes ++ read.reason.0 ∷ []) read read.reason.1;
    past_limit = read.reason.3;
    on = read.reason.4;
    wrote = wrote_whole (sentences (ended bytes)) ran out few;
  }
  told_well how.Short bytes done read ran out few =
      let begun = does_begun nothing_refused nothing_refused [] (main_program []) ran.events (Ok new.state) ran.did in
      let part = part_of new.uses ran.events ran.bytes [] ran.led [] sink.took new.sink.took new.sink.whole begun (took_all sink.took new.sink.took ran.bytes ran.wrote.took) (λ w. out) (λ w. ran.wrote.took) in
      let whole = whole_of new.uses ran.events ran.bytes [] ran.led [] sink.took new.sink.took new.state ran.did out ran.wrote.took in
      record {
        broke = record { items = []; are_items = items_read source source' how.Short bytes read; wrote = (part, all_of sink.took new.sink.took [] whole); pieces = few };
        faults = ran.wrote.faults;
      }

  broke_inside : (how : Reading) (bytes : List ℕ) (why : Status) → IsRead source source' how bytes → Broke Leads Refuses (λ d. d.waiting ≡ []) 10000000 (items_of how bytes) start new why
      → FewPieces (items_of how bytes) → BrokeInside source source' sink new.sink
  broke_inside how bytes why read b few = record {
    items = items_of how bytes;
    are_items = items_read source source' how bytes read;
    wrote = some_of (items_of how bytes) sink new why b;
    pieces = few;
  }

  told_ill : (why : Status) → BrokeInside source source' sink new.sink → Came why sink new.sink → Told source source' sink new.sink why
  told_ill status.WriteFault b came = record { broke = b; faults = came.0; whole = came.1 }
  told_ill status.NoMemory b came = record { broke = b; faults = came }
  told_ill status.Done b came = absurd came
  told_ill status.Usage b came = absurd came
  told_ill status.ReadFault b came = absurd came
  told_ill status.TooLong b came = absurd came

  told_by : (how : Reading) (bytes : List ℕ) (answer : Answer) → IsRead source source' how bytes → Went Leads Refuses (λ d. d.waiting ≡ []) 10000000 (items_of how bytes) start new answer
      → FewPieces (items_of how bytes) → Told source source' sink new.sink (final how answer)
  told_by how bytes (Ok done) read went few = told_well how bytes done read went.0 went.1 few
  told_by how bytes (Err why) read b few =
      told_ill why (broke_inside how bytes why read b few)
      (came_since why sink b.between.sink new.sink b.ran.wrote.faults (came_by b.stopped.halted b.stopped.written why b.between.sink new.sink b.stopped.bytes b.stopped.is_why b.stopped.wrote))

  pub told : (status : Status) → SessionRan Leads Refuses (λ d. d.waiting ≡ []) 10000000 source source' start new status → Told source source' sink new.sink status
  told status s = let P : Status → Type 0 = λ t. Told source source' sink new.sink t in subst P (sym s.ends) (told_by s.how s.bytes s.answer s.read s.went s.pieces)

pub session_gives : {S : Type 0} (leads : S → Passed → S → Type 0) (refuses : S → List ℕ → Use → Halt → Type 0) (drained : S → Type 0) (turns : ℕ) (source source' : Reads) (old new : Moment S) (status : Status)
    → SessionRan leads refuses drained turns source source' old new status → GivesWhatIsLeft source source'
session_gives leads refuses drained turns source source' old new status s = gives source source' s.how s.bytes s.read
