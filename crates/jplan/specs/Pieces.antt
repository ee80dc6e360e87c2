-- A verb on pieces of its argument (NuVoc, "\", "\.", "/." and ";.").
use Rattle.std.specs.Prelude.{◌≡◌, ℕ, ℤ, Option, Some, None, List, [], ◌∷◌, Result, Ok, Err}
use Rattle.jdata.specs.Noun.{shape, kind, atoms}
use Rattle.jdata.specs.declared.fault.Fault.{Fault}
use Rattle.jdata.specs.declared.fault.Fault.TheVariants.{Domain, Nonce}
use Rattle.jdata.specs.declared.fault.NoMemory.{NoMemory}
use Rattle.jdata.specs.declared.fault.Trouble.{Trouble}
use Rattle.jdata.specs.declared.fault.Trouble.TheVariants as trouble
use Rattle.jdata.specs.declared.noun.Atom.{Atom}
use Rattle.jdata.specs.declared.noun.Atom.TheVariants as atom
use Rattle.jdata.specs.declared.noun.Kind.{Kind}
use Rattle.jdata.specs.declared.noun.Kind.TheVariants as sort
use Rattle.jdata.specs.declared.noun.Noun.{Noun}
use Rattle.jcut.specs.Cut.{cutting_of, cut_alone, cut_by}
use Rattle.jcut.specs.Key.{classes}
use Rattle.jcut.specs.Parted.{Parted}
use Rattle.jcut.specs.declared.cutting.Cutting.{Cutting}
use Rattle.jsplit.specs.Fixes.{prefixes, suffixes, infixes, outfixes}
use Rattle.jterm.specs.declared.term.Term.{Term}
use Rattle.jplan.specs.Derivations.{Derivation, refused}
use Rattle.jplan.specs.Several.{several_pieces}
use Rattle.jplan.specs.Trains.{noun_in}

-- the number of an integer that stands alone
abbrev pub number_of : Atom → Option ℤ
number_of (atom.Int n) = Some n
number_of other = None

abbrev pub integer_of : List ℕ → Kind → List Atom → Option ℤ
integer_of [] sort.Int (a ∷ []) = number_of a
integer_of axes k others = None

abbrev pub integer_in : Noun → Option ℤ
integer_in v = integer_of (shape v) (kind v) (atoms v)

abbrev pub Cuts : Type 0
Cuts = Result Parted Fault

-- pieces that no fault is in the way of
abbrev pub Passes : Result Parted NoMemory → Result Parted Trouble → Type 0
Passes (Ok p) result = result ≡ Ok p
Passes (Err none) result = result ≡ Err trouble.NoMemory

-- the verb on these pieces, where there are any
abbrev pub on_each : Term → Result Parted Fault → Derivation
on_each u (Ok p) = several_pieces u p
on_each u (Err fault) = refused fault

abbrev pub or_domain : (ℤ → Parted) → Option ℤ → Result Parted Fault
or_domain cut (Some n) = Ok (cut n)
or_domain cut None = Err Domain

abbrev pub given_infixes : Noun → Noun → Result Parted Fault
given_infixes x y = or_domain (λ n. infixes n y) (integer_in x)

abbrev pub given_outfixes : Noun → Noun → Result Parted Fault
given_outfixes x y = or_domain (λ n. outfixes n y) (integer_in x)

-- `u\ y` is `u` on each prefix, and `x u\ y` on each infix
abbrev pub prefix_pieces : Option Noun → Noun → Result Parted Fault
prefix_pieces None y = Ok (prefixes y)
prefix_pieces (Some x) y = given_infixes x y

abbrev pub prefixed : Term → Option Noun → Noun → Derivation
prefixed u x y = on_each u (prefix_pieces x y)

-- `u\. y` is `u` on each suffix, and `x u\. y` on each outfix
abbrev pub suffix_pieces : Option Noun → Noun → Result Parted Fault
suffix_pieces None y = Ok (suffixes y)
suffix_pieces (Some x) y = given_outfixes x y

abbrev pub suffixed : Term → Option Noun → Noun → Derivation
suffixed u x y = on_each u (suffix_pieces x y)

-- `x u/. y` is `u` on the items of `y` at the places of each item of `~. x`
abbrev pub keyed : Term → Option Noun → Noun → Derivation
keyed u (Some x) y = on_each u (classes x y)
keyed u None y = refused Nonce

-- `u;.k y` and `x u;.k y` are `u` on each interval
abbrev pub intervals : Option Cutting → Option Noun → Noun → Result Parted Fault
intervals (Some cutting) None y = Ok (cut_alone cutting y)
intervals (Some cutting) (Some x) y = cut_by cutting x y
intervals None x y = Err Domain

-- which number stands to the right of `;.`
abbrev pub cutting_by : Option ℤ → Option Cutting
cutting_by (Some k) = cutting_of k
cutting_by None = None

abbrev pub cut_number : Option Noun → Option ℤ
cut_number (Some k) = integer_in k
cut_number None = None

abbrev pub cut : Term → Term → Option Noun → Noun → Derivation
cut u k x y = on_each u (intervals (cutting_by (cut_number (noun_in k))) x y)
