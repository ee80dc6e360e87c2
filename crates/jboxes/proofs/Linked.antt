-- Raze and link by kinds, and calls one after the other.
use Rattle.std.specs.Prelude.{◌≡◌, List, map, Result, Ok, Err}
use Rattle.std.proofs.Common.{sym, ap, ◌∙◌}
use Rattle.jdata.specs.Answers.{Answers}
use Rattle.jdata.specs.Firsts.{and_then}
use Rattle.jdata.specs.Noun.{kind, atoms}
use Rattle.jdata.specs.Trees.{noun_of, atoms_of}
use Rattle.jdata.specs.declared.fault.Fault.{Fault}
use Rattle.jdata.specs.declared.fault.Trouble.{Trouble}
use Rattle.jdata.specs.declared.fault.Trouble.TheVariants as trouble
use Rattle.jdata.specs.declared.noun.Noun.{Noun}
use Rattle.jdata.specs.declared.noun.Kind.TheVariants as sort
use Rattle.jdata.specs.declared.tree.Leaves.{Leaves}
use Rattle.jframe.specs.Joining.{items_joined}
use Rattle.jboxes.specs.Dyads.{appended, linked, linked_by}
use Rattle.jboxes.specs.Monads.{content_of, contents, enclosed, listed, razed, razed_by}

pub razed_ints : (y : Noun) → kind y ≡ sort.Int → razed y ≡ listed y
unfolding razed
razed_ints y e = ap (λ k. razed_by k y) e

pub razed_chars : (y : Noun) → kind y ≡ sort.Char → razed y ≡ listed y
unfolding razed
razed_chars y e = ap (λ k. razed_by k y) e

pub razed_boxes : (y : Noun) → kind y ≡ sort.Boxed → razed y ≡ items_joined (contents y)
unfolding razed
razed_boxes y e = ap (λ k. razed_by k y) e

pub linked_ints : (x y : Noun) → kind y ≡ sort.Int → linked x y ≡ and_then (enclosed x) (λ first. and_then (enclosed y) (appended first))
unfolding linked
linked_ints x y e = ap (λ k. linked_by k x y) e

pub linked_chars : (x y : Noun) → kind y ≡ sort.Char → linked x y ≡ and_then (enclosed x) (λ first. and_then (enclosed y) (appended first))
unfolding linked
linked_chars x y e = ap (λ k. linked_by k x y) e

pub linked_boxes : (x y : Noun) → kind y ≡ sort.Boxed → linked x y ≡ and_then (enclosed x) (λ first. appended first y)
unfolding linked
linked_boxes x y e = ap (λ k. linked_by k x y) e

-- a trouble of the first call is that of both
pub first_fails : (m : Result Noun Fault) (k : Noun → Result Noun Fault) (t : Trouble) → Answers m (Err t) → Answers (and_then m k) (Err t)
first_fails m k (trouble.Fault why) h = ap (λ r. and_then r k) h
first_fails m k trouble.NoMemory h = h

pub contents_are : (y tree : Noun) (axes : _) (boxes : Leaves) (vs : List Noun) → tree ≡ y → noun_of axes boxes ≡ tree → vs ≡ map content_of (atoms_of boxes) → vs ≡ contents y
contents_are y tree axes boxes vs same parts is = is ∙ ap (map content_of) (ap atoms parts ∙ ap atoms same)
