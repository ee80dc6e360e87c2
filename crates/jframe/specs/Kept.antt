-- How results are kept: the first ones, while they are of one shape and kind, by their atoms one after the other, and
-- each of the others by itself.
use Rattle.std.specs.Prelude.{◌≡◌, ◌*◌, ◌≤◌, ◌++◌, List, length, map}
use Rattle.jdata.specs.Limits.{most_levels, IsShape}
use Rattle.jdata.specs.Noun.{product, greatest, atom_level}
use Rattle.jdata.specs.Trees.{kind_of, atoms_of}
use Rattle.jdata.specs.declared.noun.Noun.{Noun}
use Rattle.jframe.specs.Alike.{alike}
use Rattle.jframe.specs.declared.results.Results.TheInside.{Inside}

abbrev pub results_of : Inside → List Noun
results_of a = alike a.axes (kind_of a.atoms) (atoms_of a.atoms) a.count ++ a.others

pub record AreKept (a : Inside) : Type 0 where
  pub within : IsShape a.axes
  pub whole : length (atoms_of a.atoms) ≡ a.count * product a.axes
  pub levels : greatest (map atom_level (atoms_of a.atoms)) ≤ most_levels
