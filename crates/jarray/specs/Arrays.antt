-- How the code keeps an array (J Dictionary, "Nouns"): an integer that stands alone takes no memory, every other array is a tree.
use Rattle.jdata.specs.Noun.{int_atom}
use Rattle.jarray.specs.Placed.{Placed, own}
use Rattle.jarray.specs.declared.array.Form.{Form}
use Rattle.jarray.specs.declared.array.Form.TheVariants as form

abbrev pub seen : Form → Placed
seen (form.Atom n) = own (int_atom n)
seen (form.Own t) = own t
