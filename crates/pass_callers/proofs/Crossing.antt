-- What `search` takes to show that closures over passes at a desk, and over bindings, may cross threads.
use denote.Param.Send.{IsSync, sendable}
use Rattle.std.proofs.Crossing.{crosses}
use Rattle.std.proofs.alloc.Global.TheSendSync as heap
use Rattle.jdata.proofs.primitive.Primitive.TheSendSync as primitive
use Rattle.jdata.proofs.tree.Tree.TheLaws.TheKnot as tree_knot
use Rattle.jdata.specs.contracts.tree.Tree as tree
use Rattle.jterm.proofs.term.Locative.TheSendSync as locative
use Rattle.jterm.proofs.term.Term.TheLaws.TheKnot as term_knot
use Rattle.jterm.proofs.words.Adv.TheSendSync as adverb
use Rattle.jterm.proofs.words.Con.TheSendSync as conj
use Rattle.jterm.specs.contracts.term.Term as term
use Rattle.jpass.proofs.Crossing as desks
use Rattle.juses.proofs.uses.Halt.TheSendSync as halt
use Rattle.pass_callers.specs.contracts.bindings.Binding as binding

tree_sync : IsSync (tree.the_field).row
tree_sync = search (crosses, tree_knot.crosses, sendable) depth 60 fits 20000

term_sync : IsSync (term.the_field).row
term_sync = search (tree_sync, primitive.the_field_sync, locative.the_field_sync, adverb.the_field_sync, conj.the_field_sync, crosses, term_knot.crosses, sendable) depth 60 fits 20000

pub binding_sync : IsSync binding.the_row
binding_sync = search (term_sync, crosses, sendable) depth 60 fits 20000

pub binding_field_sync : IsSync (binding.the_field).row
binding_field_sync = search (term_sync, crosses, sendable) depth 60 fits 20000

pub ruleset desks_cross = (desks.desks_cross, binding_sync, binding_field_sync, halt.the_field_send, halt.the_send, heap.the_field_send, heap.the_send, heap.the_field_sync, heap.the_sync)
