use Rattle.std.proofs.Common.{◌≡◌, drop}
use Rattle.std.specs.List.{filter, list_all}
use Rattle.jdata.specs.Noun as noun
use Rattle.jdata.specs.Kinds as kinds
use Rattle.jframe.specs.Assembly as whole
use Rattle.jframe.proofs.kinds.are_of_kind.Given as goal

abbrev pub invariant-loop-tree : goal.invariant-loop-tree
invariant-loop-tree l =
    list_all (λ v. kinds.same_kind (noun.kind v) l.kind) (filter whole.has_atoms (drop l.tree-index l.results))
    ≡ list_all (λ v. kinds.same_kind (noun.kind v) l.kind) (filter whole.has_atoms l.results)
