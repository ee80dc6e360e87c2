use Rattle.std.proofs.Common.{ap, sym, ◌∙◌}
use Rattle.std.specs.List.{flat_map}
use Rattle.std.proofs.lemmas.Result.{IfOk-weaker}
use Rattle.jdata.specs.declared.noun.Kind.TheVariants as sort
use Rattle.jframe.specs.Blocks.{block}
use Rattle.jframe.proofs.Blocks.{all_can_join}
use Rattle.jframe.proofs.items.joined_atoms.Goals as goal

pub join_items-requires : goal.join_items-requires
join_items-requires c = all_can_join _ c.args.kind sort.Int _ c.args.count c.requires.kind c.requires.agree c.requires.item c.requires.count c.requires.bound c.in-Int.is

pub join_items-requires-in-Char : goal.join_items-requires-in-Char
join_items-requires-in-Char c = all_can_join _ c.args.kind sort.Char _ c.args.count c.requires.kind c.requires.agree c.requires.item c.requires.count c.requires.bound c.in-Char.is

pub join_items-requires-in-Boxed : goal.join_items-requires-in-Boxed
join_items-requires-in-Boxed c = all_can_join _ c.args.kind sort.Boxed _ c.args.count c.requires.kind c.requires.agree c.requires.item c.requires.count c.requires.bound c.in-Boxed.is
