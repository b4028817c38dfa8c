use Rattle.std.proofs.Common.{◌≡◌, ◌<◌, ◌+◌, ◌^◌, drop, length, map}
use Rattle.std.specs.List.{flat_map}
use Rattle.vast.specs.NumberedTrees.{item_tree}
use Rattle.vexpr_parse.specs.Texts.{words_of}
use Rattle.vmodules.specs.Inner.{own_in}
use Rattle.velab_expr.specs.Answers.{behind}
use Rattle.velab_expr.specs.Scopes.{at}
use Rattle.velab_expr.specs.Symbols.{symbols_by}
use Rattle.velab_declaration.specs.Variables.{lower_variables}
use Rattle.velab_declaration.proofs.variable.put_items.Given as goal

abbrev pub invariant-loop-item : goal.invariant-loop-item
invariant-loop-item l = record {
  same : behind l.into.items (lower_variables l.path (at l.scope l.known) (own_in (words_of l.tokens) l.made (drop l.item-index l.items)))
      ≡ behind l.initial.into.items (lower_variables l.path l.scope (own_in (words_of l.tokens) l.made l.items));
  small : l.known + length (flat_map symbols_by (map (item_tree (words_of l.tokens)) (drop l.item-index l.items))) < 2 ^ 64;
}
