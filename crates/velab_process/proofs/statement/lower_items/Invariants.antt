use Rattle.std.proofs.Common.{◌≡◌, ◌<◌, ◌+◌, ◌^◌, drop, length, map}
use Rattle.std.specs.List.{flat_map}
use Rattle.vast.specs.NumberedTrees.{item_tree}
use Rattle.vexpr_parse.specs.Texts.{words_of}
use Rattle.velab_expr.specs.Scopes.{at}
use Rattle.velab_expr.specs.Symbols.{symbols_by}
use Rattle.velab_process.specs.Processes.{with_begins_before}
use Rattle.velab_process.specs.Inner.{processes_of}
use Rattle.velab_process.proofs.statement.lower_items.Given as goal

abbrev pub invariant-loop-item : goal.invariant-loop-item
invariant-loop-item l = record {
  same : with_begins_before l.into.items (processes_of (words_of l.tokens) l.path (at l.scope l.known) l.table (drop l.item-index l.items))
      ≡ with_begins_before l.initial.into.items (processes_of (words_of l.tokens) l.path l.scope l.initial.table l.items);
  small : l.known + length (flat_map symbols_by (map (item_tree (words_of l.tokens)) (drop l.item-index l.items))) < 2 ^ 64;
}
