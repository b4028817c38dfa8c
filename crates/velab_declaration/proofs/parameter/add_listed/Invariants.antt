use Rattle.std.proofs.Common.{◌≡◌, None, drop, map}
use Rattle.vast.specs.NumberedTrees.{head_parameter}
use Rattle.vexpr_parse.specs.Texts.{words_of}
use Rattle.velab_expr.specs.Symbols.{symbols_behind}
use Rattle.velab_declaration.specs.Parameters.{add_symbols}
use Rattle.velab_declaration.specs.Inner.{overrides_tree, type_of}
use Rattle.velab_declaration.proofs.parameter.add_listed.Given as goal

abbrev pub invariant-loop-head : goal.invariant-loop-head
invariant-loop-head l = record {
  same : add_symbols (overrides_tree (words_of l.tokens) l.overrides) l.into (symbols_behind (type_of (words_of l.tokens) l.kind) (map (head_parameter (words_of l.tokens)) (drop l.head-index l.list)))
      ≡ add_symbols (overrides_tree (words_of l.tokens) l.overrides) l.initial.into (symbols_behind None (map (head_parameter (words_of l.tokens)) l.list));
  variables : l.into.variables ≡ l.initial.into.variables;
}
