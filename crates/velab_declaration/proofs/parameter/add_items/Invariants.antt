use Rattle.std.proofs.Common.{◌≡◌, drop}
use Rattle.vexpr_parse.specs.Texts.{words_of}
use Rattle.velab_declaration.specs.Parameters.{add_symbols}
use Rattle.velab_expr.specs.Inner.{symbols_in}
use Rattle.velab_declaration.specs.Inner.{overrides_tree}
use Rattle.velab_declaration.proofs.parameter.add_items.Given as goal

abbrev pub invariant-loop-item : goal.invariant-loop-item
invariant-loop-item l = record {
  same : add_symbols (overrides_tree (words_of l.tokens) l.overrides) l.into (symbols_in (words_of l.tokens) (drop l.item-index l.items))
      ≡ add_symbols (overrides_tree (words_of l.tokens) l.overrides) l.initial.into (symbols_in (words_of l.tokens) l.items);
  variables : l.into.variables ≡ l.initial.into.variables;
}
