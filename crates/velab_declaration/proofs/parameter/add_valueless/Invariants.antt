use Rattle.std.proofs.Common.{◌≡◌, drop}
use Rattle.vexpr_parse.specs.Texts.{words_of}
use Rattle.velab_declaration.specs.Parameters.{add_symbols}
use Rattle.velab_declaration.specs.Inner.{overrides_tree, valueless_in}
use Rattle.velab_declaration.proofs.parameter.add_valueless.Given as goal

abbrev pub invariant-loop-item : goal.invariant-loop-item
invariant-loop-item l = record {
  same : add_symbols (overrides_tree (words_of l.tokens) l.overrides) l.into (valueless_in (words_of l.tokens) (drop l.item-index l.items))
      ≡ add_symbols (overrides_tree (words_of l.tokens) l.overrides) l.initial.into (valueless_in (words_of l.tokens) l.items);
  variables : l.into.variables ≡ l.initial.into.variables;
}
