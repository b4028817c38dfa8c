use Rattle.std.proofs.Common.{◌≡◌, drop}
use Rattle.vexpr_parse.specs.Texts.{words_of}
use Rattle.velab_declaration.specs.Parameters.{add_symbols}
use Rattle.velab_declaration.specs.Inner.{overrides_tree, symbols_of}
use Rattle.velab_declaration.proofs.parameter.add_all.Given as goal

abbrev pub invariant-loop-one : goal.invariant-loop-one
invariant-loop-one l = record {
  same : add_symbols (overrides_tree (words_of l.tokens) l.overrides) l.into (symbols_of (words_of l.tokens) l.kind (drop l.one-index l.list))
      ≡ add_symbols (overrides_tree (words_of l.tokens) l.overrides) l.initial.into (symbols_of (words_of l.tokens) l.kind l.list);
  variables : l.into.variables ≡ l.initial.into.variables;
}
