use Rattle.std.proofs.Common.{◌≡◌, drop}
use Rattle.vexpr_parse.specs.Texts.{words_of}
use Rattle.velab_declaration.specs.Parameters.{add_symbols}
use Rattle.velab_declaration.specs.Inner.{overrides_tree, instance_symbols}
use Rattle.velab_declaration.proofs.parameter.add_instances.Given as goal

abbrev pub invariant-loop-one : goal.invariant-loop-one
invariant-loop-one l = record {
  same : add_symbols (overrides_tree (words_of l.tokens) l.overrides) l.into (instance_symbols (words_of l.tokens) (drop l.one-index l.list))
      ≡ add_symbols (overrides_tree (words_of l.tokens) l.overrides) l.initial.into (instance_symbols (words_of l.tokens) l.list);
  variables : l.into.variables ≡ l.initial.into.variables;
}
