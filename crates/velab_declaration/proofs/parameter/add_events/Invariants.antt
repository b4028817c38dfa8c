use Rattle.std.proofs.Common.{◌≡◌, drop}
use Rattle.vexpr_parse.specs.Texts.{words_of}
use Rattle.velab_declaration.specs.Parameters.{add_symbols}
use Rattle.velab_declaration.specs.Inner.{overrides_tree, event_symbols}
use Rattle.velab_declaration.proofs.parameter.add_events.Given as goal

abbrev pub invariant-loop-name : goal.invariant-loop-name
invariant-loop-name l = record {
  same : add_symbols (overrides_tree (words_of l.tokens) l.overrides) l.into (event_symbols (words_of l.tokens) (drop l.name-index l.names))
      ≡ add_symbols (overrides_tree (words_of l.tokens) l.overrides) l.initial.into (event_symbols (words_of l.tokens) l.names);
  variables : l.into.variables ≡ l.initial.into.variables;
}
