use Rattle.std.proofs.Common.{◌≡◌, drop}
use Rattle.vexpr_parse.specs.Texts.{words_of}
use Rattle.vmodules.specs.Names.{again_behind}
use Rattle.vmodules.specs.Inner.{with_words}
use Rattle.velab_declaration.specs.Inner.{port_texts}
use Rattle.velab_declaration.proofs.declared.add_ports.Given as goal

abbrev pub invariant-loop-port : goal.invariant-loop-port
invariant-loop-port l = record {
  names : with_words l.into (port_texts (words_of l.tokens) (drop l.port-index l.ports)) ≡ with_words l.initial.into (port_texts (words_of l.tokens) l.ports);
  again : again_behind l.into (port_texts (words_of l.tokens) (drop l.port-index l.ports)) ≡ again_behind l.initial.into (port_texts (words_of l.tokens) l.ports);
}
