use Rattle.std.proofs.Common.{◌≡◌, ◌++◌, drop, map}
use Rattle.vexpr_parse.specs.Texts.{words_of}
use Rattle.vmodules.specs.Inner.{port_form, port_trees, ports_as}
use Rattle.vmodules.proofs.ports.ports_of_names.Given as goal

abbrev pub invariant-loop-port : goal.invariant-loop-port
invariant-loop-port l =
    map (port_form (words_of l.tokens)) l.forms.items ++ ports_as (words_of l.tokens) l.items (port_trees (words_of l.tokens) (drop l.port-index l.list))
    ≡ ports_as (words_of l.tokens) l.items (port_trees (words_of l.tokens) l.list)
