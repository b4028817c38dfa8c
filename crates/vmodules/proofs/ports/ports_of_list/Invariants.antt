use Rattle.std.proofs.Common.{◌≡◌, ◌++◌, List, None, map, drop}
use Rattle.vwords.specs.Words.{Text}
use Rattle.vast.specs.NumberedTrees.{port_tree}
use Rattle.vmodules.specs.Ports.{ports_behind}
use Rattle.vmodules.specs.Inner.{port_form, direction_of}
use Rattle.vmodules.proofs.ports.ports_of_list.Given as goal

abbrev pub invariant-loop-port : goal.invariant-loop-port
invariant-loop-port l = (words : List Text) →
    map (port_form words) l.forms.items ++ ports_behind (direction_of words l.direction) (map (port_tree words) (drop l.port-index l.list))
    ≡ ports_behind None (map (port_tree words) l.list)
