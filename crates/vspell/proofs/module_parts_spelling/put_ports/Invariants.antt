use Rattle.std.proofs.Common.{◌≡◌, ◌++◌, drop, map}
use Rattle.vast.specs.TokenTexts.{texts}
use Rattle.vspell.specs.Spellings.{texts_of}
use Rattle.vast.specs.Statements.{with_commas}
use Rattle.vast.specs.Modules.{spell_port}
use Rattle.vast.specs.ModuleTrees.{port_tree}
use Rattle.vspell.specs.Inner.{listed_from}
use Rattle.vspell.proofs.module_parts_spelling.put_ports.Given as goal

abbrev pub invariant-loop-port : goal.invariant-loop-port
invariant-loop-port l =
    texts_of l.out.items ++ listed_from l.first spell_port (map (port_tree (texts l.words)) (drop l.port-index l.ports))
    ≡ texts_of l.initial.out.items ++ with_commas spell_port (map (port_tree (texts l.words)) l.ports)
