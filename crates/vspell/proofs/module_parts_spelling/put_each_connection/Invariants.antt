use Rattle.std.proofs.Common.{◌≡◌, ◌++◌, drop, map}
use Rattle.vast.specs.TokenTexts.{texts}
use Rattle.vspell.specs.Spellings.{texts_of}
use Rattle.vast.specs.Statements.{with_commas}
use Rattle.vast.specs.Modules.{spell_connection}
use Rattle.vast.specs.ModuleTrees.{connection_tree}
use Rattle.vspell.specs.Inner.{listed_from}
use Rattle.vspell.proofs.module_parts_spelling.put_each_connection.Given as goal

abbrev pub invariant-loop-connection : goal.invariant-loop-connection
invariant-loop-connection l =
    texts_of l.out.items ++ listed_from l.first spell_connection (map (connection_tree (texts l.words)) (drop l.connection-index l.connections))
    ≡ texts_of l.initial.out.items ++ with_commas spell_connection (map (connection_tree (texts l.words)) l.connections)
