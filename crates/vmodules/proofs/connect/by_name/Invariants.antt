use Rattle.std.proofs.Common.{◌≡◌, ◌++◌, [], drop, map}
use Rattle.vast.specs.NumberedTrees.{connection_tree}
use Rattle.vexpr_parse.specs.Texts.{words_of}
use Rattle.vmodules.specs.Connected.{named_connection, misfit_behind}
use Rattle.vmodules.specs.Inner.{entries_tree, entry_names}
use Rattle.vmodules.proofs.connect.by_name.Given as goal

abbrev pub invariant-loop-connection : goal.invariant-loop-connection
invariant-loop-connection l = record {
  connected : entries_tree (words_of l.tokens) l.connected ++ map named_connection (map (connection_tree (words_of l.tokens)) (drop l.connection-index l.list)) ≡ map named_connection (map (connection_tree (words_of l.tokens)) l.list);
  fits : misfit_behind l.names (entry_names l.connected) (map (connection_tree (words_of l.tokens)) (drop l.connection-index l.list)) ≡ misfit_behind l.names [] (map (connection_tree (words_of l.tokens)) l.list);
}
