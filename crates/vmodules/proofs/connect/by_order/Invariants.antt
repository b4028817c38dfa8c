use Rattle.std.proofs.Common.{◌≡◌, ◌≤◌, ◌++◌, List, drop, take, map, length}
use Rattle.vwords.specs.Words.{Text}
use Rattle.vast.specs.NumberedTrees.{tree_of}
use Rattle.vmodules.specs.Connected.{by_places}
use Rattle.vmodules.specs.Inner.{entries_tree, entry_names}
use Rattle.vmodules.proofs.connect.by_order.Given as goal

abbrev pub invariant-loop-place : goal.invariant-loop-place
invariant-loop-place l = record {
  connected : (words : List Text) → entries_tree words l.connected ++ by_places (drop l.place l.names) (map (tree_of words) (drop l.place l.values)) ≡ by_places l.names (map (tree_of words) l.values);
  names : entry_names l.connected ≡ take l.place l.names;
  few : length l.values ≤ length l.names;
}
