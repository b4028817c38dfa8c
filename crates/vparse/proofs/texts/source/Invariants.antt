use Rattle.std.proofs.Common.{◌≡◌, ◌++◌, length, map}
use Rattle.std.specs.List.{flat_map}
use Rattle.vast.specs.Leaves.{module_leaves}
use Rattle.vast.specs.ModuleTrees.{module_tree}
use Rattle.vexpr_parse.specs.Answers.{ahead, leaves_ahead}
use Rattle.vexpr_parse.specs.Texts.{words_of}
use Rattle.vparse.specs.TextReaders.{source}
use Rattle.vparse.specs.ModuleGives.{modules_from}
use Rattle.vparse.proofs.texts.source.Given as goal

-- the modules so far, and those that are read of the words that are left, are all that is read; they keep the tokens that were passed
abbrev pub invariant-modules : goal.invariant-modules
invariant-modules g l = record {
  read :
      modules_from (map (module_tree (words_of l.tokens)) l.modules.items) (ahead l.tokens l.cursor) ≡ source (ahead l.tokens l.fn.cursor);
  kept : leaves_ahead l.tokens l.fn.cursor ≡ flat_map module_leaves l.modules.items ++ leaves_ahead l.tokens l.cursor;
}

abbrev pub decreases-modules : goal.decreases-modules
decreases-modules g l = length (ahead l.tokens l.cursor)
