use Rattle.std.proofs.Common.{◌≡◌, ◌++◌, drop, map}
use Rattle.vast.specs.TokenTexts.{texts}
use Rattle.vspell.specs.Spellings.{texts_of}
use Rattle.vspell.specs.Inner.{paths_words}
use Rattle.vast.specs.StatementTrees.{path_tree}
use Rattle.vspell.proofs.statement_parts_spelling.put_paths.Given as goal

abbrev pub invariant-loop-path : goal.invariant-loop-path
invariant-loop-path l =
    texts_of l.out.items ++ paths_words (map (path_tree (texts l.words)) (drop l.path-index l.paths))
    ≡ texts_of l.initial.out.items ++ paths_words (map (path_tree (texts l.words)) l.paths)
