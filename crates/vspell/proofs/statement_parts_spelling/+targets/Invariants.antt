use Rattle.std.proofs.Common.{◌≡◌, ◌++◌, drop}
use Rattle.vast.specs.TokenTexts.{texts}
use Rattle.vast.specs.Statements.{spell_targets}
use Rattle.vast.specs.StatementTrees.{target_trees}
use Rattle.vspell.specs.Spellings.{texts_of}
use Rattle.vspell.specs.Inner.{targets_from}
use Rattle.vspell.proofs.statement_parts_spelling.+targets.Given as goal

abbrev pub invariant-put_targets-loop-target : goal.invariant-put_targets-loop-target
invariant-put_targets-loop-target l =
    texts_of l.out.items ++ targets_from l.first (target_trees (texts l.words) (drop l.target-index l.targets))
    ≡ texts_of l.initial.out.items ++ spell_targets (target_trees (texts l.words) l.targets)
