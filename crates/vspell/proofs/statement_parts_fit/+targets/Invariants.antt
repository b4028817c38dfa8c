use Rattle.std.proofs.Common.{◌≡◌, drop}
use Rattle.vast.specs.TokenTexts.{texts}
use Rattle.vast.specs.StatementTrees.{target_trees}
use Rattle.vspell.specs.Within.{targets_stand}
use Rattle.vspell.proofs.statement_parts_fit.+targets.Given as goal

abbrev pub invariant-targets_stand-loop-target : goal.invariant-targets_stand-loop-target
invariant-targets_stand-loop-target l =
    targets_stand l.levels (target_trees (texts l.words) (drop l.target-index l.targets)) ≡ targets_stand l.levels (target_trees (texts l.words) l.targets)
