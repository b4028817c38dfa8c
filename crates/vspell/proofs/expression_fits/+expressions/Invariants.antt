use Rattle.std.proofs.Common.{◌≡◌, drop}
use Rattle.vast.specs.TokenTexts.{texts}
use Rattle.vast.specs.ExpressionTrees.{trees_of}
use Rattle.vspell.specs.Within.{all_stand}
use Rattle.vspell.proofs.expression_fits.+expressions.Given as goal

abbrev pub invariant-parts_stand-loop-part : goal.invariant-parts_stand-loop-part
invariant-parts_stand-loop-part l =
    all_stand l.levels (trees_of (texts l.words) (drop l.part-index l.parts)) ≡ all_stand l.levels (trees_of (texts l.words) l.parts)
