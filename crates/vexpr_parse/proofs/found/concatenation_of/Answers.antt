use Rattle.std.proofs.Common.{refl}
use Rattle.vast.proofs.LeafRows.{concatenation_leaves}
use Rattle.vast.proofs.ExpressionLemmas.{tree_of_concatenation}
use Rattle.vexpr_parse.proofs.found.concatenation_of.Goals as goal

pub returns-clause-made : goal.returns-clause-made
returns-clause-made c = λ words. (tree_of_concatenation words c.args.at c.args.parts.trees, refl)

pub returns-clause-kept : goal.returns-clause-kept
returns-clause-kept c = concatenation_leaves c.args.at c.args.parts.trees
