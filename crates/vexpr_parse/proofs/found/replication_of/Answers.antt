use Rattle.std.proofs.Common.{◌+◌, ◌++◌, ap, ◌∙◌}
use Rattle.std.specs.List.{flat_map}
use Rattle.vast.specs.Expressions.{replication}
use Rattle.vast.specs.ExpressionTrees.{tree_of, trees_of}
use Rattle.vast.specs.Leaves.{leaves_of}
use Rattle.vast.proofs.LeafRows.{replication_leaves}
use Rattle.vast.proofs.ExpressionLemmas.{tree_of_replication}
use Rattle.vexpr_parse.proofs.found.replication_of.Goals as goal

pub returns-clause-made : goal.returns-clause-made
returns-clause-made c = λ words. (
  tree_of_replication words c.args.at c.in_ok-new.field-0 c.args.parts.trees
      ∙ ap (λ e. replication (tree_of words e) (trees_of words c.args.parts.trees.items)) c.in_ok-new.ensures.ok,
  ap (λ n. 1 + n) c.larger.ensures,
)

pub returns-clause-kept : goal.returns-clause-kept
returns-clause-kept c =
    replication_leaves c.args.at c.in_ok-new.field-0 c.args.parts.trees
    ∙ ap (λ e. leaves_of e ++ flat_map leaves_of c.args.parts.trees.items) c.in_ok-new.ensures.ok
