use Rattle.std.proofs.Common.{◌≡◌, drop}
use Rattle.vexpr_parse.specs.Texts.{words_of}
use Rattle.velab_expr.specs.Answers.{behind}
use Rattle.vhierarchy.specs.Inner.{instantiation_trees, instances_listed}
use Rattle.vhierarchy.proofs.instantiation.put_each.Given as goal

abbrev pub invariant-loop-one : goal.invariant-loop-one
invariant-loop-one l =
    behind (instantiation_trees (words_of l.tokens) l.into.items) (instances_listed (words_of l.tokens) l.offered.child.now l.known l.overrides (drop l.one-index l.list))
    ≡ behind (instantiation_trees (words_of l.tokens) l.initial.into.items) (instances_listed (words_of l.tokens) l.offered.child.now l.known l.overrides l.list)
