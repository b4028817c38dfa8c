use Rattle.std.proofs.Common.{◌≡◌, ◌++◌, OnOk, subst}
use Rattle.vast.specs.NumberedStatements.{TargetTree}
use Rattle.vexpr_parse.specs.Texts.{words_of}
use Rattle.velab_process.specs.Waits.{any_of, read_by_target}
use Rattle.velab_expr.proofs.TargetLemmas.{joined_is}
use Rattle.velab_process.proofs.wait.+indexing.Goals as goal

pub put_target-returns-in-Joined : goal.put_target-returns-in-Joined
put_target-returns-in-Joined t c =
    subst (λ (tree : TargetTree). OnOk c.put_targets.result (c.put_targets.new.terms.items ≡ c.args.terms.now.items ++ any_of c.args.scope.now (read_by_target tree)))
    (joined_is (words_of c.args.tokens.now) c.args.target.now c.in-Joined.at c.in-Joined.targets c.deref-in-Joined.result.now c.in-Joined.is c.deref-in-Joined.ensures.value)
    c.put_targets.ensures
