use Rattle.vdesign.specs.Expressions.{ExpressionTree}
use Rattle.vvalue.specs.Value.{Environment}
use Rattle.expression_code.specs.Shapes.{AreShaped, reads}
use Rattle.expression_code.proofs.ShapeLemmas.{AreLike, reads_shaped, like_read}
use Rattle.expression_code.proofs.CodeLemmas.{in_context, by_itself_is, right_side_is, delay_is}
use Rattle.expression_code.proofs.GuardLemmas.{expression_is, right_side_guarded}
use Rattle.expression_code.proofs.law.expression_code_law.Goals as goal

like : (now : Environment) (tree : ExpressionTree) → AreShaped now.variables now.values → AreLike now (reads tree)
like now tree shaped = like_read now tree (reads_shaped now.variables now.values tree shaped)

pub returns-clause-context : goal.returns-clause-context
returns-clause-context c = λ now tree here shaped. in_context now tree here (like now tree shaped)

pub returns-clause-reads : goal.returns-clause-reads
returns-clause-reads c = λ now tree here shaped. in_context now tree here (like_read now tree shaped)

pub returns-clause-itself : goal.returns-clause-itself
returns-clause-itself c = λ now tree shaped. by_itself_is now tree (like now tree shaped)

pub returns-clause-right_side : goal.returns-clause-right_side
returns-clause-right_side c = λ now count tree shaped. right_side_is now count tree (like now tree shaped)

pub returns-clause-delay : goal.returns-clause-delay
returns-clause-delay c = λ now amount shaped. delay_is now amount (like now amount shaped)

pub returns-clause-guarded : goal.returns-clause-guarded
returns-clause-guarded c = λ now tree v h. expression_is now tree v h

pub returns-clause-guarded_right_side : goal.returns-clause-guarded_right_side
returns-clause-guarded_right_side c = λ now targets tree v h. right_side_guarded now targets tree v h
