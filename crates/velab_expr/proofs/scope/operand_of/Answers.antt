use Rattle.std.proofs.Common.{Option, subst, sym, ◌∙◌}
use Rattle.vast.specs.NumberedWords.{word_of}
use Rattle.vexpr_parse.specs.Texts.{words_of}
use Rattle.velab_expr.specs.Answers.{Gives}
use Rattle.velab_expr.specs.Scopes.{operand_by}
use Rattle.velab_expr.specs.declared.scope.Meaning.{Meaning}
use Rattle.velab_expr.proofs.scope.operand_of.Goals as goal

pub returns-in-Some : goal.returns-in-Some
returns-in-Some c =
    let words = words_of c.args.tokens.now in
    subst (λ (m : Option Meaning). Gives c.operand_in.result (operand_by c.args.fixed c.args.scope.now.known (word_of words c.args.token) m))
    (sym c.in-Some.is ∙ c.meaning_of.ensures) (c.operand_in.ensures words)
