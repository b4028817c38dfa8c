use Rattle.std.proofs.Common.{Result, sym, subst, ◌∙◌}
use Rattle.vast.specs.NumberedTrees.{tree_of}
use Rattle.vast.specs.NumberedWords.{word_of}
use Rattle.vdesign.specs.declared.action.Action.{Action}
use Rattle.vexpr_parse.specs.Texts.{words_of}
use Rattle.velab_expr.specs.declared.fault.ElabFault.{ElabFault}
use Rattle.velab_expr.specs.Answers.{Gives}
use Rattle.velab_process.proofs.ConnectionLemmas.{output_driven}
use Rattle.velab_process.proofs.join.Connector.output_action.Goals as goal

pub returns : goal.returns
returns c =
    let words = words_of c.args.self.now.tokens.now in
    subst (λ (answer : Result Action ElabFault). Gives c.driven_action.result answer)
    (output_driven (word_of words c.args.self.now.whose) c.args.self.now.outer.now c.args.self.now.inner.now (word_of words c.args.port)
    (tree_of words c.args.value.now) (sym (c.is_drivable.ensures words) ∙ c.if-not-is_drivable.false))
    c.driven_action.ensures
