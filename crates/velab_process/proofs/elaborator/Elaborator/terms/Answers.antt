use Rattle.std.proofs.Common.{List, Result, sym, subst}
use Rattle.vast.specs.NumberedTrees.{event_tree, statement_tree}
use Rattle.vdesign.specs.declared.action.Term.{Term}
use Rattle.vexpr_parse.specs.Texts.{words_of}
use Rattle.velab_expr.specs.declared.fault.ElabFault.{ElabFault}
use Rattle.velab_expr.specs.Answers.{Gives}
use Rattle.velab_process.proofs.PlacedLemmas.{control_placed}
use Rattle.velab_process.proofs.elaborator.Elaborator.terms.Goals as goal

pub returns : goal.returns
returns c =
    let words = words_of c.args.self.now.tokens.now in
    subst (λ (answer : Result (List Term) ElabFault). Gives c.event_terms.result answer)
    (sym (control_placed c.args.self.now.path.now c.args.self.now.scope.now (event_tree words c.args.control.now) (statement_tree words c.args.body.now)))
    c.event_terms.ensures
