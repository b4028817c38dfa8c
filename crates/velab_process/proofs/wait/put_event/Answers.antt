use Rattle.std.proofs.Common.{◌≡◌, ◌++◌, List, Result, Ok, map, sym, ap, subst, ◌∙◌}
use Rattle.vast.specs.NumberedTrees.{event_tree, further_term, statement_tree}
use Rattle.vast.specs.NumberedWords.{word_of}
use Rattle.vast.specs.declared.statement.Event.{Event}
use Rattle.vast.specs.declared.statement.FurtherTerm.{FurtherTerm}
use Rattle.vdesign.specs.declared.action.Term.{Term}
use Rattle.vexpr_parse.specs.Texts.{words_of}
use Rattle.velab_expr.specs.declared.fault.ElabFault.{ElabFault}
use Rattle.velab_expr.specs.Answers.{◌>>=◌, Makes, behind}
use Rattle.velab_expr.proofs.AnswerLemmas.{goes_behind, hands_on, still_refused}
use Rattle.velab_process.specs.Waits.{edge_of, lower_term, lower_further, lower_control}
use Rattle.velab_process.proofs.WaitLemmas.{refused_behind}
use Rattle.velab_process.proofs.wait.put_event.Goals as goal

pub returns-in_ok-put_edge-in-Terms : goal.returns-in_ok-put_edge-in-Terms
returns-in_ok-put_edge-in-Terms c =
    let words = words_of c.args.tokens.now in
    let scope = c.args.scope.now in
    let done = c.args.terms.now.items in
    let front = lower_term scope (edge_of c.in-Terms.term.edge) (word_of words c.in-Terms.term.name) in
    subst (λ (answer : Result (List Term) ElabFault). Makes c.put_further.result c.put_further.new.terms.items answer)
    (goes_behind done front (lower_further scope (map (further_term words) c.deref.result.now)) c.put_edge.new.terms.items c.in_ok-put_edge-in-Terms.ensures
    ∙ ap (λ (l : List FurtherTerm). behind done (front >>= λ one. lower_further scope (map (further_term words) l) >>= λ others. Ok (one ++ others))) c.deref.ensures.value
    ∙ sym (ap (λ (e : Event). behind done (lower_control scope (event_tree words e) (statement_tree words c.args.body.now))) c.in-Terms.is))
    c.put_further.ensures

pub returns-in_err-put_edge-in-Terms : goal.returns-in_err-put_edge-in-Terms
returns-in_err-put_edge-in-Terms c =
    let words = words_of c.args.tokens.now in
    let scope = c.args.scope.now in
    let done = c.args.terms.now.items in
    let front = lower_term scope (edge_of c.in-Terms.term.edge) (word_of words c.in-Terms.term.name) in
    let answer = behind done (lower_control scope (event_tree words c.args.event.now) (statement_tree words c.args.body.now)) in
    hands_on c.from_residual-in_err-put_edge-in-Terms.result c.in_err-put_edge-in-Terms.field-0.0 c.put_edge.new.terms.items answer c.from_residual-in_err-put_edge-in-Terms.ensures.1
    (still_refused (behind done front) answer
    (λ fault h. ap (λ (e : Event). behind done (lower_control scope (event_tree words e) (statement_tree words c.args.body.now))) c.in-Terms.is
    ∙ refused_behind done front (λ one. lower_further scope (map (further_term words) c.in-Terms.further.items) >>= λ others. Ok (one ++ others)) fault h)
    c.in_err-put_edge-in-Terms.field-0.0 c.in_err-put_edge-in-Terms.ensures)
