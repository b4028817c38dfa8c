use Rattle.std.proofs.Common.{map}
use Rattle.vast.specs.NumberedTrees.{further_term}
use Rattle.vast.specs.NumberedWords.{word_of}
use Rattle.vexpr_parse.specs.Texts.{words_of}
use Rattle.velab_expr.specs.Answers.{behind}
use Rattle.velab_expr.proofs.AnswerLemmas.{hands_on, still_refused}
use Rattle.velab_process.specs.Waits.{edge_of, lower_term, lower_further}
use Rattle.velab_process.proofs.WaitLemmas.{further_put, further_refused}
use Rattle.velab_process.proofs.wait.put_further.Goals as goal

pub loop-one-preserved : goal.loop-one-preserved
loop-one-preserved c =
    further_put (words_of c.args.tokens.now) c.args.scope.now c.loop-one.rest.now c.in-Some.behind.now c.in-Some.one.now c.in-Some.ensures.cases.0
    c.loop-one.terms.items _ c.loop-one.invariant c.put_further_term.new.terms.items c.in_ok-put_further_term.ensures

pub returns-in_err-put_further_term : goal.returns-in_err-put_further_term
returns-in_err-put_further_term c =
    let words = words_of c.args.tokens.now in
    let scope = c.args.scope.now in
    let all = behind c.args.terms.now.items (lower_further scope (map (further_term words) c.args.further.now)) in
    hands_on c.from_residual.result c.in_err-put_further_term.field-0.0 c.put_further_term.new.terms.items all c.from_residual.ensures.1
    (still_refused (behind c.loop-one.terms.items (lower_term scope (edge_of c.in-Some.one.now.term.edge) (word_of words c.in-Some.one.now.term.name))) all
    (further_refused words scope c.loop-one.rest.now c.in-Some.behind.now c.in-Some.one.now c.in-Some.ensures.cases.0 c.loop-one.terms.items all c.loop-one.invariant)
    c.in_err-put_further_term.field-0.0 c.in_err-put_further_term.ensures)
