use Rattle.std.proofs.Common.{codes}
use Rattle.std.proofs.lemmas.Result.{err_from_is_err_and}
use Rattle.vexpr_parse.specs.Texts.{words_of}
use Rattle.vexpr_parse.specs.Answers.{ahead}
use Rattle.vgrammar.specs.Parts.{other_way, pair}
use Rattle.vgrammar.specs.Statements.{event_of, term, word_only}
use Rattle.vstatement_parse.specs.Gives.{further_terms, names_tree}
use Rattle.vstatement_parse.proofs.StatementTurns.{unclosed, unclosed_too}
use Rattle.vstatement_parse.proofs.events.terms.Goals as goal

pub returns-in_err-symbol-clause-gives : goal.returns-in_err-symbol-clause-gives
returns-in_err-symbol-clause-gives c =
    let words = words_of c.args.tokens.now in
    let left = ahead c.args.tokens.now in
    let p = err_from_is_err_and c.from_residual-in_err-symbol.result c.from_residual-in_err-symbol.ensures.1 in
    rw (p.1, p.2) (unclosed_too (λ terms. event_of (other_way (other_way (other_way terms))))
    (pair (pair term further_terms) (word_only (codes ")"))) (left c.args.cursor.now) (left c.symbol.new.self) c.in_err-symbol.field-0.0
    (unclosed (pair term further_terms) (codes ")") (left c.args.cursor.now) (left c.read_names.new.cursor) (left c.symbol.new.self)
    (names_tree words c.in_ok-names.names) c.in_err-symbol.field-0.0 c.in_ok-names.ensures.gives c.in_err-symbol.ensures.passes))
