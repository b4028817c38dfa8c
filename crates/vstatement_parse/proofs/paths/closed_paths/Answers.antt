use Rattle.std.proofs.Common.{codes}
use Rattle.std.proofs.lemmas.Result.{err_from_is_err_and}
use Rattle.vexpr_parse.specs.Texts.{words_of}
use Rattle.vexpr_parse.specs.Answers.{ahead}
use Rattle.vstatement_parse.specs.Gives.{all_paths, paths_at}
use Rattle.vstatement_parse.proofs.StatementTurns.{unclosed}
use Rattle.vstatement_parse.proofs.paths.closed_paths.Goals as goal

pub returns-in_err-symbol-clause-gives : goal.returns-in_err-symbol-clause-gives
returns-in_err-symbol-clause-gives c =
    let words = words_of c.args.tokens.now in
    let left = ahead c.args.tokens.now in
    let p = err_from_is_err_and c.from_residual-in_err-symbol.result c.from_residual-in_err-symbol.ensures.1 in
    rw (p.1, p.2) (unclosed paths_at (codes ")") (left c.args.cursor.now) (left c.paths.new.cursor) (left c.symbol.new.self)
    (all_paths words c.in_ok-paths.paths) c.in_err-symbol.field-0.0 c.in_ok-paths.ensures.gives c.in_err-symbol.ensures.passes)
