use Rattle.std.proofs.Common.{◌≡◌, Option, List, Err, map, sym, ap, subst, ◌∙◌}
use Rattle.vast.specs.NumberedTrees.{argument_tree}
use Rattle.vast.specs.NumberedStatements.{ArgumentTree}
use Rattle.vexpr_parse.specs.Texts.{words_of}
use Rattle.vdesign.specs.declared.print.Piece.{Piece}
use Rattle.velab_expr.specs.declared.fault.Rule.TheVariants.{Kind}
use Rattle.velab_expr.specs.Answers.{Refuses, value_or_fault}
use Rattle.velab_expr.specs.FirstWords.{first_argument}
use Rattle.velab_process.specs.Prints.{default_form, ends_line, arguments_given, lower_arguments, lower_line}
use Rattle.vmodules.specs.Placed.{placed_argument}
use Rattle.velab_process.specs.Inner.{Prints, HasOk, arguments_at}
use Rattle.velab_process.proofs.PlacedLemmas.{given_placed, first_placed}
use Rattle.velab_process.proofs.LineLemmas.{line_by, line_refused}
use Rattle.velab_process.proofs.elaborator.Elaborator.pieces.Goals as goal

pub returns-in-Some : goal.returns-in-Some
returns-in-Some c =
    let words = words_of c.args.self.now.tokens.now in
    let path = c.args.self.now.path.now in
    let plain = map (argument_tree words) c.args.arguments.now in
    let trees = arguments_at words path c.args.arguments.now in
    let is_given : arguments_at words path c.without_empty_parentheses.result.now ≡ arguments_given trees = ap (map (placed_argument path)) (c.without_empty_parentheses.ensures words) ∙ given_placed path plain in
    let taken = subst (λ (l : List ArgumentTree). HasOk (lower_arguments c.args.self.now.scope.now l)
    (λ all. Prints c.new-printer.result all c.in_ok-is_right.is_right c.put_arguments.new.printer)) is_given c.in_ok-is_right.ensures in
    line_by (default_form c.args.kind) c.default_form.result (ends_line c.args.kind) c.ends_line.result (lower_arguments c.args.self.now.scope.now (arguments_given trees)) c.in_ok-is_right.is_right c.new-printer.result c.put_arguments.new.printer c.in_ok-pieces.pieces c.right_pieces.result
    (first_argument trees) c.default_form.ensures c.ends_line.ensures c.new-printer.ensures taken c.in_ok-pieces.ensures c.right_pieces.ensures
    ∙ ap (λ (ps : Option (List Piece)). value_or_fault ps Kind (first_argument trees)) c.in-Some.is

pub returns-in-None : goal.returns-in-None
returns-in-None c =
    let words = words_of c.args.self.now.tokens.now in
    let path = c.args.self.now.path.now in
    let plain = map (argument_tree words) c.args.arguments.now in
    let trees = arguments_at words path c.args.arguments.now in
    let is_given : arguments_at words path c.without_empty_parentheses.result.now ≡ arguments_given trees = ap (map (placed_argument path)) (c.without_empty_parentheses.ensures words) ∙ given_placed path plain in
    let taken = subst (λ (l : List ArgumentTree). HasOk (lower_arguments c.args.self.now.scope.now l)
    (λ all. Prints c.new-printer.result all c.in_ok-is_right.is_right c.put_arguments.new.printer)) is_given c.in_ok-is_right.ensures in
    subst (λ fault. Refuses fault (lower_line c.args.self.now.scope.now c.args.kind trees)) (sym c.refusal.ensures)
    (line_by (default_form c.args.kind) c.default_form.result (ends_line c.args.kind) c.ends_line.result (lower_arguments c.args.self.now.scope.now (arguments_given trees)) c.in_ok-is_right.is_right c.new-printer.result c.put_arguments.new.printer c.in_ok-pieces.pieces c.right_pieces.result
    (first_argument trees) c.default_form.ensures c.ends_line.ensures c.new-printer.ensures taken c.in_ok-pieces.ensures c.right_pieces.ensures
    ∙ ap (λ (ps : Option (List Piece)). value_or_fault ps Kind (first_argument trees)) c.in-None.is
    ∙ ap (λ at. Err (record { rule = Kind; at = at })) (sym (c.first_argument.ensures words ∙ sym (first_placed path plain))))

pub returns-in_err-is_right : goal.returns-in_err-is_right
returns-in_err-is_right c =
    let words = words_of c.args.self.now.tokens.now in
    let path = c.args.self.now.path.now in
    line_refused c.args.self.now.scope.now c.args.kind (arguments_at words path c.args.arguments.now) (arguments_at words path c.without_empty_parentheses.result.now)
    c.from_residual.result c.in_err-is_right.field-0.0 c.from_residual.ensures.1
    (ap (map (placed_argument path)) (c.without_empty_parentheses.ensures words) ∙ given_placed path (map (argument_tree words) c.args.arguments.now)) c.in_err-is_right.ensures
