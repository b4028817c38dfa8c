use Rattle.std.proofs.Common.{◌≡◌, List, Result, Ok, map, sym, ap, subst, ◌∙◌}
use Rattle.vast.specs.NumberedTrees.{argument_tree}
use Rattle.vexpr_parse.specs.Texts.{words_of}
use Rattle.vdesign.specs.declared.print.Piece.{Piece}
use Rattle.vdesign.specs.declared.action.Action.TheVariants.{Print}
use Rattle.velab_expr.specs.declared.fault.ElabFault.{ElabFault}
use Rattle.velab_expr.specs.Answers.{◌>>=◌, Makes}
use Rattle.velab_expr.specs.FirstWords.{first_argument}
use Rattle.velab_expr.specs.Rules.{number_in}
use Rattle.velab_process.specs.Inner.{arguments_at}
use Rattle.velab_process.specs.Prints.{when_of, lower_line}
use Rattle.velab_process.specs.Statements.{Lowered, at_next, lowered_action, with_places_before}
use Rattle.velab_process.proofs.PlacedLemmas.{first_placed}
use Rattle.velab_process.proofs.elaborator.Elaborator.lower_print.Goals as goal

pub returns : goal.returns
returns c =
    let words = words_of c.args.self.now.tokens.now in
    let table = c.args.table.now in
    let path = c.args.self.now.path.now in
    let trees = arguments_at words path c.args.arguments.now in
    let first : c.first_argument.result ≡ number_in (first_argument trees) =
    c.first_argument.ensures words ∙ sym (first_placed path (map (argument_tree words) c.args.arguments.now)) in
    let then : List Piece → Result Lowered ElabFault = λ pieces. Ok (lowered_action table (first_argument trees) (Print (when_of c.args.kind) pieces)) in
    let same : Ok (at_next table c.first_argument.result c.print_action-action.result) ≡ (lower_line c.args.self.now.scope.now c.args.kind trees >>= then) =
    (λ i. Ok (at_next table (first i) (c.print_action-action.ensures i)))
    ∙ sym (ap (λ (a : Result (List Piece) ElabFault). a >>= then) c.in_ok-pieces.ensures) in
    subst (λ (answer : Result Lowered ElabFault). Makes c.put.result (record { table = c.put.new.table; places = c.put.new.into.items }) (with_places_before c.args.into.now.items answer))
    same c.put.ensures
