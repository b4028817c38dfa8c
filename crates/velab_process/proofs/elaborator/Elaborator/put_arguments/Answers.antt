use Rattle.std.proofs.Common.{◌+◌, List, Result, drop, ap, subst}
use Rattle.vast.specs.declared.statement.Argument.{Argument as Written}
use Rattle.vexpr_parse.specs.Texts.{words_of}
use Rattle.format_text.specs.Pieces.{Argument}
use Rattle.velab_expr.specs.declared.fault.ElabFault.{ElabFault}
use Rattle.velab_expr.proofs.ListLemmas.{drop_at}
use Rattle.velab_process.specs.Inner.{argument_at, arguments_at}
use Rattle.velab_process.specs.Prints.{lower_argument, lower_arguments}
use Rattle.velab_process.proofs.LineLemmas.{Continues, goes}
use Rattle.velab_process.proofs.elaborator.Elaborator.put_arguments.Goals as goal

pub loop-one-preserved : goal.loop-one-preserved
loop-one-preserved c =
    let words = words_of c.args.self.now.tokens.now in
    let scope = c.args.self.now.scope.now in
    let path = c.args.self.now.path.now in
    let all = lower_arguments scope (arguments_at words path c.args.arguments.now) in
    let rest = drop (c.loop-one.one-index + 1) c.args.arguments.now in
    goes c.args.printer.now all (lower_argument scope (argument_at words path c.one-item.result)) (lower_arguments scope (arguments_at words path rest))
    c.loop-one.is_right c.in_ok-taken.taken c.loop-one.printer c.put_argument.new.printer
    (subst (λ (left : Result (List Argument) ElabFault). Continues c.args.printer.now all left c.loop-one.is_right c.loop-one.printer)
    (ap (λ (l : List Written). lower_arguments scope (arguments_at words path l)) (drop_at c.args.arguments.now c.loop-one.one-index c.one-item.result c.loop-one-test.true c.one-item.is))
    c.loop-one.invariant)
    c.in_ok-taken.ensures
