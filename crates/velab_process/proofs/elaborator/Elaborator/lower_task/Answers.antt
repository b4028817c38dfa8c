use Rattle.std.proofs.Common.{List, sym, ap, subst, ◌∙◌}
use Rattle.vast.specs.NumberedStatements.{TaskTree, print}
use Rattle.vast.specs.declared.statement.Argument.{Argument}
use Rattle.vast.specs.declared.statement.Task.{Task}
use Rattle.vexpr_parse.specs.Texts.{words_of}
use Rattle.velab_expr.specs.Answers.{Makes}
use Rattle.velab_process.specs.Inner.{arguments_at, task_at}
use Rattle.velab_process.specs.Statements.{with_places_before, lower_task}
use Rattle.velab_process.proofs.elaborator.Elaborator.lower_task.Goals as goal

pub returns-in-Print : goal.returns-in-Print
returns-in-Print c =
    let words = words_of c.args.self.now.tokens.now in
    let path = c.args.self.now.path.now in
    subst (λ (task : TaskTree). Makes c.lower_print.result (record { table = c.lower_print.new.table; places = c.lower_print.new.into.items })
    (with_places_before c.args.into.now.items (lower_task c.args.self.now.scope.now c.args.table.now task)))
    (ap (λ (l : List Argument). print c.in-Print.kind (arguments_at words path l)) c.deref.ensures.value ∙ sym (ap (λ (t : Task). task_at words path t) c.in-Print.is))
    c.lower_print.ensures
