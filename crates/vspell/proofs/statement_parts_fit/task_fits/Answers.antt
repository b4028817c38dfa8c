use Rattle.std.proofs.Common.{◌&&◌, map, ap, ◌∙◌}
use Rattle.std.specs.List.{list_all}
use Rattle.vast.specs.TokenTexts.{texts}
use Rattle.vast.specs.StatementTrees.{argument_tree}
use Rattle.vspell.specs.Within.{argument_within}
use Rattle.vspell.proofs.FitLemmas.{goes_on, ends_here}
use Rattle.vspell.proofs.StatementFitLemmas.{print_within, idle_within}
use Rattle.vspell.proofs.statement_parts_fit.task_fits.Goals as goal

pub returns-then-print_fits : goal.returns-then-print_fits
returns-then-print_fits c =
    let words = texts c.args.words.now in
    goes_on c.print_fits.result c.arguments_fit.result c.if-print_fits.true
    ∙ (λ i. c.print_fits.ensures words i && c.arguments_fit.ensures i)
    ∙ print_within words c.args.levels c.args.task.now c.in-Print.kind c.in-Print.arguments _ _ c.in-Print.is c.deref.ensures.value
    c.deref-then-print_fits.ensures.value

pub returns-else-print_fits : goal.returns-else-print_fits
returns-else-print_fits c =
    let words = texts c.args.words.now in
    let items = c.deref.result.now in
    let all = list_all (argument_within c.args.levels) (map (argument_tree words) items) in
    ends_here c.print_fits.result all c.if-print_fits.false
    ∙ ap (λ b. b && all) (c.print_fits.ensures words)
    ∙ print_within words c.args.levels c.args.task.now c.in-Print.kind c.in-Print.arguments items items c.in-Print.is c.deref.ensures.value
    c.deref.ensures.value

pub returns-in-Idle : goal.returns-in-Idle
returns-in-Idle c =
    c.arguments_fit-in-Idle.ensures
    ∙ idle_within (texts c.args.words.now) c.args.levels c.args.task.now c.in-Idle.kind c.in-Idle.arguments _ c.in-Idle.is c.deref-in-Idle.ensures.value
