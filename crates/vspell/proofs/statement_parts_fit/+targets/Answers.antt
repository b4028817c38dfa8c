use Rattle.std.proofs.Common.{◌-◌, ◌&&◌, ap, ◌∙◌}
use Rattle.vast.specs.TokenTexts.{texts}
use Rattle.vast.specs.StatementTrees.{target_trees}
use Rattle.vspell.specs.Within.{targets_stand}
use Rattle.vspell.proofs.FitLemmas.{goes_on, ends_here}
use Rattle.vspell.proofs.StatementFitLemmas.{joined_stands}
use Rattle.vspell.proofs.statement_parts_fit.+targets.Goals as goal

pub target_stands-returns-then-is_some_target : goal.target_stands-returns-then-is_some_target
target_stands-returns-then-is_some_target t c =
    let words = texts c.args.words.now in
    goes_on c.is_some_target.result c.targets_stand.result c.if-is_some_target.true
    ∙ (λ i. c.is_some_target.ensures words i && c.targets_stand.ensures i)
    ∙ joined_stands words c.args.levels c.if-levels-eq0.false c.args.target.now c.in-Joined.at c.in-Joined.targets
    _ _ c.in-Joined.is c.deref-in-Joined.ensures.value c.deref-then-is_some_target.ensures.value

pub target_stands-returns-else-is_some_target : goal.target_stands-returns-else-is_some_target
target_stands-returns-else-is_some_target t c =
    let words = texts c.args.words.now in
    let items = c.deref-in-Joined.result.now in
    let all = targets_stand (c.args.levels - 1) (target_trees words items) in
    ends_here c.is_some_target.result all c.if-is_some_target.false
    ∙ ap (λ b. b && all) (c.is_some_target.ensures words)
    ∙ joined_stands words c.args.levels c.if-levels-eq0.false c.args.target.now c.in-Joined.at c.in-Joined.targets
    items items c.in-Joined.is c.deref-in-Joined.ensures.value c.deref-in-Joined.ensures.value
