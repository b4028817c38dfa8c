use Rattle.vexpr_parse.specs.Texts.{words_of}
use Rattle.vexpr_parse.specs.Answers.{ahead, leaves_ahead}
use Rattle.vstatement_parse.proofs.TargetTurns.{joined_got}
use Rattle.std.proofs.Common.{◌++◌, sym, ap, ◌∙◌}
use Rattle.vast.proofs.LeafRows.{joined_leaves}
use Rattle.vstatement_parse.proofs.targets.target_concatenation.Goals as goal

pub returns-clause-gives : goal.returns-clause-gives
returns-clause-gives g c =
    let words = words_of c.args.tokens.now in
    let left = ahead c.args.tokens.now in
    joined_got words c.args.below c.args.at c.in_ok-targets.targets (left c.args.cursor.now) (left c.targets_within.new.cursor) c.in_ok-targets.ensures.gives

pub returns-clause-kept : goal.returns-clause-kept
returns-clause-kept g c =
    c.in_ok-targets.ensures.kept
    ∙ ap (λ l. l ++ leaves_ahead c.args.tokens.now c.targets_within.new.cursor) (sym (joined_leaves c.args.at c.in_ok-targets.targets))
