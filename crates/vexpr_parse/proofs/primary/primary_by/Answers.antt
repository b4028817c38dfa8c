use Rattle.std.proofs.Common.{sym, ◌∙◌}
use Rattle.vexpr_parse.specs.Answers.{leaf_here, leaves_ahead, found_leaves}
use Rattle.vexpr_parse.proofs.Kept.{kept_behind}
use Rattle.vexpr_parse.proofs.LeafWords.{no_kept_leaf, round_leads}
use Rattle.vexpr_parse.proofs.primary.primary_by.Goals as goal

pub returns-in_ok-enter-in-Round-clause-kept : goal.returns-in_ok-enter-in-Round-clause-kept
returns-in_ok-enter-in-Round-clause-kept g c =
    let leaves = leaves_ahead c.args.tokens.now in
    let here = leaf_here c.args.tokens.now c.args.cursor.now in
    let word = c.args.word in
    kept_behind found_leaves c.round.result (leaves c.args.cursor.now) here (leaves c.enter.new.self) (leaves c.round.new.cursor)
    (no_kept_leaf word.text.now word.token here c.requires.leaf
    (round_leads word.text.now c.in-Round.kind (sym c.beginning_of.ensures ∙ c.in-Round.is)))
    c.in_ok-enter-in-Round.ensures.kept c.round.ensures.kept
