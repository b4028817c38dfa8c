use Rattle.vexpr_parse.specs.Texts.{words_of}
use Rattle.vexpr_parse.specs.Answers.{ahead, leaves_ahead}
use Rattle.std.proofs.Common.{not, sym, ap, ◌∙◌, ◌++◌}
use Rattle.vast.specs.StatementTrees.{branch_tree}
use Rattle.vstatement_parse.proofs.CaseTurns.{branch_fewer, so_far_more}
use Rattle.vast.specs.Leaves.{branch_leaves}
use Rattle.vstatement_parse.proofs.KeptLists.{kept_next}
use Rattle.vstatement_parse.proofs.branches.more_branches.Goals as goal

pub branches-smaller : goal.branches-smaller
branches-smaller g c =
    let words = words_of c.args.tokens.now in
    let left = ahead c.args.tokens.now in
    branch_fewer words c.args.below c.requires.some c.branches.branches.items c.branches.seen (left c.branches.cursor) _ c.branches.invariant.read
    (branch_tree words c.in_ok-next.next) (left c.read_branch.new.cursor) c.in_ok-next.ensures.gives

pub branches-preserved : goal.branches-preserved
branches-preserved g c =
    let words = words_of c.args.tokens.now in
    let left = ahead c.args.tokens.now in
    record {
      read =
          so_far_more words c.args.below c.requires.some (left c.branches.cursor) (ap not (sym c.begins.ensures.front ∙ c.branches-test.true))
          c.branches.branches.items c.push-in-branches.new.self.items c.in_ok-next.next (left c.read_branch.new.cursor) _ c.branches.seen
          c.begins_default-default.result c.or-seen.result c.in_ok-push-2.ensures.items c.begins_default-default.ensures c.or-seen.ensures c.in_ok-next.ensures.gives
          c.branches.invariant.read;
      kept =
          kept_next branch_leaves c.branches.branches.items c.push-in-branches.new.self.items c.in_ok-next.next (branch_leaves c.args.first ++ leaves_ahead c.args.tokens.now c.args.cursor.now)
          (leaves_ahead c.args.tokens.now c.branches.cursor) (leaves_ahead c.args.tokens.now c.read_branch.new.cursor)
          c.in_ok-push-2.ensures.items c.in_ok-next.ensures.kept c.branches.invariant.kept;
    }
