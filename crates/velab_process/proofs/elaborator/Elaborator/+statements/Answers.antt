use Rattle.std.proofs.Common.{◌≡◌, ◌+◌, true, None, List, Result, drop, sym, ap, subst, ◌∙◌}
use Rattle.vexpr_parse.specs.Texts.{words_of}
use Rattle.vast.specs.NumberedStatements.{StatementTree, for_loop}
use Rattle.vast.specs.NumberedTrees.{tree_of, target_tree}
use Rattle.vast.specs.declared.statement.Statement.{Statement}
use Rattle.vast.specs.declared.statement.Branch.{Branch}
use Rattle.velab_expr.specs.declared.fault.ElabFault.{ElabFault}
use Rattle.velab_expr.specs.Answers.{Makes}
use Rattle.vmodules.specs.Placed.{placed}
use Rattle.velab_process.specs.Inner.{statement_at, statements_at, branch_at, branches_at, lower_loop}
use Rattle.velab_expr.proofs.ListLemmas.{drop_at}
use Rattle.velab_process.specs.Statements.{Lowered, with_places_before, with_branches_before, lower_assignment, lower_statement, lower_all, lower_branch, lower_branches}
use Rattle.velab_process.proofs.BranchLemmas.{case_tree, branch_put}
use Rattle.velab_process.proofs.StatementLemmas.{block_trees, statement_put}
use Rattle.velab_process.proofs.elaborator.Elaborator.+statements.Goals as goal

pub lower-returns-in-Block : goal.lower-returns-in-Block
lower-returns-in-Block t c =
    let path = c.args.self.now.path.now in
    subst (λ (s : StatementTree). Makes c.lower_block.result (record { table = c.lower_block.new.table; places = c.lower_block.new.into.items })
    (with_places_before c.args.into.now.items (lower_statement c.args.self.now.scope.now c.args.table.now (placed path s))))
    (block_trees (words_of c.args.self.now.tokens.now) c.args.statement.now c.in-Block.name c.in-Block.statements c.deref.result.now c.in-Block.is c.deref.ensures.value)
    c.lower_block.ensures

pub lower_control_flow-returns-in-Case : goal.lower_control_flow-returns-in-Case
lower_control_flow-returns-in-Case t c =
    let path = c.args.self.now.path.now in
    subst (λ (s : StatementTree). Makes c.lower_case.result (record { table = c.lower_case.new.table; places = c.lower_case.new.into.items })
    (with_places_before c.args.into.now.items (lower_statement c.args.self.now.scope.now c.args.table.now (placed path s))))
    (case_tree (words_of c.args.self.now.tokens.now) c.args.statement.now c.in-Case.at c.in-Case.kind c.in-Case.value c.in-Case.branches
    c.deref-in-Case-2.result.now c.deref-in-Case.result.now c.in-Case.is c.deref-in-Case-2.ensures c.deref-in-Case.ensures.value)
    c.lower_case.ensures

pub lower_all-loop-statement-preserved : goal.lower_all-loop-statement-preserved
lower_all-loop-statement-preserved t c =
    let words = words_of c.args.self.now.tokens.now in
    let scope = c.args.self.now.scope.now in
    let path = c.args.self.now.path.now in
    let rest = drop (c.loop-statement.statement-index + 1) c.args.statements.now in
    statement_put c.loop-statement.into.items (λ table. lower_all scope table (statements_at words path rest))
    (lower_statement scope c.loop-statement.table (statement_at words path c.statement-item.result))
    c.lower.new.table c.lower.new.into.items c.in_ok-lower.ensures
    ∙ ap (λ (l : List Statement). with_places_before c.loop-statement.into.items (lower_all scope c.loop-statement.table (statements_at words path l)))
    (sym (drop_at c.args.statements.now c.loop-statement.statement-index c.statement-item.result c.loop-statement-test.true c.statement-item.is))
    ∙ c.loop-statement.invariant

pub lower_branches-loop-branch-preserved : goal.lower_branches-loop-branch-preserved
lower_branches-loop-branch-preserved t c =
    let words = words_of c.args.self.now.tokens.now in
    let scope = c.args.self.now.scope.now in
    let path = c.args.self.now.path.now in
    let rest = drop (c.loop-branch.branch-index + 1) c.args.branches.now in
    branch_put c.loop-branch.into.items c.loop-branch.otherwise.items (λ table. lower_branches scope table (branches_at words path rest))
    (lower_branch scope c.loop-branch.table (branch_at words path c.branch-item.result))
    c.lower_branch.new.table c.lower_branch.new.into.items c.lower_branch.new.otherwise.items c.in_ok-lower_branch.ensures
    ∙ ap (λ (l : List Branch). with_branches_before c.loop-branch.into.items c.loop-branch.otherwise.items (lower_branches scope c.loop-branch.table (branches_at words path l)))
    (sym (drop_at c.args.branches.now c.loop-branch.branch-index c.branch-item.result c.loop-branch-test.true c.branch-item.is))
    ∙ c.loop-branch.invariant

pub lower_control_flow-returns-in_ok-lower_assignment-in-For : goal.lower_control_flow-returns-in_ok-lower_assignment-in-For
lower_control_flow-returns-in_ok-lower_assignment-in-For t c =
    let words = words_of c.args.self.now.tokens.now in
    let scope = c.args.self.now.scope.now in
    let path = c.args.self.now.path.now in
    let into = c.args.into.now.items in
    let target = target_tree words c.in-For.target in
    let next = target_tree words c.in-For.next_target in
    let value = tree_of words c.deref-in-For.result.now in
    let body = statement_at words path c.deref-in-For-2.result.now in
    let condition = tree_of words c.deref-in-For-3.result.now in
    let last = tree_of words c.deref-in-For-4.result.now in
    let tree : for_loop target value condition next last body ≡ statement_at words path c.args.statement.now =
    (λ i. for_loop target (tree_of words (c.deref-in-For.ensures i)) (tree_of words (c.deref-in-For-3.ensures i)) next (tree_of words (c.deref-in-For-4.ensures i)) (statement_at words path (c.deref-in-For-2.ensures i)))
    ∙ sym (ap (λ (s : Statement). statement_at words path s) c.in-For.is) in
    subst (λ (s : StatementTree). Makes c.lower_loop.result (record { table = c.lower_loop.new.table; places = c.lower_loop.new.into.items })
    (with_places_before into (lower_statement scope c.args.table.now s))) tree
    (subst (λ (answer : Result Lowered ElabFault). Makes c.lower_loop.result (record { table = c.lower_loop.new.table; places = c.lower_loop.new.into.items }) answer)
    (statement_put into (λ table. lower_loop scope table condition body next last) (lower_assignment true scope c.args.table.now target None value)
    c.lower_assignment.new.table c.lower_assignment.new.into.items c.in_ok-lower_assignment-in-For.ensures)
    c.lower_loop.ensures)
