use Rattle.std.proofs.Common.{◌≡◌, ◌++◌, drop}
use Rattle.vast.specs.TokenTexts.{texts}
use Rattle.vast.specs.Statements.{spell_statements, spell_branches}
use Rattle.vast.specs.StatementTrees.{statement_trees, branch_trees}
use Rattle.vspell.specs.Spellings.{texts_of}
use Rattle.vspell.proofs.statement_spelling.+statements.Given as goal

abbrev pub invariant-put_statements-loop-statement : goal.invariant-put_statements-loop-statement
invariant-put_statements-loop-statement l =
    texts_of l.out.items ++ spell_statements (statement_trees (texts l.words) (drop l.statement-index l.statements))
    ≡ texts_of l.initial.out.items ++ spell_statements (statement_trees (texts l.words) l.statements)

abbrev pub invariant-put_branches-loop-branch : goal.invariant-put_branches-loop-branch
invariant-put_branches-loop-branch l =
    texts_of l.out.items ++ spell_branches (branch_trees (texts l.words) (drop l.branch-index l.branches))
    ≡ texts_of l.initial.out.items ++ spell_branches (branch_trees (texts l.words) l.branches)
