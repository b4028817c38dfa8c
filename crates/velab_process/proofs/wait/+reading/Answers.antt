use Rattle.std.proofs.Common.{◌≡◌, ◌++◌, List, OnOk, refl, ap, subst}
use Rattle.vexpr_parse.specs.Texts.{words_of}
use Rattle.vast.specs.NumberedWords.{Word}
use Rattle.vast.specs.NumberedTrees.{statement_tree}
use Rattle.vdesign.specs.declared.action.Term.{Term}
use Rattle.velab_process.specs.Inner.{inner_read}
use Rattle.velab_process.specs.Waits.{any_of}
use Rattle.velab_process.proofs.BranchLemmas.{case_tree}
use Rattle.velab_process.proofs.WaitLemmas.{block_reads, parts_read}
use Rattle.velab_process.proofs.wait.+reading.Goals as goal

pub put_inner_read-returns-in-Block : goal.put_inner_read-returns-in-Block
put_inner_read-returns-in-Block t c =
    subst (λ (ns : List Word). OnOk c.put_all_read.result (c.put_all_read.new.terms.items ≡ c.args.terms.now.items ++ any_of c.args.scope.now ns))
    (block_reads (words_of c.args.tokens.now) c.args.statement.now c.in-Block.name c.in-Block.statements c.deref.result.now c.in-Block.is c.deref.ensures.value)
    c.put_all_read.ensures

pub put_inner_read-returns-in-Case : goal.put_inner_read-returns-in-Case
put_inner_read-returns-in-Case t c =
    subst (λ (ns : List Word). OnOk c.put_branches.result (c.put_branches.new.terms.items ≡ c.args.terms.now.items ++ any_of c.args.scope.now ns))
    (ap inner_read (case_tree (words_of c.args.tokens.now) c.args.statement.now c.in-Case.at c.in-Case.kind c.in-Case.value c.in-Case.branches
    c.in-Case.value.value c.deref-in-Case.result.now c.in-Case.is refl c.deref-in-Case.ensures.value))
    c.put_branches.ensures

pub put_read-returns : goal.put_read-returns
put_read-returns t c =
    subst (λ (all : List Term). OnOk c.put_inner_read.result (c.put_inner_read.new.terms.items ≡ all))
    (parts_read c.args.scope.now (statement_tree (words_of c.args.tokens.now) c.args.statement.now) c.args.terms.now.items c.put_own_read.new.terms.items c.in_ok-put_own_read.ensures)
    c.put_inner_read.ensures
