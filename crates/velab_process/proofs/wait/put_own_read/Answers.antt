use Rattle.std.proofs.Common.{◌≡◌, ◌++◌, List, OnOk, refl, ap, subst}
use Rattle.vexpr_parse.specs.Texts.{words_of}
use Rattle.vast.specs.NumberedWords.{Word}
use Rattle.velab_process.specs.Inner.{own_read}
use Rattle.velab_process.specs.Waits.{any_of}
use Rattle.velab_process.proofs.BranchLemmas.{case_tree}
use Rattle.velab_process.proofs.wait.put_own_read.Goals as goal

pub returns-in-Case : goal.returns-in-Case
returns-in-Case c =
    subst (λ (ns : List Word). OnOk c.put_names-in-Case.result (c.put_names-in-Case.new.terms.items ≡ c.args.terms.now.items ++ any_of c.args.scope.now ns))
    (ap own_read (case_tree (words_of c.args.tokens.now) c.args.statement.now c.in-Case.at c.in-Case.kind c.in-Case.value c.in-Case.branches
    c.deref-in-Case.result.now c.in-Case.branches.items c.in-Case.is c.deref-in-Case.ensures refl))
    c.put_names-in-Case.ensures
