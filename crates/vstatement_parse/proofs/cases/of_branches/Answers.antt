use Rattle.vstatement_parse.proofs.CaseTurns.{case_made}
use Rattle.vast.proofs.LeafRows.{case_leaves}
use Rattle.vstatement_parse.proofs.cases.of_branches.Goals as goal

pub returns-clause-gives : goal.returns-clause-gives
returns-clause-gives c = λ words. case_made words c.args.at c.args.kind c.args.value c.args.branches

pub returns-clause-kept : goal.returns-clause-kept
returns-clause-kept c = case_leaves c.args.at c.args.kind c.args.value c.args.branches
