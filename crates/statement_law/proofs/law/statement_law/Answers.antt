use Rattle.statement_law.proofs.StepLemmas.{begins_before, follows_trees, follows_places}
use Rattle.statement_law.proofs.ProcessLemmas.{items_stand}
use Rattle.statement_law.proofs.RunLemmas.{steps_by_trees, stays_else, stands_throughout}
use Rattle.statement_law.proofs.DesignLemmas.{design_begins, stands_by_text}
use Rattle.statement_law.proofs.law.statement_law.Goals as goal

pub returns-clause-begins : goal.returns-clause-begins
returns-clause-begins c = begins_before

pub returns-clause-trees : goal.returns-clause-trees
returns-clause-trees c = follows_trees

pub returns-clause-places : goal.returns-clause-places
returns-clause-places c = follows_places

pub returns-clause-items : goal.returns-clause-items
returns-clause-items c = items_stand

pub returns-clause-steps : goal.returns-clause-steps
returns-clause-steps c = steps_by_trees

pub returns-clause-stays : goal.returns-clause-stays
returns-clause-stays c = stays_else

pub returns-clause-runs : goal.returns-clause-runs
returns-clause-runs c = stands_throughout

pub returns-clause-design : goal.returns-clause-design
returns-clause-design c = design_begins

pub returns-clause-text : goal.returns-clause-text
returns-clause-text c = stands_by_text
