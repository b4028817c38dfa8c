use Rattle.vhierarchy.proofs.DesignLemmas.{one_design}
use Rattle.vhierarchy.proofs.NamedLemmas.{named_by}
use Rattle.vhierarchy.proofs.law.elaboration_law.Goals as goal

pub returns-clause-one : goal.returns-clause-one
returns-clause-one c = one_design

pub returns-clause-named : goal.returns-clause-named
returns-clause-named c = named_by
