use Rattle.vcompile.proofs.StepLemmas.{begins_along, steps_along, passes_along, resumes_along, stays_along}
use Rattle.vcompile.proofs.HeardLemmas.{hears_all, hears_only}
use Rattle.vcompile.proofs.OperandLemmas.{operand_is}
use Rattle.vcompile.proofs.law.code_law.Goals as goal

pub returns-clause-linked : goal.returns-clause-linked
returns-clause-linked c = record { begins = begins_along; steps = steps_along; passes = passes_along; resumes = resumes_along; stays = stays_along }

pub returns-clause-hears : goal.returns-clause-hears
returns-clause-hears c = record { all = hears_all; only = hears_only }

pub returns-clause-operands : goal.returns-clause-operands
returns-clause-operands c = operand_is
