use Rattle.std.proofs.Common.{drop, sym, ap, ◌∙◌}
use Rattle.vmodel.specs.ProcessSets.{members}
use Rattle.vmodel.specs.Queue.{without_process}
use Rattle.vmodel.proofs.ProcessLemmas.{without_first}
use Rattle.vmodel.proofs.BitLemmas.{members_rise}
use Rattle.vmodel.proofs.process_set.ProcessSet.take_first.Goals as goal

pub returns-clause-rest : goal.returns-clause-rest
returns-clause-rest c =
    c.remove.ensures
    ∙ sym (ap (without_process c.in_ok-process.process) c.self.view_is)
    ∙ without_first 0 c.in_ok-process.process (members c.self.inside.low c.self.inside.high) (members_rise c.self.inside.low c.self.inside.high)
    (sym c.in_ok-process.ensures.exact)
    ∙ ap (drop 1) c.self.view_is
