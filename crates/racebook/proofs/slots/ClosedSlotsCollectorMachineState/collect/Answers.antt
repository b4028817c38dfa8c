use Rattle.std.proofs.lemmas.Result.{on_err_weaker, on_ok_weaker}
use Rattle.explore.specs.Ranked.{pairs_of}
use Rattle.racebook.proofs.ClosedLemmas.{collects_more, collects_no_more, collects_same}
use Rattle.racebook.proofs.slots.ClosedSlotsCollectorMachineState.collect.Goals as goal

pub returns-in_err-found-clause-err : goal.returns-in_err-found-clause-err
returns-in_err-found-clause-err c = collects_no_more c.args.self.now c.from_residual.result

pub returns-clause-ok : goal.returns-clause-ok
returns-clause-ok c =
    on_ok_weaker c.put.result
    (λ put. collects_more c.args.self.now c.put.new.self (record { rank = c.args.closed.rank; marks = pairs_of c.args.closed.marks.items }) c.in_ok-found.found c.in_ok-found.ensures put) c.put.ensures.ok

pub returns-clause-err : goal.returns-clause-err
returns-clause-err c = on_err_weaker c.put.result (λ same. collects_same c.args.self.now c.put.new.self same) c.put.ensures.err
