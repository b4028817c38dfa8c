use Rattle.matching.proofs.FoundLemmas.{collects_more, collects_same}
use Rattle.matching.proofs.found_ends.FoundEndsCollectorBudgeted.collect.Goals as goal

pub returns-clause-ok : goal.returns-clause-ok
returns-clause-ok g c =
    collects_more c.args.self.now (record { ends = c.append.new.self; candidates = c.args.self.now.candidates }) c.args.closed
    c.in_ok-append.ensures.items

pub returns-in_err-append-clause-err : goal.returns-in_err-append-clause-err
returns-in_err-append-clause-err g c =
    collects_same c.args.self.now (record { ends = c.append.new.self; candidates = c.args.self.now.candidates }) c.from_residual.result
    c.in_err-append.ensures.items
