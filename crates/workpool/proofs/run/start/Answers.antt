use Rattle.basis.proofs.Results.{on_err}
use Rattle.workpool.proofs.JoinLemmas.{root_started, still_unopened}
use Rattle.workpool.proofs.run.start.Goals as goal

pub returns-clause-ready : goal.returns-clause-ready
returns-clause-ready g c =
    root_started (g.P.Space.rules c.args.space.now) c.args.limits.now c.args.tally.now c.args.works.now.items c.pop.new.self.items c.push_reserved.new.self.items c.in-Some.work c.insert_root-met.new.work
    c.in-Some.ensures.items c.push_reserved.ensures.items c.requires.ready c.insert_root-met.ensures.counted c.insert_root-met.ensures.same c.insert_root-met.ensures.past

pub returns-clause-unmet : goal.returns-clause-unmet
returns-clause-unmet g c = on_err c.insert_root-met.result (λ e same.
    still_unopened c.args.works.now.items c.pop.new.self.items c.push_reserved.new.self.items c.in-Some.work c.insert_root-met.new.work c.in-Some.ensures.items c.push_reserved.ensures.items same) c.insert_root-met.ensures.refused
