use Rattle.std.proofs.Common.{arith, ap}
use Rattle.crossbeam_deque.specs.Handles.{worker_view, view}
use Rattle.workpool.specs.Jobs.{Owned, Robbed}
use Rattle.workpool.specs.declared.hand.Hand.{Hand}
use Rattle.workpool.proofs.FairLemmas.{joins, learns, settles}
use Rattle.workpool.proofs.deque.settle.Goals as goal

pub absorb-requires-clause-rule : goal.absorb-requires-clause-rule
absorb-requires-clause-rule c = joins _ _ _ _ (omega (arith, c.owner.invariant.1))

pub len_as-left-requires : goal.len_as-left-requires
len_as-left-requires c =
    let parts = ap (λ (v : Hand). v.parts) c.absorb.ensures.rule in
    learns _ _ (omega (arith, parts, c.owner.invariant.1, c.thief.invariant.1))

pub returns-clause-settled : goal.returns-clause-settled
returns-clause-settled c =
    let rule = c.len_as-left.ensures.rule in
    record {
      left = rule.0;
      counted = rule.1;
      fair = settles (worker_view c.absorb.new.self) (worker_view c.owner.inside.worker) (view c.thief.inside.pass) c.args.owner.put c.args.owner.taken c.args.thief.taken rule.0
          c.absorb.ensures.rule c.thief.invariant.2 (ap (λ (o : Owned). o.put) c.owner.view_is) (ap (λ (o : Owned). o.taken) c.owner.view_is) (ap (λ (t : Robbed). t.taken) c.thief.view_is) rule.2;
    }
