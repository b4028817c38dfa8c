use Rattle.std.proofs.Common.{◌≡◌, ◌-◌}
use Rattle.vmodel.specs.Touched.{ChangesOnlySince}
use Rattle.vflat.specs.Representations.{rest_in}
use Rattle.vmachine.specs.Runs.{IsHandedBySlot, IsHandedSo, IsRunAt}
use Rattle.vmachine.proofs.machine.Machine.walk.Given as goal

abbrev pub invariant-walk : goal.invariant-walk
invariant-walk g l =
    IsRunAt l.self l.steps l.run
    × (l.run.log.now ≡ l.fn.run.log.now)
    × ((first : g.row.S.Denot) → IsHandedSo g.S.HistorySink.takes l.self l.fn.run first l.fn.sink → IsHandedSo g.S.HistorySink.takes l.self l.run first l.sink)
    × ((first : g.row.S.Denot) → IsHandedBySlot g.S.HistorySink.takes l.self l.fn.run first l.fn.sink → IsHandedBySlot g.S.HistorySink.takes l.self l.run first l.sink)
    × ChangesOnlySince l.touched (g.S.HistorySink.kept l.sink) (rest_in l.run.state).values

abbrev pub decreases-walk : goal.decreases-walk
decreases-walk g l = l.steps - l.run.n
