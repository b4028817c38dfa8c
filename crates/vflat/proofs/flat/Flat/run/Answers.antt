use Rattle.std.proofs.Common.{refl}
use Rattle.basis.proofs.Results.{on_ok}
use Rattle.vflat.proofs.RowLemmas.{ran_row}
use Rattle.vflat.proofs.flat.Flat.run.Goals as goal

pub returns-in-Some-row-clause-ok : goal.returns-in-Some-row-clause-ok
returns-in-Some-row-clause-ok c =
    on_ok c.run_row.result
    (λ after. ran_row c.args.design.now c.args.code.now c.args.process c.in-Some.frame c.in-Some.action.now c.in-Some-row.row.form c.in-Some-row.row.next.now c.args.self.now
    c.run_row.new.self c.run_row.new.effect c.run_row.new.monitors.items c.in-Some.ensures.0 c.in-Some.ensures.1 (c.in-Some-row.ensures c.in-Some-row.row refl) after)
    c.run_row.ensures.ok
