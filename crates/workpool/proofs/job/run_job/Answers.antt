use Rattle.std.proofs.Common.{sym, subst}
use Rattle.workpool.specs.Inner.Works.{IsCounted}
use Rattle.workpool.specs.declared.work.Work.{Work}
use Rattle.workpool.proofs.WorkLemmas.{counted_past, counted_refused, counted_shut}
use Rattle.workpool.proofs.job.run_job.Given.{Over}
use Rattle.workpool.proofs.job.run_job.Goals as goal
use Rattle.workpool.proofs.job.run_job.Goals.{After-shut, in-Some+in-Ok-Some+in-Err-1, in-Some+in-Ok-Some+in-Ok-finish, in-Some+in-Ok-None, in-Some+in-Err, in_default}

-- whatever came of the job, it is the one that is running
running : (g : Over) (c : After-shut g) → IsCounted 1 c.match-at.work
running g c =
    let P : Work g.row.B.Denot → Type 0 = λ w. IsCounted 1 w in
    elim c.match-at.branch [
      | in-Some+in-Ok-Some+in-Err-1 w ↦ subst P (sym w.work-is) (w.insert_all.ensures.counted 1 c.requires.counted)
      | in-Some+in-Ok-Some+in-Ok-finish w ↦ subst P (sym w.work-is) (w.insert_all.ensures.counted 1 c.requires.counted)
      | in-Some+in-Ok-None w ↦ subst P (sym w.work-is) (counted_past 1 w.insert_all.new.work _ (w.insert_all.ensures.counted 1 c.requires.counted))
      | in-Some+in-Err w ↦ subst P (sym w.work-is) (counted_refused 1 w.insert_all.new.work w.in-Err.refused w.stop.new.seat w.stop.ensures (w.insert_all.ensures.counted 1 c.requires.counted))
      | in_default w ↦ subst P (sym w.work-is) c.requires.counted
    ]

pub returns-clause-counted : goal.returns-clause-counted
returns-clause-counted g c = counted_shut c.match-at.work c.shut.new.seat c.shut.ensures (running g c)
