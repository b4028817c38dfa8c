use Rattle.std.specs.Prelude.{reverse}
use Rattle.std.proofs.Common.{◌≡◌, ◌≤◌, true, false, vec_len, vec_capacity}
use Rattle.shardbook.specs.StoredEntries.{entries_of}
use Rattle.statebook.specs.Ways.{SomeRunExceeds}
use Rattle.workpool.specs.Inner.Works.{IsSamePlace, IsSeated, StaysCounted}
use Rattle.workpool.proofs.WorkLemmas.{HasLastSuccessors}
use Rattle.workpool.proofs.job.insert_all.Given as goal

abbrev pub invariant-loop-met : goal.invariant-loop-met
invariant-loop-met g l = record {
  seated : IsSeated l.tally l.work;
  counted : StaysCounted l.fn.work l.work;
  same : IsSamePlace l.fn.work l.work;
  noted : l.work.past ≡ l.fn.work.past;
  met : l.within ≡ true → HasLastSuccessors (g.P.Space.rules l.space) l.entry l.count l.met (entries_of (reverse l.next.items));
  room : vec_len l.next ≤ l.met;
  capacity : l.count ≤ vec_capacity l.next;
  past : l.within ≡ false → SomeRunExceeds (g.P.Space.rules l.space) l.limits;
}
