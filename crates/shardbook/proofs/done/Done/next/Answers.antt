use Rattle.std.proofs.Common.{subst}
use Rattle.shardbook.specs.Finishes.{HasSuccessors}
use Rattle.shardbook.specs.StoredEntries.{ExpandedEntry, entries_of}
use Rattle.shardbook.proofs.done.Done.next.Goals as goal

pub returns-clause-met : goal.returns-clause-met
returns-clause-met g c = let P : ExpandedEntry g.row.S.Denot → Type 0 = λ d. HasSuccessors g.Q.SearchParameters.rules d.entry.entry (entries_of d.next) in subst P c.self.view_is c.self.invariant
