use Rattle.std.proofs.Common.{List, sym, ◌∙◌, subst}
use Rattle.statebook.specs.declared.entry.Entry.{Entry}
use Rattle.shardbook.specs.Finishes.{HasSuccessors}
use Rattle.shardbook.specs.EntryRules.{IsWanted}
use Rattle.shardbook.specs.StoredEntries.{StoredEntry, entries_of}
use Rattle.shardbook.proofs.scan.is_done.Goals as goal

pub returns : goal.returns
returns g c = λ among.
    let P : Entry g.row.S.Denot → Type 0 = λ e. IsWanted g.Q.SearchParameters.rules g.Q.SearchParameters.depart g.Q.SearchParameters.steps e in
    let M : StoredEntry g.row.S.Denot → Type 0 = λ s. HasSuccessors g.Q.SearchParameters.rules s.entry (entries_of c.in-Some.done.now.next) in
    let N : List (StoredEntry g.row.S.Denot) → Type 0 = λ next. HasSuccessors g.Q.SearchParameters.rules c.args.seen.now.entry (entries_of next) in
    record {
      wanted = subst P c.kept_at.ensures.entry c.kept_at.ensures.wanted;
      next = c.next.result.now;
      met = subst N (sym c.next.ensures.same) (subst M (sym c.entry-2.ensures ∙ c.agree.ensures) c.next.ensures.met);
      inside = c.are_among.ensures among;
    }
