use Rattle.std.proofs.Common.{subst}
use Rattle.statebook.specs.declared.entry.Entry.{Entry}
use Rattle.shardbook.specs.Inner.Scans.{IsStart}
use Rattle.shardbook.proofs.ClosingLemmas.{closing}
use Rattle.shardbook.proofs.book.Book.closed.Goals as goal

pub returns : goal.returns
returns g c = λ done r known.
    let P : Entry g.row.S.Denot → Type 0 = λ e. IsStart e in
    closing r g.Q.SearchParameters.depart g.Q.SearchParameters.steps c.args.all.now g.Q.SearchParameters.rules known (c.are_done.ensures done) c.args.root.now
    (subst P c.read.ensures.same (c.is_start.ensures.0 c.if-not-is_start.false))
    (c.is_among.ensures c.if-not-is_among.false)
