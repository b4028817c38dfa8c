use Rattle.std.proofs.Common.{refl, ◌∙◌, arith}
use Rattle.statebook.specs.declared.entry.Entry.{Entry}
use Rattle.explore.specs.declared.rank_book.RankBook.{RankBook}
use Rattle.explore.proofs.RankedLemmas.{none_below}
use Rattle.explore.proofs.RankLoopLemmas.{begins}
use Rattle.explore.proofs.ranked.open_ranked.Goals as goal

pub returns-clause-searching : goal.returns-clause-searching
returns-clause-searching g c =
    let root : Entry g.row.P-State.Denot = record { state = c.in_ok-root.field-0; budget = c.args.limits.now.depart; log = c.new.result; steps = 0 } in
    let empty : RankBook g.row.P-State.Denot = record { rank = c.rank-rank.result; book = c.new-book.result } in
    begins (g.P.Space.rules c.args.space.now) c.args.limits.now (g.P.Ranked.ranks c.args.space.now) g.P.State.PartialEq.eq root _ (record {
      same = c.in_ok-root.ensures;
      budget = refl;
      log = c.new.ensures;
      steps = refl;
      empty = empty;
      nothing = c.new-book.ensures;
      of_rank = c.rank-rank.ensures;
      is_new = c.in_ok-open_in.field-0;
      opens = c.in_ok-open_in.ensures.ok;
      known = c.in_ok-known.ensures.searching;
      none = c.new-later.ensures.items;
      one = omega arith;
    })

pub returns-clause-lowest : goal.returns-clause-lowest
returns-clause-lowest g c =
    none_below (g.P.Space.rules c.args.space.now) (g.P.Ranked.ranks c.args.space.now) (g.met.P.Ranked.ranked c.args.space.now) c.in_ok-root.field-0 c.open_in.new.of_rank.rank c.in_ok-root.ensures
    (c.in_ok-open_in.ensures.ok.rank ∙ c.rank-rank.ensures)
