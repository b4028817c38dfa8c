use Rattle.std.proofs.Common.{◌≤◌, List, length, subst}
use Rattle.explore.specs.Inner.RankedSearches.{AreAfter, AreFrom, IsNoRankAt, IsRankAt}
use Rattle.explore.specs.declared.rank_book.RankBook.{RankBook}
use Rattle.explore.proofs.RankBookLemmas.{HasPlaceFor, all_keep_in, all_keep_put}
use Rattle.explore.proofs.rank_book.keep_later.Goals as goal

pub returns-then-has_rank : goal.returns-then-has_rank
returns-then-has_rank g c =
    let R : List (RankBook g.row.S.Denot) → Type 0 = λ l. IsRankAt l c.place_of-place.result c.args.rank in
    record {
      ok = all_keep_in g.S.PartialEq.eq c.args.later.now.items c.place_of-place.result c.args.rank c.index_mut.result.now c.open_in.new.of_rank c.args.entry c.open_in.result c.requires
          (subst R c.deref-2.ensures.value (c.has_rank.ensures.yes c.if-has_rank.true)) c.index_mut.ensures.value c.open_in.ensures.ok;
    }

pub returns-else-has_rank : goal.returns-else-has_rank
returns-else-has_rank g c =
    let A : List (RankBook g.row.S.Denot) → Type 0 = λ l. HasPlaceFor l c.place_of-place.result c.args.rank in
    let R : List (RankBook g.row.S.Denot) → Type 0 = λ l. IsNoRankAt l c.place_of-place.result c.args.rank in
    let L : List (RankBook g.row.S.Denot) → Type 0 = λ l. c.place_of-place.result ≤ length l in
    let B : List (RankBook g.row.S.Denot) → Type 0 = λ l. AreAfter l c.place_of-place.result c.args.rank in
    let F : List (RankBook g.row.S.Denot) → Type 0 = λ l. AreFrom l c.place_of-place.result c.args.rank in
    record {
      ok = all_keep_put g.S.PartialEq.eq c.args.later.now.items c.place_of-place.result c.args.rank c.args.entry c.open_rank.new.later.items c.open_rank.result
          (record {
            order = c.requires;
            within = subst L c.deref.ensures.value c.place_of-place.ensures.within;
            before = subst B c.deref.ensures.value c.place_of-place.ensures.before;
            from = subst F c.deref.ensures.value c.place_of-place.ensures.from;
            none = subst R c.deref-2.ensures.value (c.has_rank.ensures.no c.if-has_rank.false);
          })
          c.open_rank.ensures.ok;
    }
