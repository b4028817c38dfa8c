-- What the collector that keeps all has taken.
use Rattle.std.proofs.Common.{◌≡◌, [], ◌∷◌, ◌++◌, Result, Ok, Err, OnErr, ap, ◌∙◌, append_assoc}
use Rattle.std.proofs.lemmas.List.{map-append}
use Rattle.sched_core.specs.declared.grid.Square.{Square}
use Rattle.explore.specs.Ranked.{CollectsMore, StaysAs, closing_of}
use Rattle.explore_bench.specs.Kept.{CollectsAll, closings_of}
use Rattle.explore.specs.declared.rank_marks.RankMarks.{RankMarks}
use Rattle.explore_bench.specs.declared.kept.KeptMarks.{KeptMarks}

-- one rank more
pub collects_more : (old new : KeptMarks) (closed : RankMarks Square) → new.ranks.items ≡ old.ranks.items ++ closed ∷ [] → CollectsMore CollectsAll old (closing_of closed) new
collects_more old new closed is = λ first closings kept.
    ap closings_of is ∙ map-append closing_of old.ranks.items (closed ∷ []) ∙ ap (λ l. l ++ closing_of closed ∷ []) kept ∙ append_assoc (closings_of first.ranks.items) closings (closing_of closed ∷ [])

-- no more was kept
pub collects_same : {U E : Type 0} (old new : KeptMarks) (result : Result U E) → new.ranks.items ≡ old.ranks.items → OnErr result (StaysAs CollectsAll old new)
collects_same old new (Ok u) same = tt
collects_same old new (Err e) same = λ first closings kept. ap closings_of same ∙ kept
