-- *internal*: What the collector that keeps all the marks of a board was handed.
use Rattle.std.specs.Prelude.{◌≡◌, List, [], ◌++◌, map}
use Rattle.std.proofs.Common.{append-nil, sym}
use Rattle.sched_core.specs.declared.grid.Square.{Square}
use Rattle.explore.specs.Ranked.{Closing, closing_of}
use Rattle.explore.specs.declared.rank_marks.RankMarks.{RankMarks}
use Rattle.explore_bench.specs.declared.kept.KeptMarks.{KeptMarks}

-- So of each rank.
abbrev pub closings_of : List (RankMarks Square) → List (Closing Square)
closings_of ranks = map closing_of ranks

-- These stand behind those that were kept first.
abbrev pub CollectsAll : KeptMarks → List (Closing Square) → KeptMarks → Type 0
CollectsAll first closings now = closings_of now.ranks.items ≡ closings_of first.ranks.items ++ closings

pub collects_none : (kept : KeptMarks) → CollectsAll kept [] kept
collects_none kept = sym (append-nil (closings_of kept.ranks.items))
