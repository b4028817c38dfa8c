use Rattle.std.proofs.Common.{◌≡◌, List, map, length}
use Rattle.report_text.specs.Inner.Ends.{Ended, ended_text, IsEnded, IsEndedBefore}
use Rattle.report_text.proofs.ListLemmas.{HasRead}
use Rattle.report_text.proofs.ends.read_ends.Given as goal

abbrev pub invariant-loop-place : goal.invariant-loop-place
invariant-loop-place l = (all : List Ended) × (record {
  read : HasRead ended_text (IsEnded l.looked l.columns) IsEndedBefore l.count l.fn.reader all l.reader;
  ends : l.ends.items ≡ map (λ e. e.0) all;
  dumps : map (λ dump. dump.now) l.dumps.items ≡ map (λ e. e.1) all;
  len : length all ≡ l.place;
})
