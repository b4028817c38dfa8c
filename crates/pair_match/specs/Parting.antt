-- *product rule*: What an answer says of the runs of a space and of two references. A run is explained by both up to a time where it is by each
-- (`IsExplained` of `matching`).
use Rattle.std.specs.Prelude.{◌≡◌, ℕ, ◌-◌, ◌≤◌, ◌⊎◌, true, max, List, ◌++◌, length, Option, None, IfSome}
use Rattle.sched_core.specs.Rules.{Rules, stands}
use Rattle.matching.specs.Explained.{Piece, differ_at, latest_time, IsExplained}
use Rattle.matching.specs.Answers.{IsLater, IsNearRun}
use Rattle.matching.specs.declared.answer.Explanation.{Explanation}
use Rattle.matching.specs.declared.answer.Unexplained.{Unexplained}
use Rattle.matching.specs.declared.answer.Cut.{Cut}
use Rattle.pair_match.specs.Pairs.{IsBehind, next_in}
use Rattle.pair_match.specs.declared.pair.PairReference.{PairReference}

-- What was read of each. Both were read to one time, also where one has ended: what comes next in each of them is later than all that was read.
pub record WasRead {R S : Type 0} (upcoming : R → Option ℕ) (reads : R → List (Piece S) → R → Type 0) (first now : PairReference R) : Type 0 where
  pub of_first : List (Piece S)
  pub of_second : List (Piece S)
  pub read_first : reads first.first of_first now.first
  pub read_second : reads first.second of_second now.second
  pub ahead_first : IsBehind (of_first ++ of_second) (upcoming now.first)
  pub ahead_second : IsBehind (of_first ++ of_second) (upcoming now.second)

-- the later of the last times of both, or a time that is later
abbrev pub last_time : {S : Type 0} → ℕ → List (Piece S) → List (Piece S) → ℕ
last_time v one other = max (latest_time v one) (latest_time v other)

-- The run is explained by both up to the time: by the pieces of the one behind what it shows first, and by those of the other.
abbrev pub IsExplainedByBoth : {S : Type 0} → Rules S → (S → ℕ) → ℕ → Piece S → Piece S → List (Piece S) → List (Piece S) → ℕ →
    List (ℕ × ℕ) → ℕ → Type 0
IsExplainedByBoth r rank most p q one other upto log k =
    IsExplained r rank (differ_at p one) most upto log k × IsExplained r rank (differ_at q other) most upto log k

-- some run is
pub record SomeIsExplainedByBoth {S : Type 0} (r : Rules S) (rank : S → ℕ) (most : ℕ) (p q : Piece S) (one other : List (Piece S))
    (upto : ℕ) : Type 0 where
  pub log : List (ℕ × ℕ)
  pub steps : ℕ
  pub explained : IsExplainedByBoth r rank most p q one other upto log steps

-- One of the two was read to its end. The run under the log is explained by both up to the last time that was read, and no other that is has
-- fewer departures.
pub record ExplainsBoth {R S : Type 0} (r : Rules S) (rank : S → ℕ) (most : ℕ) (piece : R → Piece S) (upcoming : R → Option ℕ)
    (reads : R → List (Piece S) → R → Type 0) (Ended : R → Type 0) (first now : PairReference R) (e : Explanation S) : Type 0 where
  pub read : WasRead upcoming reads first now
  pub done : Ended now.first ⊎ Ended now.second
  pub explained : IsExplainedByBoth r rank most (piece first.first) (piece first.second) read.of_first read.of_second
      (last_time (rank r.first) read.of_first read.of_second) e.log e.steps
  pub state : r.same e.state (stands r e.log e.steps) ≡ true
  pub fewest : (log : List (ℕ × ℕ)) (k : ℕ) →
      IsExplainedByBoth r rank most (piece first.first) (piece first.second) read.of_first read.of_second
      (last_time (rank r.first) read.of_first read.of_second) log k → length e.log ≤ length log

-- No run is explained by what was read of both up to the time. Nothing behind it was read. Where neither has ended, all of both up to it was;
-- where one has, it is the last time that was read, or the time at which runs open. It is the time at which runs open, or some run is explained by both up to the time before. The nearest is a run that comes near the
-- time for both.
pub record PartsBoth {R S : Type 0} (r : Rules S) (rank : S → ℕ) (most : ℕ) (piece : R → Piece S) (upcoming : R → Option ℕ)
    (reads : R → List (Piece S) → R → Type 0) (first now : PairReference R) (u : Unexplained S) : Type 0 where
  pub read : WasRead upcoming reads first now
  pub apart : (log : List (ℕ × ℕ)) (k : ℕ) →
      IsExplainedByBoth r rank most (piece first.first) (piece first.second) read.of_first read.of_second u.time log k → ⊥
  pub read_to : last_time (rank r.first) read.of_first read.of_second ≤ u.time
  pub ahead : IsLater (next_in upcoming now) u.time
  pub ended : next_in upcoming now ≡ None → u.time ≡ last_time (rank r.first) read.of_first read.of_second
  pub reached : (u.time ≡ rank r.first) ⊎
      SomeIsExplainedByBoth r rank most (piece first.first) (piece first.second) read.of_first read.of_second (u.time - 1)
  pub nearest_first : IfSome u.nearest (IsNearRun r rank (differ_at (piece first.first) read.of_first) most u.time)
  pub nearest_second : IfSome u.nearest (IsNearRun r rank (differ_at (piece first.second) read.of_second) most u.time)

-- Up to the time that was closed some run is explained by both; where neither has ended, all pieces of both up to it were read. Where no time
-- was closed, none was read behind the time at which runs open.
pub record ClosesBoth {R S : Type 0} (r : Rules S) (rank : S → ℕ) (most : ℕ) (piece : R → Piece S) (upcoming : R → Option ℕ)
    (reads : R → List (Piece S) → R → Type 0) (first now : PairReference R) (c : Cut) : Type 0 where
  pub read : WasRead upcoming reads first now
  pub closed : IfSome c.closed
      (SomeIsExplainedByBoth r rank most (piece first.first) (piece first.second) read.of_first read.of_second)
  pub ahead : IfSome c.closed (IsLater (next_in upcoming now))
  pub unread : c.closed ≡ None → last_time (rank r.first) read.of_first read.of_second ≤ rank r.first
