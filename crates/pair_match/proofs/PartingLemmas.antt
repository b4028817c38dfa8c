-- A run is explained by two references as one exactly if it is by each; so are the answers of a search.
use Rattle.std.proofs.Common.{◌≡◌, ℕ, ◌-◌, ◌⊎◌, inl, inr, List, Option, Some, None, IfSome, arith, sym, ◌∙◌, subst}
use Rattle.sched_core.specs.Rules.{Rules, stands}
use Rattle.matching.specs.Explained.{Piece, differ_at, latest_time, IsExplained}
use Rattle.matching.specs.Answers.{ClosesTo, Explains, IsNearRun, Refutes, SomeIsExplained}
use Rattle.matching.specs.declared.answer.Explanation.{Explanation}
use Rattle.matching.specs.declared.answer.Unexplained.{Unexplained}
use Rattle.matching.specs.declared.answer.Cut.{Cut}
use Rattle.pair_match.specs.Pairs.{ReadsBoth, next_in, piece_in}
use Rattle.pair_match.specs.Parting.{ClosesBoth, ExplainsBoth, IsExplainedByBoth, PartsBoth, SomeIsExplainedByBoth, WasRead}
use Rattle.pair_match.specs.declared.pair.PairReference.{PairReference}
use Rattle.pair_match.proofs.TimeLemmas.{none_in_both, none_in_first, none_in_second}

module _ {S : Type 0} (r : Rules S) (rank : S → ℕ) (most : ℕ) where
  -- a run shows what another reference shows, where that one differs in nothing wherever the first does
  explained_so : (shown other : ℕ → S → ℕ) → ((v : ℕ) (s : S) → shown v s ≡ 0 → other v s ≡ 0) → (upto : ℕ) (log : List (ℕ × ℕ)) (k : ℕ) →
      IsExplained r rank shown most upto log k → IsExplained r rank other most upto log k
  explained_so shown other so upto log k e = record {
    run = e.run;
    names = e.names;
    mark = e.mark;
    begun = e.begun;
    last = e.last;
    fits = λ j v at le. so v (stands r log j) (e.fits j v at le);
    few = e.few;
  }

  near_so : (shown other : ℕ → S → ℕ) → ((v : ℕ) (s : S) → shown v s ≡ 0 → other v s ≡ 0) → (time : ℕ) (e : Explanation S) →
      IsNearRun r rank shown most time e → IsNearRun r rank other most time e
  near_so shown other so time e (near, at) = (
    record {
      run = near.run;
      names = near.names;
      mark = near.mark;
      begun = near.begun;
      fits = λ j v end lt. so v (stands r e.log j) (near.fits j v end lt);
      few = near.few;
    },
    at,
  )

  module _ {R : Type 0} (piece : R → Piece S) (upcoming : R → Option ℕ) (reads : R → List (Piece S) → R → Type 0) (first now : PairReference R)
      (pieces : List (Piece S)) (h : ReadsBoth piece upcoming reads first pieces now) where
    to_first : (v : ℕ) (s : S) → differ_at (piece_in piece upcoming first) pieces v s ≡ 0 → differ_at (piece first.first) h.of_first v s ≡ 0
    to_first v s none = none_in_first (differ_at (piece first.first) h.of_first v s) (differ_at (piece first.second) h.of_second v s)
        (sym (h.both v s) ∙ none)

    to_second : (v : ℕ) (s : S) → differ_at (piece_in piece upcoming first) pieces v s ≡ 0 → differ_at (piece first.second) h.of_second v s ≡ 0
    to_second v s none = none_in_second (differ_at (piece first.first) h.of_first v s) (differ_at (piece first.second) h.of_second v s)
        (sym (h.both v s) ∙ none)

    -- explained by the two as one is explained by each
    pub by_each : (upto : ℕ) (log : List (ℕ × ℕ)) (k : ℕ) → IsExplained r rank (differ_at (piece_in piece upcoming first) pieces) most upto log k →
        IsExplainedByBoth r rank most (piece first.first) (piece first.second) h.of_first h.of_second upto log k
    by_each upto log k e = (
      explained_so (differ_at (piece_in piece upcoming first) pieces) (differ_at (piece first.first) h.of_first) to_first upto log k e,
      explained_so (differ_at (piece_in piece upcoming first) pieces) (differ_at (piece first.second) h.of_second) to_second upto log k e,
    )

    -- and the other way round
    pub as_one : (upto : ℕ) (log : List (ℕ × ℕ)) (k : ℕ) →
        IsExplainedByBoth r rank most (piece first.first) (piece first.second) h.of_first h.of_second upto log k →
        IsExplained r rank (differ_at (piece_in piece upcoming first) pieces) most upto log k
    as_one upto log k (e, f) = record {
      run = e.run;
      names = e.names;
      mark = e.mark;
      begun = e.begun;
      last = e.last;
      fits = λ j v at le. h.both v (stands r log j) ∙ none_in_both (differ_at (piece first.first) h.of_first v (stands r log j))
          (differ_at (piece first.second) h.of_second v (stands r log j)) (e.fits j v at le) (f.fits j v at le);
      few = e.few;
    }

    abbrev was_read : WasRead upcoming reads first now
    was_read = record {
      of_first = h.of_first;
      of_second = h.of_second;
      read_first = h.read_first;
      read_second = h.read_second;
      ahead_first = h.ahead_first;
      ahead_second = h.ahead_second;
    }

    some_by_each : (upto : ℕ) → SomeIsExplained r rank (differ_at (piece_in piece upcoming first) pieces) most upto →
        SomeIsExplainedByBoth r rank most (piece first.first) (piece first.second) h.of_first h.of_second upto
    some_by_each upto some = record { log = some.log; steps = some.steps; explained = by_each upto some.log some.steps some.explained }

    closed_by_each : (closed : Option ℕ) → IfSome closed (SomeIsExplained r rank (differ_at (piece_in piece upcoming first) pieces) most) →
        IfSome closed (SomeIsExplainedByBoth r rank most (piece first.first) (piece first.second) h.of_first h.of_second)
    closed_by_each None some = tt
    closed_by_each (Some upto) some = some_by_each upto some

    near_each : (shown other : ℕ → S → ℕ) → ((v : ℕ) (s : S) → shown v s ≡ 0 → other v s ≡ 0) → (time : ℕ) (nearest : Option (Explanation S)) →
        IfSome nearest (IsNearRun r rank shown most time) → IfSome nearest (IsNearRun r rank other most time)
    near_each shown other so time None near = tt
    near_each shown other so time (Some e) near = near_so shown other so time e near

  module _ {R : Type 0} (piece : R → Piece S) (upcoming : R → Option ℕ) (reads : R → List (Piece S) → R → Type 0) (done : R → Type 0)
      (first now : PairReference R) where
    pub explains_both : (e : Explanation S) →
        Explains r rank most (piece_in piece upcoming first) (λ pieces. ReadsBoth piece upcoming reads first pieces now)
        (done now.first ⊎ done now.second) e → ExplainsBoth r rank most piece upcoming reads done first now e
    explains_both e x = record {
      read = was_read piece upcoming reads first now x.pieces x.read;
      done = x.done;
      explained = subst (λ (upto : ℕ). IsExplainedByBoth r rank most (piece first.first) (piece first.second) x.read.of_first
          x.read.of_second upto e.log e.steps) (x.read.latest (rank r.first))
          (by_each piece upcoming reads first now x.pieces x.read (latest_time (rank r.first) x.pieces) e.log e.steps x.explained);
      state = x.state;
      fewest = λ log k both. x.fewest log k (as_one piece upcoming reads first now x.pieces x.read (latest_time (rank r.first) x.pieces) log k
          (subst (λ (upto : ℕ). IsExplainedByBoth r rank most (piece first.first) (piece first.second) x.read.of_first x.read.of_second upto
          log k) (sym (x.read.latest (rank r.first))) both));
    }

    pub parts_both : (u : Unexplained S) →
        Refutes r rank most (piece_in piece upcoming first) (λ pieces. ReadsBoth piece upcoming reads first pieces now)
        (next_in upcoming now) u → PartsBoth r rank most piece upcoming reads first now u
    parts_both u x = record {
      read = was_read piece upcoming reads first now x.pieces x.read;
      apart = λ log k both. x.unexplained log k (as_one piece upcoming reads first now x.pieces x.read u.time log k both);
      read_to = omega (arith, x.read_to, x.read.latest (rank r.first));
      ahead = x.ahead;
      ended = λ none. x.ended none ∙ x.read.latest (rank r.first);
      reached = elim x.reached [ inl is ↦ inl is | inr some ↦ inr (some_by_each piece upcoming reads first now x.pieces x.read (u.time - 1) some) ];
      nearest_first = near_each piece upcoming reads first now x.pieces x.read (differ_at (piece_in piece upcoming first) x.pieces)
          (differ_at (piece first.first) x.read.of_first) (to_first piece upcoming reads first now x.pieces x.read) u.time u.nearest x.nearest;
      nearest_second = near_each piece upcoming reads first now x.pieces x.read (differ_at (piece_in piece upcoming first) x.pieces)
          (differ_at (piece first.second) x.read.of_second) (to_second piece upcoming reads first now x.pieces x.read) u.time u.nearest x.nearest;
    }

    pub closes_both : (c : Cut) →
        ClosesTo r rank most (piece_in piece upcoming first) (λ pieces. ReadsBoth piece upcoming reads first pieces now)
        (next_in upcoming now) c → ClosesBoth r rank most piece upcoming reads first now c
    closes_both c x = record {
      read = was_read piece upcoming reads first now x.pieces x.read;
      closed = closed_by_each piece upcoming reads first now x.pieces x.read c.closed x.closed;
      ahead = x.ahead;
      unread = λ none. omega (arith, x.unread none, x.read.latest (rank r.first));
    }
