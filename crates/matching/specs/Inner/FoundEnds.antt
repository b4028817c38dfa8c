-- *internal*: The ends of a slot, as a search hands them on.
use Rattle.std.specs.Prelude.{◌≡◌, ℕ, List, [], ◌∷◌, ◌++◌, map}
use Rattle.std.proofs.Common.{append-nil, sym}
use Rattle.explore.specs.Ranked.{Closing, pairs_of}
use Rattle.explore.specs.declared.rank_marks.FoundMark.{FoundMark}
use Rattle.matching.specs.declared.budgeted_slot.Budgeted.{Budgeted}
use Rattle.matching.specs.declared.found_ends.FoundEnds.{FoundEnds}

-- the marks of all closings, each with its log
abbrev pub marks_of : {S : Type 0} → List (Closing S) → List (S × List (ℕ × ℕ))
marks_of [] = []
marks_of (c ∷ closings) = c.marks ++ marks_of closings

-- a mark without what its state knows
abbrev pub without_budget : {S : Type 0} → Budgeted S × List (ℕ × ℕ) → S × List (ℕ × ℕ)
without_budget p = (p.0.state, p.1)

-- the ends that were found, each with its log
abbrev pub ends_of : {S : Type 0} → List (FoundMark (Budgeted S)) → List (S × List (ℕ × ℕ))
ends_of found = map without_budget (pairs_of found)

-- These stand behind those that were kept first.
abbrev pub CollectsEnds : {S : Type 0} → FoundEnds S → List (Closing (Budgeted S)) → FoundEnds S → Type 0
CollectsEnds first closings now = pairs_of now.ends.items ≡ pairs_of first.ends.items ++ marks_of closings

pub collects_none : {S : Type 0} (found : FoundEnds S) → CollectsEnds found [] found
collects_none found = sym (append-nil (pairs_of found.ends.items))
