-- The marks of entries that are taken one after another.
use Rattle.std.proofs.Common.{◌≡◌, ℕ, ◌+◌, Bool, true, false, List, [], ◌∷◌, ◌++◌, length, length-append, slice_get, Some, append_assoc, append-nil, arith, ap, sym, ◌∙◌, subst}
use Rattle.std.specs.List.{IsDistinct}
use Rattle.std.specs.Map.{keys_of}
use Rattle.std.proofs.lemmas.Option.{slice_get_within}
use Rattle.indexmap.specs.IndexMap.{insert_entry}
use Rattle.sched_core.specs.Rules.{Rules, IsLawful}
use Rattle.statebook.specs.Books.{Book, IsUndominated}
use Rattle.statebook.specs.ExplorerCore.{IsEntry}
use Rattle.statebook.specs.declared.entry.Entry.{Entry}
use Rattle.statebook.specs.declared.limits.Limits.{Limits}
use Rattle.statebook.proofs.ReachLemmas.{middle}
use Rattle.explore.specs.BookFindings.{ListsExactly}
use Rattle.explore.specs.Found.{AreFound}
use Rattle.explore.proofs.MarkLemmas.{MarksUpTo, marks_more, marks_read, marks_skip}

-- the marks are read of those entries that stand before the ones that are left
pub record MarksBefore {S : Type 0} (r : Rules S) (limits : Limits) (entries left : List (Entry S)) (marks : List (S × List (ℕ × ℕ))) : Type 0 where
  pub front : List (Entry S)
  pub whole : front ++ left ≡ entries
  pub read : MarksUpTo r limits entries (length front) marks

-- all are left
pub none_taken : {S : Type 0} (r : Rules S) (limits : Limits) (entries left : List (Entry S)) (marks : List (S × List (ℕ × ℕ))) → left ≡ entries → marks ≡ [] → MarksBefore r limits entries left marks
none_taken {S} r limits entries left marks all none =
    let P : List (S × List (ℕ × ℕ)) → Type 0 = λ l. MarksBefore r limits entries left l in
    subst P (sym none) (record {
      front = [];
      whole = all;
      read = record { found = λ j p at. absurd cc; each = λ i e lt at mark. absurd (omega (arith, lt)); best = λ j p at. absurd cc };
    })

-- the first of those that are left stands behind the others
there : {S : Type 0} (entries front left rest : List (Entry S)) (x : Entry S) → front ++ left ≡ entries → left ≡ x ∷ rest → slice_get entries (length front) ≡ Some x
there entries front left rest x whole first = ap (λ l. slice_get l (length front)) (sym whole ∙ ap (λ l. front ++ l) first) ∙ middle front rest x

-- it is taken
taken : {S : Type 0} (entries front left rest : List (Entry S)) (x : Entry S) → front ++ left ≡ entries → left ≡ x ∷ rest → (front ++ x ∷ []) ++ rest ≡ entries
taken entries front left rest x whole first = append_assoc front (x ∷ []) rest ∙ ap (λ l. front ++ l) (sym first) ∙ whole

one_longer : {X : Type 0} (front : List X) (x : X) → length front + 1 ≡ length (front ++ x ∷ [])
one_longer front x = sym (length-append front (x ∷ []))

-- it is no mark
pub mark_skipped : {S : Type 0} (r : Rules S) → IsLawful r → (limits : Limits) (entries left rest : List (Entry S)) (marks : List (S × List (ℕ × ℕ))) (x : Entry S) → MarksBefore r limits entries left marks → left ≡ x ∷ rest → r.mark x.state ≡ false → MarksBefore r limits entries rest marks
mark_skipped {S} r law limits entries left rest marks x m first plain =
    let P : ℕ → Type 0 = λ n. MarksUpTo r limits entries n marks in
    record {
      front = m.front ++ x ∷ [];
      whole = taken entries m.front left rest x m.whole first;
      read = subst P (one_longer m.front x) (marks_skip r law limits entries (length m.front) marks x m.read (there entries m.front left rest x m.whole first) plain);
    }

-- it is a mark
pub mark_noted : {S : Type 0} (r : Rules S) → IsLawful r → (limits : Limits) (eq : S → S → Bool) → ((s t : S) → r.same s t ≡ eq s t) → (entries : List (Entry S)) → IsUndominated eq entries → ((i : ℕ) (e : Entry S) → slice_get entries i ≡ Some e → IsEntry r limits.depart limits.steps e) → (left rest : List (Entry S)) (marks after : List (S × List (ℕ × ℕ))) (x : Entry S) → MarksBefore r limits entries left marks → left ≡ x ∷ rest → r.mark x.state ≡ true → IsDistinct eq (keys_of after) → after ≡ insert_entry eq marks x.state x.log → MarksBefore r limits entries rest after
mark_noted {S} r law limits eq agree entries u sound left rest marks after x m first mark apart is =
    let P : ℕ → Type 0 = λ n. MarksUpTo r limits entries n after in
    record {
      front = m.front ++ x ∷ [];
      whole = taken entries m.front left rest x m.whole first;
      read = subst P (one_longer m.front x)
          (marks_more r law limits eq agree entries u sound (length m.front) marks after x x.state x.log m.read (there entries m.front left rest x m.whole first) mark (law.reflexive x.state) (λ i. x.log) apart is);
    }

-- none is left
pub all_taken : {S : Type 0} (r : Rules S) (limits : Limits) (b : Book S) (left : List (Entry S)) (marks : List (S × List (ℕ × ℕ))) → MarksBefore r limits b.entries left marks → left ≡ [] → ListsExactly r b marks
all_taken r limits b left marks m none =
    let front : m.front ≡ b.entries = sym (append-nil m.front) ∙ ap (λ l. m.front ++ l) (sym none) ∙ m.whole in
    let count : length m.front ≡ length b.entries = ap length front in
    marks_read r limits b (length m.front) marks m.read (λ i e at. omega (arith, count, slice_get_within b.entries i e at))

-- what was read are marks
pub taken_found : {S : Type 0} (r : Rules S) (limits : Limits) (entries left : List (Entry S)) (marks : List (S × List (ℕ × ℕ))) → MarksBefore r limits entries left marks → AreFound r limits marks
taken_found r limits entries left marks m = m.read.found
