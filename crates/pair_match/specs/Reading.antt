-- *internal*: What two references show as one before anything is read, and of equal states.
use Rattle.std.specs.Prelude.{◌≡◌, ℕ, List, [], Option, refl}
use Rattle.std.proofs.Common.{arith, max}
use Rattle.std.proofs.lemmas.Option.{none-some}
use Rattle.matching.specs.Answers.{DiffersAlike}
use Rattle.matching.specs.Explained.{Piece}
use Rattle.pair_match.specs.Pairs.{ReadsBoth, piece_in, together}
use Rattle.pair_match.specs.declared.pair.PairReference.{PairReference}

greatest_of_one : (v : ℕ) → v ≡ max v v
greatest_of_one v = omega arith

pub nothing_read : {R S : Type 0} (piece : R → Piece S) (upcoming : R → Option ℕ) (reads : R → List (Piece S) → R → Type 0) →
    ((me : R) → reads me [] me) → (me : PairReference R) → ReadsBoth piece upcoming reads me [] me
nothing_read piece upcoming reads none me = record {
  of_first = [];
  of_second = [];
  read_first = none me.first;
  read_second = none me.second;
  both = λ v s. refl;
  latest = greatest_of_one;
  ahead_first = λ i p at. absurd (none-some p at);
  ahead_second = λ i p at. absurd (none-some p at);
  last_first = refl;
  last_second = refl;
  come = omega arith;
}

pub alike_in : {R S : Type 0} (piece : R → Piece S) (upcoming : R → Option ℕ) (Same : S → S → Type 0) →
    ((me : R) → DiffersAlike Same (piece me)) → (me : PairReference R) → DiffersAlike Same (piece_in piece upcoming me)
alike_in piece upcoming Same alike me s t same = λ i. together (alike me.first s t same i) (alike me.second s t same i)
