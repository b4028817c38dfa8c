-- *internal*: What several texts make of a byte sink.
use Rattle.std.proofs.Common.{◌≡◌, ℕ, ◌+◌, min, List, ◌++◌, length, take, subst, sym, ◌∙◌, arith}
use Rattle.std.proofs.lemmas.List.{take-append-le, take_min}
use Rattle.std.proofs.Math.Seq.{take-append-add}
use Rattle.basis.specs.declared.memory.OrMemory.{OrMemory}
use Rattle.basis.specs.declared.memory.OrMemory.TheVariants.{Fault, Memory}
use Rattle.byte_sinks.specs.ByteSinks.{IsByteSink, Stopped}

-- a front of a text is one of the text with more behind it
pub take_front : (xs ys : List ℕ) (n : ℕ) → take (min n (length xs)) (xs ++ ys) ≡ take n xs
take_front xs ys n = take-append-le (min n (length xs)) xs ys (omega arith) ∙ take_min n xs

module _ {O F : Type 0} (takes : O → List ℕ → O → Type 0) (fails : O → List ℕ → F → O → Type 0) (laws : IsByteSink takes fails) where
  -- it stopped after a text that was taken
  pub stopped_after : (s t u : O) (xs ys : List ℕ) (fault : OrMemory F) → takes s xs t → Stopped takes fails t ys fault u → Stopped takes fails s (xs ++ ys) fault u
  stopped_after s t u xs ys (Fault fault) p q = laws.fails_later s t u xs ys fault p q
  stopped_after s t u xs ys (Memory m) p (n, q) =
      (length xs + n, subst (λ (text : List ℕ). takes s text u) (sym (take-append-add xs ys n)) (laws.joins s t u xs (take n ys) p q))

  -- it stopped before a text that wasn't come to
  pub stopped_before : (s u : O) (xs ys : List ℕ) (fault : OrMemory F) → Stopped takes fails s xs fault u → Stopped takes fails s (xs ++ ys) fault u
  stopped_before s u xs ys (Fault fault) p = laws.fails_before s u xs ys fault p
  stopped_before s u xs ys (Memory m) (n, p) =
      (min n (length xs), subst (λ (text : List ℕ). takes s text u) (sym (take_front xs ys n)) p)
