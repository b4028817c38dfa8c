-- *internal*: What counts the bytes of texts.
use Rattle.std.proofs.Common.{◌≡◌, ◌≤◌, ◌^◌, ℕ, ◌+◌, min, List, ◌++◌, length, take, length-append, subst, sym, arith}
use Rattle.std.proofs.Math.Seq.{take-append-add}
use Rattle.byte_sinks.specs.declared.counter.Counter.{Counter}
use Rattle.byte_sinks.specs.declared.fault.TooMany.{TooMany}
use Rattle.byte_sinks.specs.ByteSinks.{IsByteSink}
use Rattle.byte_sinks.specs.ByteSinkLaws.{take_front}

-- it counted the text's bytes
abbrev pub Counts : Counter → List ℕ → Counter → Type 0
Counts old text new = new.count ≡ old.count + length text

-- the count with the text's bytes doesn't fit 64 bits; those of a front of the text were counted
abbrev pub IsFull : Counter → List ℕ → TooMany → Counter → Type 0
IsFull old text fault new = (2 ^ 64 ≤ old.count + length text) × ((n : ℕ) × Counts old (take n text) new)

counts_joins : (s t u : Counter) (xs ys : List ℕ) → Counts s xs t → Counts t ys u → Counts s (xs ++ ys) u
counts_joins s t u xs ys p q = omega (arith, length-append xs ys, p, q)

full_later : (s t u : Counter) (xs ys : List ℕ) (fault : TooMany) → Counts s xs t → IsFull t ys fault u → IsFull s (xs ++ ys) fault u
full_later s t u xs ys fault p (full, (n, q)) =
    let counted : Counts s (take (length xs + n) (xs ++ ys)) u =
    subst (λ (text : List ℕ). Counts s text u) (sym (take-append-add xs ys n)) (counts_joins s t u xs (take n ys) p q) in
    (omega (arith, length-append xs ys, p, full), (length xs + n, counted))

full_before : (s u : Counter) (xs ys : List ℕ) (fault : TooMany) → IsFull s xs fault u → IsFull s (xs ++ ys) fault u
full_before s u xs ys fault (full, (n, p)) =
    let counted : Counts s (take (min n (length xs)) (xs ++ ys)) u =
    subst (λ (text : List ℕ). Counts s text u) (sym (take_front xs ys n)) p in
    (omega (arith, length-append xs ys, full), (min n (length xs), counted))

pub counter_laws : IsByteSink Counts IsFull
counter_laws = record { none = λ s. omega arith; joins = counts_joins; fails_later = full_later; fails_before = full_before }
