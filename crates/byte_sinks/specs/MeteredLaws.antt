-- *internal*: What several texts make of a writer.
use Rattle.std.proofs.Common.{ℕ, ◌+◌, min, List, [], ◌++◌, length, take, Option, None, Some, refl, sym, ap, ◌∙◌, append_assoc}
use Rattle.std.specs.Io.KnownBytes.{Appends}
use Rattle.std.proofs.lemmas.List.{append-nil}
use Rattle.std.proofs.Math.Seq.{take-append-add}
use Rattle.byte_sinks.specs.declared.metered.Metered.{Metered}
use Rattle.basis.specs.declared.memory.OrMemory.{OrMemory}
use Rattle.basis.specs.declared.memory.OrMemory.TheVariants.{Fault, Memory}
use Rattle.byte_sinks.specs.declared.fault.WriteFault.{WriteFault}
use Rattle.byte_sinks.specs.Metered.{Grows, Stops, Written, Broken, count_after}
use Rattle.byte_sinks.specs.ByteSinks.{IsByteSink, Stopped}
use Rattle.byte_sinks.specs.ByteSinkLaws.{take_front}

appends_none : (c : Option (List ℕ)) → Appends c c []
appends_none None = tt
appends_none (Some xs) = sym (append-nil xs)

appends_joins : (a b c : Option (List ℕ)) (xs ys : List ℕ) → Appends a b xs → Appends b c ys → Appends a c (xs ++ ys)
appends_joins None b c xs ys p q = tt
appends_joins (Some ws) None c xs ys p q = absurd p
appends_joins (Some ws) (Some bs) None xs ys p q = absurd q
appends_joins (Some ws) (Some bs) (Some cs) xs ys p q = q ∙ ap (λ (zs : List ℕ). zs ++ ys) p ∙ append_assoc ws xs ys

pub grows_none : {W : Type 0} (contents : W → Option (List ℕ)) (m : Metered W) → Grows contents m m []
grows_none contents m = (appends_none (contents m.inner), refl)

pub grows_joins : {W : Type 0} (contents : W → Option (List ℕ)) (a b c : Metered W) (xs ys : List ℕ) → Grows contents a b xs → Grows contents b c ys →
    Grows contents a c (xs ++ ys)
grows_joins contents a b c xs ys p q = (appends_joins (contents a.inner) (contents b.inner) (contents c.inner) xs ys p.0 q.0, q.1 ∙ p.1)

-- the fault comes after a text that was written
pub stops_after : {W : Type 0} (contents : W → Option (List ℕ)) (a b c : Metered W) (xs ys : List ℕ) (fault : OrMemory WriteFault) → Grows contents a b xs →
    Stops contents b c ys fault → Stops contents a c (xs ++ ys) fault
stops_after contents a b c xs ys fault p q =
    let whole : Appends (contents a.inner) (contents c.inner) (xs ++ take q.0.0 ys) =
    appends_joins (contents a.inner) (contents b.inner) (contents c.inner) xs (take q.0.0 ys) p.0 q.0.1 in
    let place : ℕ = length xs + q.0.0 in
    let written : Appends (contents a.inner) (contents c.inner) (take place (xs ++ ys)) = rw (take-append-add xs ys q.0.0) whole in
    ((place, written), q.1 ∙ ap (count_after fault) p.1)

-- the fault comes before a text that wasn't come to
pub stops_before : {W : Type 0} (contents : W → Option (List ℕ)) (a b : Metered W) (xs ys : List ℕ) (fault : OrMemory WriteFault) → Stops contents a b xs fault →
    Stops contents a b (xs ++ ys) fault
stops_before contents a b xs ys fault p =
    let place : ℕ = min p.0.0 (length xs) in
    let written : Appends (contents a.inner) (contents b.inner) (take place (xs ++ ys)) = rw (take_front xs ys p.0.0) p.0.1 in
    ((place, written), p.1)

-- a writer is a byte sink
pub metered_laws : {W : Type 0} (contents : W → Option (List ℕ)) → IsByteSink (Written contents) (Broken contents)
metered_laws contents = record {
  none = grows_none contents;
  joins = grows_joins contents;
  fails_later = λ s t u xs ys fault. stops_after contents s t u xs ys (Fault fault);
  fails_before = λ s u xs ys fault. stops_before contents s u xs ys (Fault fault);
}

-- where a writer stopped as a byte sink, it stopped so
pub stops_of : {W : Type 0} (contents : W → Option (List ℕ)) (a b : Metered W) (text : List ℕ) (fault : OrMemory WriteFault) →
    Stopped (Written contents) (Broken contents) a text fault b → Stops contents a b text fault
stops_of contents a b text (Fault fault) p = p
stops_of contents a b text (Memory m) (n, p) = ((n, p.0), p.1)
