-- What one `write` makes of a writer, and what the rest of a text does then.
use Rattle.std.proofs.Common.{◌≡◌, ◌<◌, ℕ, zero, suc, List, [], ◌∷◌, ◌++◌, length, take, drop, Option, None, Some, Ok, sym, ap, ◌∙◌, arith}
use Rattle.std.specs.Io.KnownBytes.{Keeps, Appends}
use Rattle.std.proofs.lemmas.List.{append-nil, take-append-drop}
use Rattle.byte_sinks.specs.declared.metered.Metered.{Metered}
use Rattle.basis.specs.declared.memory.OrMemory.{OrMemory}
use Rattle.basis.specs.declared.memory.OrMemory.TheVariants.{Fault}
use Rattle.byte_sinks.specs.declared.fault.WriteFault.{WriteFault}
use Rattle.byte_sinks.specs.declared.fault.WriteFault.TheVariants.{Write}
use Rattle.byte_sinks.specs.Metered.{Grows, Stops, count_after_call, is_failed_write, one_more}
use Rattle.byte_sinks.specs.MeteredLaws.{grows_none, grows_joins, stops_after}

keeps_is_nothing : (a b : Option (List ℕ)) → Keeps a b → Appends a b []
keeps_is_nothing None b k = tt
keeps_is_nothing (Some xs) None k = absurd k
keeps_is_nothing (Some xs) (Some ys) k = k ∙ sym (append-nil xs)

-- the writer answered with an error
pub stops_by_error : {W : Type 0} (contents : W → Option (List ℕ)) (old new : Metered W) (piece : List ℕ) → Keeps (contents old.inner) (contents new.inner) →
    new.failures ≡ one_more old.failures → Stops contents old new piece (Fault Write)
stops_by_error contents old new piece kept count = ((0, keeps_is_nothing (contents old.inner) (contents new.inner) kept), count)

-- it took no byte
pub stops_dry : {W : Type 0} (contents : W → Option (List ℕ)) (old new : Metered W) (piece : List ℕ) (n : ℕ) → n ≡ 0 → 0 < length piece →
    Appends (contents old.inner) (contents new.inner) (take n piece) → new.failures ≡ count_after_call (is_failed_write {E = Unit {0}} (Ok n) piece) old.failures →
    Stops contents old new piece (Fault Write)
stops_dry contents old new [] n none some written count = absurd (omega arith)
stops_dry contents old new (c ∷ cs) zero none some written count = ((0, written), count)
stops_dry contents old new (c ∷ cs) (suc n) none some written count = absurd (omega arith)

-- it took some
goes_on : {W : Type 0} (contents : W → Option (List ℕ)) (old new : Metered W) (piece : List ℕ) (n : ℕ) → 0 < n →
    Appends (contents old.inner) (contents new.inner) (take n piece) → new.failures ≡ count_after_call (is_failed_write {E = Unit {0}} (Ok n) piece) old.failures →
    Grows contents old new (take n piece)
goes_on contents old new piece zero some written count = absurd (omega arith)
goes_on contents old new piece (suc n) some written count = (written, count)

-- what the rest does, the whole does
pub rest_grows : {W : Type 0} (contents : W → Option (List ℕ)) (old new : Metered W) (piece rest : List ℕ) (n : ℕ) → 0 < n →
    Appends (contents old.inner) (contents new.inner) (take n piece) → new.failures ≡ count_after_call (is_failed_write {E = Unit {0}} (Ok n) piece) old.failures →
    rest ≡ drop n piece → (m : Metered W) → Grows contents new m rest → Grows contents old m piece
rest_grows contents old new piece rest n some written count is m p =
    let whole : take n piece ++ rest ≡ piece = ap (λ (xs : List ℕ). take n piece ++ xs) is ∙ take-append-drop n piece in
    rw (sym whole) (grows_joins contents old new m (take n piece) rest (goes_on contents old new piece n some written count) p)

pub rest_stops : {W : Type 0} (contents : W → Option (List ℕ)) (old new : Metered W) (piece rest : List ℕ) (n : ℕ) → 0 < n →
    Appends (contents old.inner) (contents new.inner) (take n piece) → new.failures ≡ count_after_call (is_failed_write {E = Unit {0}} (Ok n) piece) old.failures →
    rest ≡ drop n piece → (m : Metered W) (fault : OrMemory WriteFault) → Stops contents new m rest fault → Stops contents old m piece fault
rest_stops contents old new piece rest n some written count is m fault p =
    let whole : take n piece ++ rest ≡ piece = ap (λ (xs : List ℕ). take n piece ++ xs) is ∙ take-append-drop n piece in
    rw (sym whole) (stops_after contents old new m (take n piece) rest fault (goes_on contents old new piece n some written count) p)

-- nothing is left
pub grows_done : {W : Type 0} (contents : W → Option (List ℕ)) (m : Metered W) (rest : List ℕ) → length rest ≡ 0 → Grows contents m m rest
grows_done contents m [] e = grows_none contents m
grows_done contents m (c ∷ cs) e = absurd (omega arith)
