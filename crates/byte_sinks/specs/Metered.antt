-- *product rule*: Readers and writers whose failures are counted, and what pieces of text make of such a writer.
use Rattle.std.specs.Prelude.{◌≡◌, ℕ, zero, suc, ◌+◌, ◌%◌, ◌^◌, Bool, true, false, if◌then◌else◌, List, [], ◌∷◌, take, Option, Result, Ok, Err}
use Rattle.std.specs.Io.KnownBytes.{Appends, ReadConsumes, WriteAppends}
use Rattle.byte_sinks.specs.declared.metered.Metered.{Metered}
use Rattle.byte_sinks.specs.declared.fault.WriteFault.{WriteFault}
use Rattle.byte_sinks.specs.declared.fault.WriteFault.TheVariants.{Write}
use Rattle.basis.specs.declared.memory.OrMemory.{OrMemory}
use Rattle.basis.specs.declared.memory.OrMemory.TheVariants.{Fault, Memory}

-- the reader below lost the bytes that were read
abbrev pub Reads : {R E : Type 0} → (R → Option (List ℕ)) → Metered R → Result ℕ E → List ℕ → Metered R → Type 0
Reads remaining old result buf new = ReadConsumes (remaining old.inner) (remaining new.inner) result buf

-- the writer below got those that were written
abbrev pub Writes : {W E : Type 0} → (W → Option (List ℕ)) → Metered W → Result ℕ E → List ℕ → Metered W → Type 0
Writes contents old result buf new = WriteAppends (contents old.inner) (contents new.inner) result buf

-- a call of `write` failed: an error, or no byte was taken of a piece that isn't empty
abbrev pub is_failed_write : {E : Type 0} → Result ℕ E → List ℕ → Bool
is_failed_write (Err e) piece = true
is_failed_write (Ok zero) [] = false
is_failed_write (Ok zero) (c ∷ cs) = true
is_failed_write (Ok (suc n)) piece = false

-- the count after one failure more: it is kept in 64 bits
abbrev pub one_more : ℕ → ℕ
one_more n = (n + 1) % 2 ^ 64

-- the count after a call that failed or not
abbrev pub count_after_call : Bool → ℕ → ℕ
count_after_call failed n = if failed then one_more n else n

-- the count after this fault: want of memory is no failure of the writer
abbrev pub count_after : OrMemory WriteFault → ℕ → ℕ
count_after (Memory m) n = n
count_after (Fault Write) n = one_more n

-- the text was written, and nothing failed; `contents` says what a writer holds, where it tells
abbrev pub Grows : {W : Type 0} → (W → Option (List ℕ)) → Metered W → Metered W → List ℕ → Type 0
Grows contents old new text = Appends (contents old.inner) (contents new.inner) text × (new.failures ≡ old.failures)

-- this fault came somewhere in the text, and what stands before that place was written
abbrev pub Stops : {W : Type 0} → (W → Option (List ℕ)) → Metered W → Metered W → List ℕ → OrMemory WriteFault → Type 0
Stops contents old new text fault =
    ((n : ℕ) × Appends (contents old.inner) (contents new.inner) (take n text)) × (new.failures ≡ count_after fault old.failures)

-- the same of a writer as a byte sink: it took the text
abbrev pub Written : {W : Type 0} → (W → Option (List ℕ)) → Metered W → List ℕ → Metered W → Type 0
Written contents old text new = Grows contents old new text

-- and it failed somewhere in the text
abbrev pub Broken : {W : Type 0} → (W → Option (List ℕ)) → Metered W → List ℕ → WriteFault → Metered W → Type 0
Broken contents old text fault new = Stops contents old new text (Fault fault)
