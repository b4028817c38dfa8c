-- *product rule*: What reading a text to its end takes from a reader.
use Rattle.std.specs.Prelude.{◌≡◌, ℕ, zero, suc, ◌+◌, ◌<◌, ◌≤◌, List, Option, length}
use Rattle.std.specs.Io.KnownBytes.{Consumes, IsAtEnd}
use Rattle.byte_sinks.specs.Metered.{one_more}
use Rattle.vrace.specs.Replays.{limit}
use Rattle.vrace.specs.declared.fault.Fault.{Fault}
use Rattle.vrace.specs.declared.fault.Fault.TheVariants.{Memory, Read, TooLong}

-- all that the reader had, where it tells that; no more than a text may have
pub record IsAllOf (old new : Option (List ℕ)) (text : List ℕ) : Type 0 where
  pub taken : Consumes old new text
  pub at_end : IsAtEnd new
  pub short : length text ≤ limit

-- the count after so many reads
abbrev pub after_reads : ℕ → ℕ → ℕ
after_reads zero count = count
after_reads (suc n) count = one_more (after_reads n count)

-- so many reads or fewer lead from one count to the other
abbrev pub ReadsLead : ℕ → ℕ → ℕ → Type 0
ReadsLead most old new = (n : ℕ) × (n ≤ most) × (new ≡ after_reads n old)

-- a text is read by no more reads than there may be bytes, and one
abbrev pub HasRead : ℕ → ℕ → Type 0
HasRead old new = ReadsLead (limit + 1) old new

-- how many bytes are asked for at once
abbrev pub most : ℕ
most = 65536

-- what was taken from a reader before it was refused
abbrev pub Took : Option (List ℕ) → Option (List ℕ) → (List ℕ → Type 0) → Type 0
Took old new P = (bytes : List ℕ) × Consumes old new bytes × P bytes

-- more than a text may have, by no more than what is asked for at once
abbrev pub IsTooMuch : List ℕ → Type 0
IsTooMuch bytes = (limit < length bytes) × (length bytes ≤ limit + most)

-- what a fault says of a reader, of what was taken from it, and of the count of its failures
abbrev pub IsReadReason : Option (List ℕ) → Option (List ℕ) → ℕ → ℕ → Fault → Type 0
IsReadReason old new before after (Memory m) = Took old new (λ bytes. length bytes ≤ limit + most) × (after ≡ before)
IsReadReason old new before after Read = Took old new (λ bytes. length bytes ≤ limit) × (after ≡ one_more before)
IsReadReason old new before after TooLong = Took old new IsTooMuch × (after ≡ before)
IsReadReason old new before after other = ⊥

-- some bytes were taken, the reader didn't fail, and nothing taken means that the reader is at its end
pub record IsTaken (old new : Option (List ℕ)) (before after : ℕ) (bytes : List ℕ) : Type 0 where
  pub taken : Consumes old new bytes
  pub at_end : length bytes ≡ 0 → IsAtEnd new
  pub kept : after ≡ before
