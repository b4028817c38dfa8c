-- *product rule*: What an answer says of the runs of a machine and the dump of another simulator: `Explains`, `Refutes` and `ClosesTo` of
-- `matching`, of the runs of the machine (`IsExplained`) and what the dump shows (`Shows`).
use Rattle.std.specs.Prelude.{◌≡◌, ℕ, List, Option, None}
use Rattle.vmachine.specs.declared.machine_state.MachineState.{MachineState}
use Rattle.vmachine.specs.Machines.{machine_rules, rank_of}
use Rattle.matching.specs.Answers.{ClosesTo, Explains, Refutes}
use Rattle.matching.specs.declared.answer.Explanation.{Explanation}
use Rattle.matching.specs.declared.answer.Unexplained.{Unexplained}
use Rattle.matching.specs.declared.answer.Cut.{Cut}
use Rattle.pair_match.specs.Parting.{ClosesBoth, ExplainsBoth, PartsBoth}
use Rattle.pair_match.specs.declared.pair.PairReference.{PairReference}
use Rattle.dump_match.specs.Showing.{Reads, piece_in}
use Rattle.dump_match.specs.declared.dump.DumpReference.{DumpReference}

-- the whole dump was read, and the run explains it
abbrev pub ExplainsDump : {R : Type 0} → (R → Option (List ℕ)) → ℕ → DumpReference R → DumpReference R → Explanation MachineState → Type 0
ExplainsDump remaining most old new =
    Explains (machine_rules old.machine.now) (rank_of old.machine.now) most (piece_in old) (λ pieces. Reads remaining old pieces new) (new.slots.ahead ≡ None)

-- no run explains it up to the time
abbrev pub RefutesDump : {R : Type 0} → (R → Option (List ℕ)) → ℕ → DumpReference R → DumpReference R → Unexplained MachineState → Type 0
RefutesDump remaining most old new =
    Refutes (machine_rules old.machine.now) (rank_of old.machine.now) most (piece_in old) (λ pieces. Reads remaining old pieces new)
    (new.slots.ahead)

-- some run explains it up to the time that was closed
abbrev pub ClosesDump : {R : Type 0} → (R → Option (List ℕ)) → ℕ → DumpReference R → DumpReference R → Cut → Type 0
ClosesDump remaining most old new =
    ClosesTo (machine_rules old.machine.now) (rank_of old.machine.now) most (piece_in old) (λ pieces. Reads remaining old pieces new)
    (new.slots.ahead)

-- ---- of two dumps, and the runs of the machine of the first: `ExplainsBoth`, `PartsBoth` and `ClosesBoth` of `pair_match`

-- nothing is left of the dump
abbrev pub IsAtItsEnd : {R : Type 0} → DumpReference R → Type 0
IsAtItsEnd reference = reference.slots.ahead ≡ None

-- the time of what it shows next
abbrev pub ahead_in : {R : Type 0} → DumpReference R → Option ℕ
ahead_in reference = reference.slots.ahead

-- one of them was read to its end, and the run explains both up to the last time that was read
abbrev pub ExplainsDumps : {R : Type 0} → (R → Option (List ℕ)) → ℕ → PairReference (DumpReference R) → PairReference (DumpReference R) →
    Explanation MachineState → Type 0
ExplainsDumps remaining most old new =
    ExplainsBoth (machine_rules old.first.machine.now) (rank_of old.first.machine.now) most piece_in ahead_in (Reads remaining) IsAtItsEnd old new

-- no run explains both up to the time
abbrev pub PartsDumps : {R : Type 0} → (R → Option (List ℕ)) → ℕ → PairReference (DumpReference R) → PairReference (DumpReference R) →
    Unexplained MachineState → Type 0
PartsDumps remaining most old new =
    PartsBoth (machine_rules old.first.machine.now) (rank_of old.first.machine.now) most piece_in ahead_in (Reads remaining) old new

-- some run explains both up to the time that was closed
abbrev pub ClosesDumps : {R : Type 0} → (R → Option (List ℕ)) → ℕ → PairReference (DumpReference R) → PairReference (DumpReference R) →
    Cut → Type 0
ClosesDumps remaining most old new =
    ClosesBoth (machine_rules old.first.machine.now) (rank_of old.first.machine.now) most piece_in ahead_in (Reads remaining) old new
