-- *product rule*: Why a call answers a fault: for a reason of its own, or for want of memory, which only a refused growth makes.
use Rattle.std.specs.Prelude.{Result, Ok, Err}
use Rattle.basis.specs.declared.memory.OrMemory.{OrMemory}
use Rattle.basis.specs.declared.memory.OrMemory.TheVariants.{Fault, Memory}
use Rattle.basis.specs.declared.memory.NoMemory.{NoMemory}

-- want of memory as a value; it has nothing to tell
abbrev pub no_memory : NoMemory
no_memory = record { _refused = tt }

-- a fault has this reason; want of memory needs none
abbrev pub Because : {F : Type 0} → (F → Type 0) → OrMemory F → Type 0
Because P (Fault f) = P f
Because P (Memory m) = Unit {0}

-- where a call answers a fault, the fault has this reason
abbrev pub IfFault : {A F : Type 0} → Result A (OrMemory F) → (F → Type 0) → Type 0
IfFault (Ok x) P = Unit {0}
IfFault (Err e) P = Because P e
