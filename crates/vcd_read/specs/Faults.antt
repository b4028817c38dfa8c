-- *internal*: That a text is no dump, or none that can be compared.
use Rattle.std.specs.Prelude.{◌≡◌, ℕ}
use Rattle.basis.specs.declared.memory.OrMemory.{OrMemory}
use Rattle.basis.specs.declared.memory.OrMemory.TheVariants.{Fault}
use Rattle.vcd_read.specs.declared.fault.VcdFlaw.{VcdFlaw}
use Rattle.vcd_read.specs.declared.fault.VcdFault.{VcdFault}
use Rattle.vcd_read.specs.declared.fault.VcdFault.TheVariants.{NoDump}

-- for this reason, at some line
abbrev pub IsNoDump : VcdFlaw → OrMemory VcdFault → Type 0
IsNoDump flaw fault = (line : ℕ) × (fault ≡ Fault (NoDump line flaw))
