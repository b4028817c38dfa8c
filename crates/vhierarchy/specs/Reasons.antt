-- *product rule*: Why a text has no design: the first rule that it breaks, and at which word (docs/FAULTS.md).
use Rattle.std.specs.Prelude.{◌≡◌, Option}
use Rattle.vwords.specs.Words.{Text}
use Rattle.vast.specs.NumberedModules.{SourceTree}
use Rattle.basis.specs.declared.timescale.Timescale.{Timescale}
use Rattle.vdesign.specs.Design.{Design}
use Rattle.velab_expr.specs.declared.fault.ElabFault.{ElabFault}
use Rattle.velab_expr.specs.Rules.{IsBroken}
use Rattle.vhierarchy.specs.Instances.{broken_rule, Elaborates}

-- what a fault says of the text: this is the first rule that it breaks
abbrev pub IsDesignReason : SourceTree → Option Text → ElabFault → Type 0
IsDesignReason tree top = IsBroken (broken_rule tree top)

-- no design is the text's, under no timescale
abbrev pub HasNoDesign : SourceTree → Option Text → Type 0
HasNoDesign tree top = (scale : Timescale) (design : Design) → Elaborates tree top scale design → ⊥

-- a design is the text's only one under the timescale
abbrev pub IsOnlyDesign : SourceTree → Option Text → Timescale → Design → Type 0
IsOnlyDesign tree top scale design = (other : Design) → Elaborates tree top scale other → other ≡ design
