-- *internal*: What it is to say what a rule forbids: laws, which `elaboration_rules` proves.
use Rattle.std.specs.Prelude.{◌≡◌, Option, Ok, Err}
use Rattle.basis.specs.declared.timescale.Timescale.{Timescale}
use Rattle.vwords.specs.Words.{Text}
use Rattle.vast.specs.NumberedModules.{SourceTree}
use Rattle.vdesign.specs.Design.{Design}
use Rattle.velab_expr.specs.declared.fault.Rule.{Rule}
use Rattle.velab_expr.specs.declared.fault.ElabFault.{ElabFault}
use Rattle.vhierarchy.specs.Instances.{elaborated}

-- This is what the rule forbids, said of a text and the name of its top: no text that has a design has it, and each that is refused
-- under the rule does.
pub record IsMeant (rule : Rule) (Broken : SourceTree → Option Text → Type 0) : Type 0 where
  pub never : (modules : SourceTree) (top : Option Text) (scale : Timescale) (design : Design) →
      elaborated modules top scale ≡ Ok design → ¬ Broken modules top
  pub told : (modules : SourceTree) (top : Option Text) (scale : Timescale) (fault : ElabFault) →
      elaborated modules top scale ≡ Err fault → fault.rule ≡ rule → Broken modules top
