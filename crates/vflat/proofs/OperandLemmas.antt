-- The value of the code of an operand, where it has one, is the operand's.
use Rattle.std.proofs.Common.{◌≡◌, ℕ, Option, Some, sym, ap, ◌∙◌}
use Rattle.std.specs.Prelude.{slice_get}
use Rattle.std.specs.Option.{ForSome}
use Rattle.vbits.specs.Vectors.{Vector}
use Rattle.vdesign.specs.Design.{Design}
use Rattle.vdesign.specs.declared.action.Action.{Action}
use Rattle.vvalue.specs.Value.{Environment}
use Rattle.vmodel.specs.Operands.{operand}
use Rattle.vcode.specs.Code.{Code, operand_value}
use Rattle.vcompile.specs.CodeOf.{code_of}
use Rattle.vcompile.proofs.OperandLemmas.{operand_is}

pub operand_known : (design : Design) (code : Code) (place : ℕ) (action : Action) (now : Environment) (found : Option Vector) →
    found ≡ operand_value code place now.values now.time → code ≡ code_of design → slice_get design.actions place ≡ Some action →
    now.variables ≡ design.variables → ForSome found (λ value. value ≡ operand now action)
operand_known design code place action now found is so there same =
    λ value has. operand_is design place action now value there same (ap (λ c. operand_value c place now.values now.time) (sym so) ∙ sym is ∙ has)
