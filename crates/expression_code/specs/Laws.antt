-- *internal*: What the value of code is: that of its expression, wherever the values have the sizes and signs of their variables.
use Rattle.std.specs.Prelude.{◌≡◌, ℕ, ◌*◌, max, min, List, Some}
use Rattle.vbits.specs.Vectors.{Vector}
use Rattle.vdesign.specs.declared.action.Target.{Target}
use Rattle.vdesign.specs.Expressions.{ExpressionTree}
use Rattle.vvalue.specs.declared.size_and_sign.SizeAndSign.{SizeAndSign}
use Rattle.vvalue.specs.Targets.{targets_size}
use Rattle.vvalue.specs.Value.{Environment, value_of, self_determined_value, right_side, amount_in, delay_of}
use Rattle.expression_code.specs.Shapes.{AreShaped, AreReadShaped}
use Rattle.expression_code.specs.Code.{code_value}
use Rattle.expression_code.specs.CodeOf.{code_of, self_determined_code, right_side_code}
use Rattle.expression_code.specs.Guards.{guarded_value, guarded_expression, guarded_right_side}

-- 5.4, 5.5: in a context
abbrev pub IsValueInContext : Type 0
IsValueInContext = (now : Environment) (tree : ExpressionTree) (here : SizeAndSign) → AreShaped now.variables now.values →
    code_value now.values now.time (code_of now.variables tree here) ≡ value_of now tree here

-- the same where only the variables that it reads are known to have such values: who tests them at each evaluation tests no others
abbrev pub IsValueByReads : Type 0
IsValueByReads = (now : Environment) (tree : ExpressionTree) (here : SizeAndSign) → AreReadShaped now.variables now.values tree →
    code_value now.values now.time (code_of now.variables tree here) ≡ value_of now tree here

-- by itself
abbrev pub IsSelfDeterminedValue : Type 0
IsSelfDeterminedValue = (now : Environment) (tree : ExpressionTree) → AreShaped now.variables now.values →
    code_value now.values now.time (self_determined_code now.variables tree) ≡ self_determined_value now tree

-- 5.5.3: as the right side of an assignment to so many bits
abbrev pub IsRightSide : Type 0
IsRightSide = (now : Environment) (count : ℕ) (tree : ExpressionTree) → AreShaped now.variables now.values →
    code_value now.values now.time (right_side_code now.variables count tree) ≡ right_side now count tree

-- 9.7.1: as the amount of a delay
abbrev pub IsDelay : Type 0
IsDelay = (now : Environment) (amount : ExpressionTree) → AreShaped now.variables now.values →
    delay_of now amount ≡ amount_in (code_value now.values now.time (self_determined_code now.variables amount)) * now.factor

-- where its guards hold, the value of guarded code is that of the expression by itself
abbrev pub IsGuardedValue : Type 0
IsGuardedValue = (now : Environment) (tree : ExpressionTree) (v : Vector) →
    guarded_value now.values now.time (guarded_expression now.variables tree) ≡ Some v → v ≡ self_determined_value now tree

-- 5.5.3: and as the right side of an assignment, at the bits that its targets have together, 1 to 64
abbrev pub IsGuardedRightSide : Type 0
IsGuardedRightSide = (now : Environment) (targets : List Target) (tree : ExpressionTree) (v : Vector) →
    guarded_value now.values now.time (guarded_right_side now.variables targets tree) ≡ Some v →
    v ≡ right_side now (max 1 (min 64 (targets_size now targets))) tree
